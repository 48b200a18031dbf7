-- `opening::copy_block` meets its contract.
use Rattle.std.proofs.Common.{◌≡◌, refl, ap, ◌∙◌, arith}
use Rattle.laws.specs.Upto.{each_upto}
use Rattle.opening.specs.Blocks.{fields, copied_cell, copied_block}
use Rattle.opening.proofs.Copies.{block-turn}
use Rattle.opening.proofs.copy_block.Goals as goal

pub loop-d-init : goal.loop-d-init
unfolding each_upto
loop-d-init c = refl

pub loop-d-preserved : goal.loop-d-preserved
loop-d-preserved c =
    let a = c.args in
    block-turn a.shape.layout a.payload.now a.first c.loop-d.d (fields a.xors.now a.flows.now a.packets.now) c.loop-d.invariant c.copy_cell.ensures

pub returns : goal.returns
unfolding copied_block
returns c =
    let a = c.args in
    let e : c.loop-d.d ≡ a.shape.layout.cells = omega arith in
    c.loop-d.invariant
    ∙ ap (λ d. each_upto d (copied_cell a.shape.layout a.payload.now a.first) (fields a.xors.now a.flows.now a.packets.now)) e
