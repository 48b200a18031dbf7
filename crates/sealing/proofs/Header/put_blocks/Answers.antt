-- `sealing::Header::put_blocks` meets its contract: the loop holds the blocks so far, and behind them what stood there.
use mathlib.Core.Path.{refl, ◌∙◌}
use native.Mathlib.Omega.{arith}
use Rattle.laws.specs.Upto.{join_upto}
use Rattle.sealing.proofs.Stores.{blocks-turn, blocks-all}
use Rattle.sealing.proofs.Header.put_blocks.Goals as goal

pub loop-n-init : goal.loop-n-init
unfolding join_upto
loop-n-init c = refl

pub loop-n-preserved : goal.loop-n-preserved
loop-n-preserved c =
    let a = c.args in
    let h = a.self in
    blocks-turn h.kind h.shape.sizes h.salt h.slot a.first a.width a.bytes.now c.requires.1
    c.loop-n.n a.part.now c.loop-n.invariant c.put_block.ensures

pub returns : goal.returns
returns c =
    let a = c.args in
    let h = a.self in
    c.loop-n.invariant
    ∙ blocks-all h.kind h.shape.sizes h.salt h.slot a.first a.width a.bytes.now c.requires.1
    c.loop-n.n a.count a.part.now (omega arith) c.requires.3
