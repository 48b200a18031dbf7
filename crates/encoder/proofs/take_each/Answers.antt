-- `encoder::take_each` meets its contract: one cell more.
use mathlib.Core.Path.{refl, sym, ap₂, ◌∙◌}
use native.Mathlib.Omega.{arith}
use Prim.Native.Nat.{◌<◌}
use lib.ListN.{get_or}
use Rattle.std.proofs.lemmas.List.{get_or-take, length-take}
use Rattle.laws.specs.Upto.{each_upto}
use Rattle.laws.proofs.Upto.{each_more}
use Rattle.cell.specs.Cell.{take_at_place}
use Rattle.encoder.specs.Loops.{take_each}
use Rattle.encoder.proofs.take_each.Goals as goal

pub loop-c-init : goal.loop-c-init
unfolding take_each each_upto
loop-c-init c = refl

pub loop-c-preserved : goal.loop-c-preserved
unfolding take_each
loop-c-preserved c =
    let a = c.args in
    let i = c.loop-c.c-index in
    let low : i < a.shape.sizes.k = omega (arith, length-take a.shape.sizes.k a.at.at) in
    let step = take_at_place a.shape.layout a.new a.key.now in
    c.take_in.ensures ∙ ap₂ step (get_or-take a.shape.sizes.k a.at.at i 0 low) c.loop-c.invariant
    ∙ sym (each_more i (λ i. step (get_or a.at.at i 0)) a.cells.now)
