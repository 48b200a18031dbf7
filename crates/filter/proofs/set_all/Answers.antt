-- `filter::set_all` meets its contract: one bit more.
use mathlib.Core.Path.{refl, sym, ap₂, ◌∙◌}
use native.Mathlib.Omega.{arith}
use Prim.Native.Nat.{◌<◌}
use lib.ListN.{get_or}
use Rattle.std.proofs.lemmas.List.{get_or-take, length-take}
use Rattle.laws.specs.Upto.{each_upto}
use Rattle.laws.proofs.Upto.{each_more}
use Rattle.filter.specs.Filter.{with_bit, with_bits}
use Rattle.filter.proofs.set_all.Goals as goal

pub loop-n-init : goal.loop-n-init
unfolding with_bits each_upto
loop-n-init c = refl

pub loop-n-preserved : goal.loop-n-preserved
unfolding with_bits
loop-n-preserved c =
    let a = c.args in
    let i = c.loop-n.n-index in
    let low : i < a.kf = omega (arith, length-take a.kf a.bits.at) in
    c.set_bit.ensures ∙ ap₂ with_bit c.loop-n.invariant (get_or-take a.kf a.bits.at i 0 low)
    ∙ sym (each_more i (λ i f. with_bit f (get_or a.bits.at i 0)) a.filter.now)
