-- `hash::step_all` meets its contract.
use mathlib.Core.Path.{refl, ap, ◌∙◌}
use Prim.Native.Nat.{ℕ}
use native.Mathlib.Omega.{arith}
use lib.ListN.{replicate, length-replicate}
use Rattle.std.specs.Prelude.{slice_index}
use Rattle.std.proofs.lemmas.List.{get_or-replicate}
use Rattle.hash.specs.Fnv.{step}
use Rattle.laws.specs.Upto.{list_upto}
use Rattle.laws.proofs.Upto.{list_same, filling, filled}
use Rattle.hash.proofs.step_all.Goals as goal

pub returns-then-this-le4 : goal.returns-then-this-le4
returns-then-this-le4 g c =
    c.step_each.ensures ∙ list_same g.row.N _ _ (λ i l. ap (step (slice_index c.args.states i)) (get_or-replicate g.row.N i c.args.b 0 l))

pub loop-i-init : goal.loop-i-init
unfolding list_upto
loop-i-init g c = refl

pub loop-i-preserved : goal.loop-i-preserved
loop-i-preserved g c =
    filling c.loop-i.i (λ j. step (slice_index c.args.states j) c.args.b) (replicate g.row.N 0)
    (omega (arith, length-replicate {A = ℕ} g.row.N 0, c.loop-i-test.true)) c.loop-i.invariant c.byte.ensures

pub returns : goal.returns
returns g c =
    filled c.loop-i.i g.row.N (λ j. step (slice_index c.args.states j) c.args.b) (replicate g.row.N 0) (length-replicate {A = ℕ} g.row.N 0)
    c.loop-i.auto.i-end c.loop-i-test.false c.loop-i.invariant
