-- `hash::step_all` meets its contract.
use mathlib.Core.Path.{◌≡◌}
use mathlib.Core.List.{◌++◌}
use lib.ListN.{drop}
use Rattle.std.specs.Prelude.{slice_index}
use Rattle.laws.specs.Upto.{list_upto}
use Rattle.hash.specs.Fnv.{step}
use Rattle.hash.proofs.step_all.Given as goal

abbrev pub invariant-loop-i : goal.invariant-loop-i
invariant-loop-i g l = l.next ≡ list_upto l.i (λ i. step (slice_index l.states i) l.b) ++ drop l.i l.initial.next
