-- `hash::indexed` meets its contract.
use mathlib.Core.Path.{◌≡◌}
use mathlib.Core.List.{◌++◌}
use lib.ListN.{drop}
use Rattle.laws.specs.Upto.{list_upto}
use Rattle.hash.specs.Fnv.{step}
use Rattle.hash.proofs.indexed.Given as goal

abbrev pub invariant-loop-i : goal.invariant-loop-i
invariant-loop-i g l = l.states ≡ list_upto l.i (step l.f.state) ++ drop l.i l.initial.states
