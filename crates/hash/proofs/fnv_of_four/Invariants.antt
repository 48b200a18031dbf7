-- `hash::fnv_of_four` meets its contract: each chain has absorbed its slice so far.
use mathlib.Core.Path.{◌≡◌}
use mathlib.Core.List.{[], ◌∷◌}
use lib.ListN.{take}
use Rattle.hash.specs.Fnv.{fnv}
use Rattle.hash.proofs.fnv_of_four.Given as goal

abbrev pub invariant-loop-i : goal.invariant-loop-i
invariant-loop-i l = l.f ≡ (fnv (take l.i l.a) ∷ fnv (take l.i l.b) ∷ fnv (take l.i l.c) ∷ fnv (take l.i l.d) ∷ [])
