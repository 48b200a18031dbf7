-- `hash::places` meets its contract.
use mathlib.Core.Path.{◌≡◌}
use mathlib.Core.List.{◌++◌}
use lib.ListN.{drop}
use Rattle.std.specs.Prelude.{slice_index}
use Rattle.laws.specs.Upto.{list_upto}
use Rattle.hash.specs.Fnv.{place}
use Rattle.hash.proofs.places.Given as goal

abbrev pub invariant-loop-i : goal.invariant-loop-i
invariant-loop-i g l = l.at ≡ list_upto l.i (λ i. place (slice_index l.hashes i) l.n) ++ drop l.i l.initial.at
