-- `fields::is_zero` meets its contract.
use mathlib.Core.Path.{◌≡◌}
use lib.Dec.{eqb}
use lib.ListN.{get_or}
use Rattle.laws.specs.Upto.{all_upto}
use Rattle.fields.proofs.is_zero.Given as goal

abbrev pub invariant-loop-byte : goal.invariant-loop-byte
invariant-loop-byte l = eqb l.any 0 ≡ all_upto l.byte-index (λ j. eqb (get_or l.s j 0) 0)
