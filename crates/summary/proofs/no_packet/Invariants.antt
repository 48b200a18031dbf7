-- `summary::no_packet`: what is ORed together is 0 just where all so far are.
use mathlib.Core.Path.{◌≡◌}
use lib.Dec.{eqb}
use lib.ListN.{get_or}
use Rattle.laws.specs.Upto.{all_upto}
use Rattle.summary.proofs.no_packet.Given as goal

abbrev pub invariant-loop-count : goal.invariant-loop-count
invariant-loop-count l = eqb l.any 0 ≡ all_upto l.count-index (λ j. eqb (get_or l.packets j 0) 0)
