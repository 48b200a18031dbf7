-- `hash::hashes` meets its contract: the chains have absorbed the key so far.
use mathlib.Core.Path.{◌≡◌}
use lib.ListN.{take}
use Rattle.laws.specs.Upto.{list_upto}
use Rattle.hash.specs.Fnv.{step}
use Rattle.hash.specs.Chains.{absorb_all}
use Rattle.hash.proofs.hashes.Given as goal

abbrev pub invariant-loop-b : goal.invariant-loop-b
invariant-loop-b g l = l.states ≡ absorb_all (list_upto g.row.N (step l.fn.f.state)) (take l.b-index l.key)
