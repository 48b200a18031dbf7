-- `hash::Fnv::bytes` meets its contract.
use mathlib.Core.Path.{◌≡◌}
use lib.ListN.{take}
use Rattle.hash.specs.Fnv.{absorb}
use Rattle.hash.proofs.Fnv.bytes.Given as goal

abbrev pub invariant-loop-b : goal.invariant-loop-b
invariant-loop-b l = l.f.state ≡ absorb l.initial.f.state (take l.b-index l.s)
