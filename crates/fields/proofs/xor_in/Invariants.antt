-- `fields::xor_in` meets its contract.
use mathlib.Core.Path.{◌≡◌}
use Rattle.fields.proofs.Runs.{xor_upto}
use Rattle.fields.proofs.xor_in.Given as goal

abbrev pub invariant-loop-i : goal.invariant-loop-i
invariant-loop-i l = l.s ≡ xor_upto l.i l.initial.s l.bytes
