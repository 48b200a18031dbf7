-- The bits below the index are set.
use Rattle.std.proofs.Common.{◌≡◌}
use Rattle.filter.specs.Filter.{with_bits}
use Rattle.filter.proofs.set_all.Given as goal

abbrev pub invariant-loop-n : goal.invariant-loop-n
invariant-loop-n l = l.filter ≡ with_bits l.fn.filter l.fn.bits.at l.n-index
