-- `opening::copy_filter` meets its contract.
use Rattle.std.proofs.Common.{◌≡◌}
use Rattle.opening.proofs.Copies.{filter_to}
use Rattle.opening.proofs.copy_filter.Given as goal

abbrev pub invariant-loop-n : goal.invariant-loop-n
invariant-loop-n l = l.filter ≡ filter_to l.image l.initial.filter l.n
