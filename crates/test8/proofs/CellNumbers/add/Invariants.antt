-- `test8::CellNumbers::add` meets its contract.
use Rattle.std.proofs.Common.{◌≡◌, get_or}
use Rattle.test8.specs.Given.{renewed, one_more, mixed_in}
use Rattle.test8.proofs.CellNumbers.add.Given as goal

abbrev pub invariant-loop-c : goal.invariant-loop-c
invariant-loop-c l =
    (l.self.unknowns ≡ renewed (one_more l.position) (λ j. get_or l.fn.at.at j 0) l.c-index l.initial.self.unknowns)
    × (l.self.positions ≡ renewed (mixed_in l.position) (λ j. get_or l.fn.at.at j 0) l.c-index l.initial.self.positions)
