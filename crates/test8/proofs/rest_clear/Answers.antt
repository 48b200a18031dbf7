-- `test8::rest_clear` meets its contract.
use Rattle.std.proofs.Common.{◌+◌, ◌-◌, ◌*◌, length, not, refl, rules}
use borrow.Author.Tests.{tests}
use Rattle.laws.proofs.Ranges.{all_range}
use Rattle.marks.specs.Marks.{marked}
use Rattle.test8.specs.Test8.{rest_clear}
use Rattle.test8.proofs.rest_clear.Goals as goal

pub returns : goal.returns
unfolding rest_clear
returns c =
    let a = c.args in
    rw (← c.requires.0) (all_range (length a.marks.now * 64 - a.cells) (λ j. not (marked a.marks.now (a.cells + j))) _ _ _ _ refl
    (λ x b q k. search (rules, tests)) c.all.ensures.ran)
