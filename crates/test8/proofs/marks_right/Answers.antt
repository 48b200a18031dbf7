-- `test8::marks_right` meets its contract.
use Rattle.std.proofs.Common.{length, refl, rules}
use borrow.Author.Tests.{tests}
use Rattle.laws.proofs.Ranges.{all_range}
use Rattle.marks.specs.Marks.{marked}
use Rattle.table.specs.Table.{pure_at}
use Rattle.test8.specs.Test8.{agrees, marks_right}
use Rattle.test8.proofs.marks_right.Goals as goal

pub returns : goal.returns
unfolding marks_right
returns c =
    let a = c.args in
    let s = a.p.shape in
    rw (← c.requires.1) (all_range (length a.flows.now) (λ d. agrees (marked a.marks.now d) (pure_at s.layout s.sizes a.p.salt a.xors.now a.flows.now d)) _ _ _ _ refl
    (λ x b q k. search (rules, tests)) c.all.ensures.ran)
