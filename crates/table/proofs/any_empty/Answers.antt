use Rattle.std.proofs.Common.{refl, rules, eqb, get_or}
use borrow.Author.Tests.{tests}
use Rattle.laws.proofs.Ranges.{any_range}
use Rattle.table.specs.Table.{any_empty}
use Rattle.table.proofs.any_empty.Goals as goal

pub returns : goal.returns
unfolding any_empty
returns c =
    let a = c.args in
    any_range a.k (λ i. eqb (get_or a.flows.now (get_or a.at.at i 0) 0) 0) _ _ _ _ refl (λ x b q k. search (rules, tests)) c.any.ensures.ran
