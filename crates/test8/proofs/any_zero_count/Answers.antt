-- `test8::any_zero_count` meets its contract.
use Rattle.std.proofs.Common.{◌&&◌, eqb, get_or, refl, rules}
use borrow.Author.Tests.{tests}
use Rattle.laws.proofs.Ranges.{any_range}
use Rattle.list.specs.Records.{is_known}
use Rattle.test8.specs.Given.{flag_set}
use Rattle.test8.specs.Test8.{zero_count}
use Rattle.test8.proofs.any_zero_count.Goals as goal

pub returns : goal.returns
unfolding zero_count is_known
returns c =
    let l = c.args.list in
    any_range c.args.n (λ i. flag_set 0 (get_or l.flags.now i 0) && eqb (get_or l.counts.now i 0) 0) _ _ _ _ refl (λ x b q k. search (rules, tests)) c.any.ensures.ran
