-- `test8::flagged_in` meets its contract.
use Rattle.std.proofs.Common.{◌≡◌, ◌∙◌, take, arith, rules}
use Rattle.std.proofs.iter.runs.Made.{chains}
use Rattle.std.proofs.lemmas.List.{length-take-le}
use Rattle.std.proofs.lemmas.List.Sums.{count_by-le-length}
use Rattle.std.specs.List.{count_by}
use Rattle.test8.specs.Given.{flag_set}
use Rattle.test8.proofs.Answers.{counted}
use Rattle.test8.proofs.flagged_in.Goals as goal

pub returns : goal.returns
returns c =
    let a = c.args in
    let few = c.requires.0 in
    let e : c.count.result ≡ count_by (flag_set a.bit) (take a.n a.flags.now) = search (rules, chains) in (
      e ∙ counted (flag_set a.bit) a.flags.now a.n few,
      omega (arith, e, count_by-le-length (flag_set a.bit) (take a.n a.flags.now), length-take-le a.n a.flags.now few),
    )
