-- `test8::open_in` meets its contract.
use Rattle.std.proofs.Common.{◌≡◌, ◌∙◌, sym, ap, length, ltb, arith, rules}
use Rattle.std.proofs.iter.runs.Made.{chains}
use Rattle.std.proofs.lemmas.List.Sums.{count_by-le-length}
use Rattle.std.proofs.Math.Seq.{take-length}
use Rattle.std.specs.List.{count_by}
use Rattle.table.specs.Table.{open_in}
use Rattle.test8.proofs.Answers.{counted}
use Rattle.test8.proofs.open_in.Goals as goal

pub returns : goal.returns
unfolding open_in
returns c =
    let s = c.args.flows.now in
    let e : c.count.result ≡ count_by (ltb 0) s = search (rules, chains) in
    (e ∙ ap (count_by (ltb 0)) (sym (take-length s)) ∙ counted (ltb 0) s (length s) (omega arith), omega (arith, e, count_by-le-length (ltb 0) s))
