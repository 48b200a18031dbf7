-- `test8::numbers_in` meets its contract.
use Rattle.std.proofs.Common.{refl, le-leb, length, arith}
use borrow.Author.Tests.{lt-leb}
use Rattle.list.specs.Seen.{list_seen}
use Rattle.test8.proofs.Answers.{numbers-is}
use Rattle.test8.proofs.numbers_in.Goals as goal

pub returns-then-handed-flows : goal.returns-then-handed-flows
returns-then-handed-flows c =
    let a = c.args in
    rw c.open_in.ensures.0 (rw (← c.flagged_in-handed.ensures.0, le-leb c.flagged_in-handed.result (length a.flows.now) (omega (arith, c.if-handed-flows.true))) at (numbers-is a.n a.flows.now (list_seen a.list) refl))

pub returns-else-handed-flows : goal.returns-else-handed-flows
returns-else-handed-flows c =
    let a = c.args in
    rw (lt-leb _ _ c.if-handed-flows.false) (rw (← c.flagged_in-handed.ensures.0, lt-leb _ _ c.if-handed-flows.false) at (numbers-is a.n a.flows.now (list_seen a.list) refl))
