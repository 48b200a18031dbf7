-- The session that the numbers are is settled.
use Rattle.elderflute.proofs.Answers.{settle-call}
use Rattle.elderflute.proofs.elderflute_settle.Goals as goal

pub returns : goal.returns
returns c =
    let a = c.args in
    settle-call a.numbers.now a.listed.now _ c.session_of-s.ensures a.cell.now c.settle-a.ensures c.put_settled.ensures
