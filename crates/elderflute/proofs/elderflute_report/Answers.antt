-- The session that the numbers are is reported on.
use Rattle.elderflute.proofs.Answers.{report-call}
use Rattle.elderflute.proofs.elderflute_report.Goals as goal

pub returns : goal.returns
returns c =
    let a = c.args in
    report-call a.numbers.now a.listed _ c.session_of-s.ensures a.figures.now c.report-a.ensures c.put_report.ensures
