-- `session::report_in` meets its contract.
use mathlib.Core.Path.{ap}
use Rattle.std.proofs.lemmas.Result.{err_from_is_err_and}
use Rattle.index.proofs.Index.{empty-zeros}
use Rattle.room.specs.Seen.{memory_seen}
use Rattle.session.proofs.Answers.{passes, flags-reach, report-refused, report-passed, tests-of}
use Rattle.session.proofs.report_in.Goals as goal

pub tested-requires : goal.tested-requires
tested-requires c = (c.requires, empty-zeros)

pub returns-in_err-tested : goal.returns-in_err-tested
returns-in_err-tested c =
    let p = err_from_is_err_and c.from_residual.result c.from_residual.ensures.1 in
    let e = tests-of c.args.l c.args.s _ c.tested.ensures.test (ap memory_seen c.new-room.ensures) in
    rw (p.1, p.2) (report-refused c.args.l c.args.s _ _ e _ c.in_err-tested.was)

pub report_of-requires : goal.report_of-requires
report_of-requires c =
    let e = tests-of c.args.l c.args.s _ c.tested.ensures.test (ap memory_seen c.new-room.ensures) in
    flags-reach c.args.l c.args.s _ c.requires (passes c.args.l c.args.s _ _ e c.in_ok-tested.was)

pub returns : goal.returns
returns c =
    let e = tests-of c.args.l c.args.s _ c.tested.ensures.test (ap memory_seen c.new-room.ensures) in
    report-passed c.args.l c.args.s _ _ e c.in_ok-tested.was c.report_of.ensures
