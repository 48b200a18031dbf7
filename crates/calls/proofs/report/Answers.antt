-- `calls::report` meets its contract: the list is taken apart, and the report is the session's over the numbers.
use Rattle.std.specs.Prelude.{Err}
use Rattle.list.specs.Records.{records}
use Rattle.table.specs.Table.{tab}
use Rattle.session.specs.declared.SessionError.TheVariants.{NotSession, BadRoom}
use Rattle.calls.specs.Calls.{lent, reporting, first}
use Rattle.calls.proofs.Misfit.{refusal, report-misfit}
use Rattle.calls.proofs.Rebuilt.{tells-records}
use Rattle.calls.proofs.report.Goals as goal

pub returns : goal.returns
unfolding first
returns c =
    let a = c.args in
    let now = c.take_apart.new in
    let t = tab a.xors.now a.flows.now a.unknowns.now a.positions.now a.marks.now in
    tells-records 3072 (reporting a.s) (refusal a.s (Err NotSession) (Err BadRoom)) (report-misfit a.s)
    (lent a.filter.now t a.packets.now a.list.now) c.length_of.ensures c.taken_of-n.ensures.value (records now.keys now.counts now.flags) c.take_apart.ensures
    c.report.result c.report.ensures
