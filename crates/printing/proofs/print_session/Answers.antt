-- One law for each answer of settling.
use native.Mathlib.Omega.{arith}
use Rattle.list.specs.Records.{records}
use Rattle.table.specs.Table.{tab}
use Rattle.room.specs.Memory.{memory}
use Rattle.lines.proofs.Lines.{put_same}
use Rattle.printing.proofs.Settled.{session-listed, session-done, session-refused}
use borrow.Author.Rules.{rules}
use Rattle.printing.proofs.print_session.Goals as goal

pub put_listed-requires : goal.put_listed-requires
put_listed-requires c =
    let a = c.args in
    let m = memory a.filter.now (tab a.xors.now a.flows.now a.unknowns.now a.positions.now a.marks.now) a.packets.now
    (records a.keys.now a.counts.now a.flags.now) in
    let q = session-listed a.s m c.settle.ensures (search rules) c.in-Ok.is in (
      omega arith,
      q.few,
      omega (arith, q.cells, c.settle.auto),
      omega (arith, q.keys, c.settle.auto),
      omega (arith, q.counts, c.settle.auto),
      omega (arith, q.flags, c.settle.auto),
    )

pub returns-in-Ok : goal.returns-in-Ok
returns-in-Ok c =
    let a = c.args in
    let m = memory a.filter.now (tab a.xors.now a.flows.now a.unknowns.now a.positions.now a.marks.now) a.packets.now
    (records a.keys.now a.counts.now a.flags.now) in
    put_same (session-done a.s m c.settle.ensures c.in-Ok.is) c.put_listed.ensures

pub returns-in-Err : goal.returns-in-Err
returns-in-Err c =
    let a = c.args in
    let m = memory a.filter.now (tab a.xors.now a.flows.now a.unknowns.now a.positions.now a.marks.now) a.packets.now
    (records a.keys.now a.counts.now a.flags.now) in
    put_same (session-refused a.s m c.settle.ensures c.in-Err.is c.number.ensures) c.refuse.ensures
