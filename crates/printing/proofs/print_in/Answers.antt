-- One law for each answer of opening.
use Rattle.list.specs.Records.{records}
use Rattle.table.specs.Table.{tab}
use Rattle.room.specs.Memory.{memory}
use Rattle.lines.proofs.Lines.{put_same}
use Rattle.printing.proofs.Image.{image-opened, image-refused}
use Rattle.printing.proofs.print_in.Goals as goal

pub returns-in-Ok : goal.returns-in-Ok
returns-in-Ok c =
    let a = c.args in
    let m = memory a.filter.now (tab a.xors.now a.flows.now a.unknowns.now a.positions.now a.marks.now) a.packets.now
    (records a.keys.now a.counts.now a.flags.now) in
    put_same (image-opened a.image.now a.slot m c.open.ensures c.in-Ok.is) c.print_session.ensures

pub returns-in-Err : goal.returns-in-Err
returns-in-Err c =
    let a = c.args in
    let m = memory a.filter.now (tab a.xors.now a.flows.now a.unknowns.now a.positions.now a.marks.now) a.packets.now
    (records a.keys.now a.counts.now a.flags.now) in
    put_same (image-refused a.image.now a.slot m c.open.ensures c.requires.1 c.in-Err.is c.number.ensures) c.refuse.ensures
