-- Each part has the length that the sizes ask for.
use Rattle.list.specs.Records.{records}
use Rattle.table.specs.Table.{tab}
use Rattle.room.specs.Memory.{memory}
use Rattle.printing.proofs.Parts.{parts-fit}
use Rattle.printing.proofs.print_parts.Goals as goal

pub print_in-requires : goal.print_in-requires
print_in-requires c =
    let a = c.args in
    let m = memory a.filter.now (tab a.xors.now a.flows.now a.unknowns.now a.positions.now a.marks.now) a.packets.now
    (records a.keys.now a.counts.now a.flags.now) in (
      c.requires.0,
      parts-fit a.image.now a.slot c.requires.2 m c.filter_room-bytes.ensures.0 c.filter_room-bytes.ensures.1
          c.cell_room-cells.ensures.0 c.cell_room-cells.ensures.1 c.requires.3,
    )
