-- The sizes in their ranges make so many cells at most.
use Rattle.std.proofs.Common.{arith, ◌≡◌}
use Rattle.layout.specs.Sizes.{ipv4_layout, table_cells}
use Rattle.layout.proofs.Ranges.{lays-ipv4, table-high}
use Rattle.printing.proofs.cell_room.Goals as goal

pub returns : goal.returns
returns c =
    let is : c.table_cells.result ≡ table_cells ipv4_layout c.args.shape.sizes = rw c.requires at c.table_cells.ensures in
    (is, omega (arith, table-high ipv4_layout c.args.shape.sizes lays-ipv4 c.args.shape.ranged))
