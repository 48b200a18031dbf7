-- `room::table_fits` meets its contract.
use Rattle.std.proofs.Common.{◌≤◌, arith}
use Rattle.layout.proofs.Ranges.{table-high}
use Rattle.room.proofs.Laws.{keys-high}
use Rattle.room.proofs.table_fits.Goals as goal

pub overflow_mul-cells : goal.overflow_mul-cells
overflow_mul-cells c =
    let s = c.args.s in
    let few : c.table_cells-cells.result ≤ 3072 = omega (arith, c.table_cells-cells.ensures, table-high s.layout s.sizes s.lays s.ranged) in
    omega (arith, keys-high s.layout s.sizes s.lays s.ranged c.table_cells-cells.result few)
