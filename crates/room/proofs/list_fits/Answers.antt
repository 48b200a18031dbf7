-- `room::list_fits` meets its contract.
use Rattle.std.proofs.Common.{◌*◌, ◌≤◌, arith}
use Rattle.layout.proofs.Ranges.{table-high}
use Rattle.room.proofs.Laws.{keys-high}
use Rattle.room.proofs.list_fits.Goals as goal

pub overflow_mul-most : goal.overflow_mul-most
overflow_mul-most c =
    let s = c.args.s in
    omega (arith, c.table_cells-most.ensures, table-high s.layout s.sizes s.lays s.ranged)

pub overflow_mul-most-2 : goal.overflow_mul-most-2
overflow_mul-most-2 c =
    let s = c.args.s in
    let few : 2 * c.table_cells-most.result ≤ 3072 = omega (arith, c.table_cells-most.ensures, table-high s.layout s.sizes s.lays s.ranged) in
    omega (arith, keys-high s.layout s.sizes s.lays s.ranged (2 * c.table_cells-most.result) few)
