-- `layout::Shape::table_cells` meets its contract.
use native.Mathlib.Omega.{arith}
use Rattle.layout.specs.Sizes.{table_cells}
use Rattle.layout.proofs.Ranges.{table-high}
use Rattle.layout.proofs.Shape.table_cells.Goals as goal

pub overflow_mul-result : goal.overflow_mul-result
unfolding table_cells
overflow_mul-result c = rw c.part_cells.ensures (omega (arith, table-high _ _ c.args.self.lays c.args.self.ranged))
