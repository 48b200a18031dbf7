-- `layout::Shape::cell_bytes` meets its contract.
use native.Mathlib.Omega.{arith}
use Rattle.layout.specs.Sizes.{cell_bytes}
use Rattle.layout.proofs.Ranges.{cell-bytes-high}
use Rattle.layout.proofs.Shape.cell_bytes.Goals as goal

pub overflow_mul-result : goal.overflow_mul-result
unfolding cell_bytes
overflow_mul-result c = rw c.table_cells.ensures (omega (arith, cell-bytes-high _ _ c.args.self.lays c.args.self.ranged))
