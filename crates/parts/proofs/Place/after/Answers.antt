-- `parts::Place::after` meets its contract: its sums and products are small.
use Rattle.std.proofs.Common.{ap₂, ◌+◌, ◌*◌, ◌/◌, arith}
use Rattle.layout.specs.Sizes.{filter_bytes}
use Rattle.parts.specs.Places.{place_after}
use Rattle.parts.proofs.Near.{sums}
use Rattle.parts.proofs.Place.after.Goals as goal

pub overflow_add-result : goal.overflow_add-result
unfolding filter_bytes
overflow_add-result c = omega (arith, c.args.s.ranged.f-high, c.filter_bytes.ensures, c.requires.filter-near)

pub overflow_add-result-2 : goal.overflow_add-result-2
overflow_add-result-2 c = omega (arith, (sums c.args.s.lays c.args.s.ranged c.requires c.table_cells-n.ensures).cells)

pub overflow_mul-result : goal.overflow_mul-result
overflow_mul-result c = omega (arith, (sums c.args.s.lays c.args.s.ranged c.requires c.table_cells-n.ensures).bytes)

pub overflow_add-result-3 : goal.overflow_add-result-3
overflow_add-result-3 c = omega (arith, (sums c.args.s.lays c.args.s.ranged c.requires c.table_cells-n.ensures).xors)

pub overflow_add-result-4 : goal.overflow_add-result-4
overflow_add-result-4 c = omega (arith, (sums c.args.s.lays c.args.s.ranged c.requires c.table_cells-n.ensures).few)

pub overflow_mul-result-2 : goal.overflow_mul-result-2
overflow_mul-result-2 c = omega (arith, (sums c.args.s.lays c.args.s.ranged c.requires c.table_cells-n.ensures).few)

pub overflow_add-result-6 : goal.overflow_add-result-6
overflow_add-result-6 c = omega (arith, (sums c.args.s.lays c.args.s.ranged c.requires c.table_cells-n.ensures).records)

pub overflow_mul-result-3 : goal.overflow_mul-result-3
overflow_mul-result-3 c = omega (arith, (sums c.args.s.lays c.args.s.ranged c.requires c.table_cells-n.ensures).few)

pub overflow_mul-result-4 : goal.overflow_mul-result-4
overflow_mul-result-4 c = omega (arith, (sums c.args.s.lays c.args.s.ranged c.requires c.table_cells-n.ensures).more)

pub overflow_add-result-7 : goal.overflow_add-result-7
overflow_add-result-7 c = omega (arith, (sums c.args.s.lays c.args.s.ranged c.requires c.table_cells-n.ensures).keys)

pub returns : goal.returns
unfolding place_after
returns c =
    let p = c.args.self in
    let l = c.args.s.layout in
    ap₂ (λ n f. record {
      filter = p.filter + f;
      cells = p.cells + n;
      xors = p.xors + n * l.key;
      words = p.words + (n + 63) / 64;
      records = p.records + 2 * n;
      keys = p.keys + 2 * n * l.key;
    }) c.table_cells-n.ensures c.filter_bytes.ensures
