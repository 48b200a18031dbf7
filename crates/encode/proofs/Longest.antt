-- The bytes of sizes in range fit the program's buffers.
use Rattle.std.proofs.Common.{◌*◌, ◌≤◌, arith}
use Rattle.std.proofs.Math.Nat.{mul-le-mul}
use Rattle.layout.specs.declared.Sizes.{Sizes}
use Rattle.layout.specs.Sizes.{Ranged, ipv4_layout, part_cells, table_cells, cell_bytes, filter_bytes}

pub filter-most : (z : Sizes) → Ranged z → filter_bytes z ≤ 7680
unfolding filter_bytes
filter-most z r = omega arith

pub cells-most : (z : Sizes) → Ranged z → cell_bytes ipv4_layout z ≤ 30720
unfolding cell_bytes table_cells part_cells
cells-most z r = let p = mul-le-mul {n₂ = 4} {m₂ = 384} r.k-high (let q : 24 * z.q ≤ 384 = omega arith in q) in omega arith
