-- Cells in blocks: where a cell's bytes stand, and the zero byte of each.
use mathlib.Core.Path.{◌≡◌, sym, ap, ◌∙◌}
use mathlib.Core.List.{List}
use Prim.Native.Nat.{ℕ, ◌+◌, ◌*◌, ◌≤◌, ◌<◌}
use native.Mathlib.Nat.{add-mul, add_assoc, mul_assoc, mul_comm}
use native.Mathlib.Omega.{arith}
use lib.ListN.{length, take, drop}
use Rattle.laws.proofs.Lists.{length_part}
use Rattle.layout.specs.declared.Layout.{Layout}
use Rattle.layout.specs.declared.Sizes.{Sizes}
use Rattle.layout.specs.Sizes.{part_cells, table_cells, cell_bytes, blocks}
use Rattle.block.specs.Block.{block_at}

-- the cells fill k × q blocks
pub table-rows : (l : Layout) (z : Sizes) → table_cells l z ≡ z.k * z.q * l.cells
unfolding table_cells part_cells
table-rows l z = rw (mul_comm l.cells z.q) (sym (mul_assoc z.k z.q l.cells))

pub cells-fill : (l : Layout) (z : Sizes) → cell_bytes l z ≡ z.k * z.q * (l.cells * l.cell)
unfolding cell_bytes
cells-fill l z = ap (λ n. n * l.cell) (table-rows l z) ∙ mul_assoc (z.k * z.q) l.cells l.cell

-- the used bytes of a payload are there
pub used-long : (z : Sizes) (image : List ℕ) → length image ≡ blocks z * 512 → (n w : ℕ) → n < blocks z → w ≤ 480
    → length (take w (drop 16 (block_at image n))) ≡ w
used-long z image whole n w h q = length_part (block_at image n) 16 w (omega (arith, length_part image (n * 512) 512 (omega arith)))

-- byte j of cell c of block m
pub byte-place : (l : Layout) (m c j : ℕ) → (m * l.cells + c) * l.cell + j ≡ m * (l.cells * l.cell) + (c * l.cell + j)
byte-place l m c j =
    rw (add-mul (m * l.cells) c l.cell, mul_assoc m l.cells l.cell) (add_assoc (m * (l.cells * l.cell)) (c * l.cell) j)
