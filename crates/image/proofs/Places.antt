-- Where a byte of filter and cells stands in the image.
use mathlib.Core.Path.{◌≡◌, sym, ap, ◌∙◌}
use mathlib.Core.List.{List}
use Prim.Native.Nat.{ℕ, ◌+◌, ◌*◌, ◌/◌, ◌%◌, ◌<◌}
use native.Mathlib.Nat.{mod-lt, div-add-mod', div-lt_iff_lt-mul}
use native.Mathlib.Omega.{arith}
use lib.ListN.{length, get_or, take, drop}
use Rattle.laws.proofs.Lists.{part_at}
use Rattle.layout.specs.declared.Layout.{Layout}
use Rattle.layout.specs.declared.Sizes.{Sizes}
use Rattle.layout.specs.Sizes.{Lays, table_cells, filter_bits, blocks}
use Rattle.block.specs.Block.{block_at}
use Rattle.reading.specs.Read.{filter_in, cells_in}
use Rattle.block.proofs.Cells.{table-rows, used-long, byte-place}
use Rattle.laws.proofs.Rows.{row_within, join-at}

module _ (z : Sizes) (image : List ℕ) (whole : length image ≡ blocks z * 512) where
  -- 01 'Blocks of 512 bytes': "Filter bit n is in filter block n / 3,840, in payload byte (n mod 3,840) / 8": that is byte n / 8 of the filter
  pub filter-bit : (n : ℕ) → n < filter_bits z → get_or (filter_in z image) (n / 8) 0 ≡ get_or (block_at image (n / 3840)) (16 + n % 3840 / 8) 0
  unfolding filter_in filter_bits blocks
  filter-bit n h =
      let e : n / 8 ≡ n / 3840 * 480 + n % 3840 / 8 = omega arith in
      rw e
      (join-at z.f 480 (λ i. take 480 (drop 16 (block_at image i))) 0 (λ i q. used-long z image whole i 480 (omega arith) (omega arith))
      (n / 3840) (n % 3840 / 8) (omega arith) (omega arith)
      ∙ part_at (block_at image (n / 3840)) 16 480 (n % 3840 / 8) 0 (omega arith))

  -- 01 'Blocks of 512 bytes': "the next 24 cells of 20 bytes": byte j of cell c is in cell block c / 24, in cell c mod 24 of its payload
  pub cell-byte : (l : Layout) → Lays l → (c j : ℕ) → c < table_cells l z → j < l.cell
      → get_or (cells_in l z image) (c * l.cell + j) 0 ≡ get_or (block_at image (z.f + c / l.cells)) (16 + (c % l.cells * l.cell + j)) 0
  unfolding cells_in blocks
  cell-byte l lays c j h q =
      let w = l.cells * l.cell in
      let m = c / l.cells in
      let d = c % l.cells in
      let low : d < l.cells = mod-lt c lays.some-cell in
      let high : m < z.k * z.q = (div-lt_iff_lt-mul lays.some-cell).1 (omega (arith, table-rows l z)) in
      let within : d * l.cell + j < w = omega (arith, row_within d l.cells l.cell low) in
      rw (ap (λ x. x * l.cell + j) (sym (div-add-mod' c l.cells)) ∙ byte-place l m d j)
      (join-at (z.k * z.q) w (λ i. take w (drop 16 (block_at image (z.f + i)))) 0
      (λ i p. used-long z image whole (z.f + i) w (omega arith) lays.payload-fits) m (d * l.cell + j) high within
      ∙ part_at (block_at image (z.f + m)) 16 w (d * l.cell + j) 0 within)
