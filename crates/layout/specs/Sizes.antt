-- Sizes, layouts, and what follows from them: 01 'Keys and hashing', "Sizes: kf from 1 to 8 ..", and 'Blocks of 512 bytes'.
use Rattle.std.specs.Prelude.{Bool, ◌&&◌, ℕ, ◌+◌, ◌*◌, ◌≤◌, leb}
use Rattle.layout.specs.declared.Layout.{Layout}
use Rattle.layout.specs.declared.Sizes.{Sizes}

abbrev pub between : ℕ → ℕ → ℕ → Bool
between low n high = leb low n && leb n high

-- 01 'Keys and hashing': "kf from 1 to 8 filter hashes, F from 1 to 16 filter blocks, k from 2 to 4 cell hashes, q from 1 to 16"
unfoldable pub in_range : Sizes → Bool
in_range z = between 1 z.kf 8 && (between 1 z.f 16 && (between 2 z.k 4 && between 1 z.q 16))

-- the same, as facts
pub record Ranged (z : Sizes) : Type 0 where
  pub kf-low : 1 ≤ z.kf
  pub kf-high : z.kf ≤ 8
  pub f-low : 1 ≤ z.f
  pub f-high : z.f ≤ 16
  pub k-low : 2 ≤ z.k
  pub k-high : z.k ≤ 4
  pub q-low : 1 ≤ z.q
  pub q-high : z.q ≤ 16

-- 01 'Blocks of 512 bytes': "the next 24 cells of 20 bytes: FlowXOR 13, zero 1, FlowCount 2, PacketCount 4"; "kind (1 filter, 2 cells)"
abbrev pub ipv4_layout : Layout
ipv4_layout = record { key = 13; cell = 20; cells = 24; filter = 1; table = 2 }

-- what every layout keeps to: a cell has room for its fields, a payload of 480 bytes for its cells
pub record Lays (l : Layout) : Type 0 where
  pub key_fits : l.key + 7 ≤ l.cell
  pub some-cell : 1 ≤ l.cells
  pub most-cells : l.cells ≤ 24
  pub payload-fits : l.cells * l.cell ≤ 480

-- 01 'Keys and hashing': "k parts of s = 24 q cells"
unfoldable pub part_cells : Layout → Sizes → ℕ
part_cells l z = l.cells * z.q

-- 01 'Keys and hashing': "There are N = k × s cells"
unfoldable pub table_cells : Layout → Sizes → ℕ
table_cells l z = z.k * part_cells l z

-- 01 'Taking packets': "Working memory is the payload bytes of filter and cells"
unfoldable pub cell_bytes : Layout → Sizes → ℕ
cell_bytes l z = table_cells l z * l.cell

unfoldable pub filter_bytes : Sizes → ℕ
filter_bytes z = 480 * z.f

-- 01 'Keys and hashing': "The filter has 3,840 F bits"
unfoldable pub filter_bits : Sizes → ℕ
filter_bits z = 3840 * z.f

-- 01 'Blocks of 512 bytes': "The image is F filter blocks, then k × q cell blocks"
unfoldable pub blocks : Sizes → ℕ
blocks z = z.f + z.k * z.q
