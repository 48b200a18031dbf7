-- The cells of a session in lists, pure cells, and a key taken out of its cells: 01 'A session'.
use Rattle.std.specs.Prelude.{◌≡◌, ℕ, ◌+◌, ◌-◌, ◌*◌, ◌%◌, ◌^◌, ◌<◌, ◌≤◌, Bool, ◌&&◌, List, length, ◌==◌, bit_xor, nat_eq, nat_lt, slice_index, slice_set}
use Rattle.std.proofs.lemmas.List.Edits.{sets}
use Rattle.laws.specs.Xor.{xor_bytes}
use Rattle.laws.specs.Upto.{any_upto, each_upto, number_upto}
use Rattle.layout.specs.declared.Layout.{Layout}
use Rattle.layout.specs.declared.Sizes.{Sizes}
use Rattle.layout.specs.Sizes.{Lays, Ranged, part_cells, table_cells}
use Rattle.hash.specs.Places.{cell_of, has_cell}
use Rattle.list.specs.Records.{Records, key_at, handed_in, peeled_in}
use Rattle.table.specs.declared.Table.{Table}
use Rattle.marks.specs.Marks.{Words, words_for, marked, put_mark}

-- FlowXOR (as many bytes a cell as a key has) and FlowCount, then what a session keeps for each cell:
-- 01 'A session': "the number of listed flows in it whose count is unknown, and the XOR of their list positions", and a mark
pub record Tab : Type 0 where
  pub xors : List ℕ
  pub flows : List ℕ
  pub unknowns : List ℕ
  pub positions : List ℕ
  pub marks : List ℕ

abbrev pub tab : List ℕ → List ℕ → List ℕ → List ℕ → List ℕ → Tab
tab xors flows unknowns positions marks =
    record { xors = xors; flows = flows; unknowns = unknowns; positions = positions; marks = marks }

-- what the lent slices hold, and that the same five are lent, whatever they hold
abbrev pub tab_of : Table → Tab
tab_of t = tab t.xors.now t.flows.now t.unknowns.now t.positions.now t.marks.now

abbrev pub TableKept : Table → Table → Type 0
TableKept t u =
    (t.xors.ghost_name ≡ u.xors.ghost_name) × (t.flows.ghost_name ≡ u.flows.ghost_name) × (t.unknowns.ghost_name ≡ u.unknowns.ghost_name)
    × (t.positions.ghost_name ≡ u.positions.ghost_name) × (t.marks.ghost_name ≡ u.marks.ghost_name)
    × (t.xors.ref_ptr ≡ u.xors.ref_ptr) × (t.flows.ref_ptr ≡ u.flows.ref_ptr) × (t.unknowns.ref_ptr ≡ u.unknowns.ref_ptr)
    × (t.positions.ref_ptr ≡ u.positions.ref_ptr) × (t.marks.ref_ptr ≡ u.marks.ref_ptr)

-- a layout and sizes, and lists of the lengths that they give
pub record Fit (l : Layout) (z : Sizes) (t : Tab) : Type 0 where
  pub lays : Lays l
  pub ranged : Ranged z
  pub xors-fit : length t.xors ≡ table_cells l z * l.key
  pub flows-fit : length t.flows ≡ table_cells l z
  pub unknowns-fit : length t.unknowns ≡ table_cells l z
  pub positions-fit : length t.positions ≡ table_cells l z
  pub marks-fit : length t.marks ≡ words_for (table_cells l z)

-- the key's bytes of cell c lie in so many bytes
abbrev pub InBytes : Layout → ℕ → ℕ → Type 0
InBytes l bytes c = c * l.key + l.key ≤ bytes

-- cell c of the table lies in part i
pub record InPart (l : Layout) (z : Sizes) (i c : ℕ) : Type 0 where
  pub inside : c < table_cells l z
  pub from : i * part_cells l z ≤ c
  pub to : c < i * part_cells l z + part_cells l z

-- 01 'A session': "it is pure: FlowCount 1 and its FlowXOR, taken as a key, has this cell"
unfoldable pub pure_at : Layout → Sizes → ℕ → List ℕ → List ℕ → ℕ → Bool
pure_at l z salt xors flows c = slice_index flows c == 1 && has_cell l z salt (key_at l xors c) c

-- 01 'A session': "cells with FlowCount above 0"
unfoldable pub open_in : ℕ → List ℕ → ℕ
open_in cells flows = number_upto cells (λ c. nat_lt 0 (slice_index flows c))

-- one of the first k places has FlowCount 0
unfoldable pub any_empty : List ℕ → ℕ → List ℕ → Bool
any_empty at k flows = any_upto k (λ i. nat_eq (slice_index flows (slice_index at i)) 0)

-- 01 'A session': "one of its cells has FlowCount 0"
unfoldable pub has_empty : Layout → Sizes → ℕ → List ℕ → List ℕ → Bool
has_empty l z salt flows key = any_upto z.k (λ i. nat_eq (slice_index flows (cell_of l z salt key i)) 0)

-- the key XORed into FlowXOR of cell c
unfoldable pub mixed : Layout → List ℕ → ℕ → List ℕ → List ℕ
mixed l xors c key = sets xors (c * l.key) (xor_bytes (key_at l xors c) key)

-- 1 taken from FlowCount of cell c
abbrev pub one_less : List ℕ → ℕ → List ℕ
one_less flows c = slice_set flows c (slice_index flows c - 1)

-- the key of a flow that is listed at a position taken out of cell c: FlowXOR, FlowCount, the two per-cell numbers, and the mark renewed
unfoldable pub taken_at : Layout → Sizes → ℕ → List ℕ → ℕ → ℕ → Tab → Tab
taken_at l z salt key position c t = tab
    (mixed l t.xors c key)
    (one_less t.flows c)
    (slice_set t.unknowns c ((slice_index t.unknowns c + 1) % 2 ^ 16))
    (slice_set t.positions c (bit_xor (slice_index t.positions c) position))
    (put_mark t.marks c (pure_at l z salt (mixed l t.xors c key) (one_less t.flows c) c))

-- 01 'A session': "Taking out a key XORs it into FlowXOR and takes 1 from FlowCount in its k cells"
unfoldable pub taken_out : Layout → Sizes → ℕ → List ℕ → ℕ → Tab → Tab
taken_out l z salt key position t = each_upto z.k (λ i. taken_at l z salt key position (cell_of l z salt key i)) t

-- what a session has for cell c, PacketCount left out
pub record Spot : Type 0 where
  pub xor : List ℕ
  pub flow : ℕ
  pub unknown : ℕ
  pub position : ℕ
  pub mark : Bool

abbrev pub spot_at : Layout → Tab → ℕ → Spot
spot_at l t c = record {
  xor = key_at l t.xors c;
  flow = slice_index t.flows c;
  unknown = slice_index t.unknowns c;
  position = slice_index t.positions c;
  mark = marked t.marks c;
}

-- ---- why a peel finds room in the list
-- 01 'A session': "A cell is marked exactly when it is pure"
abbrev pub MarksRight : Layout → Sizes → ℕ → Tab → Type 0
MarksRight l z salt t = (c : ℕ) → c < table_cells l z → marked t.marks c ≡ pure_at l z salt t.xors t.flows c

-- what the test of 8 leaves of marks and numbers, n flows being listed, and each step keeps: 01 'A session', refused with 8,
-- "handed exceeds N, peeled plus cells with FlowCount above 0 exceeds N, or any mark .. differs from what cells and list give"
pub record Bounded (l : Layout) (z : Sizes) (salt n : ℕ) (t : Tab) (rs : Records) : Type 0 where
  pub words : Words t.marks
  pub marks-right : MarksRight l z salt t
  pub handed-few : handed_in n rs ≤ table_cells l z
  pub peeled-few : peeled_in n rs + open_in (table_cells l z) t.flows ≤ table_cells l z
