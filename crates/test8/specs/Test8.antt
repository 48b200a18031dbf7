-- The test of 8, clause by clause: 01 'A session', "A session is refused with 8 if ..". A wrong size is refused before (layout's inRange).
use Rattle.std.specs.Prelude.{ℕ, ◌+◌, ◌-◌, ◌*◌, Bool, true, false, cond, not, ◌&&◌, List, ◌==◌, bit_xor, nat_eq, nat_le, nat_lt, slice_index}
use Rattle.laws.specs.Upto.{any_upto, all_upto, each_upto, number_upto}
use Rattle.layout.specs.declared.Layout.{Layout}
use Rattle.layout.specs.declared.Sizes.{Sizes}
use Rattle.layout.specs.Sizes.{table_cells}
use Rattle.hash.specs.Places.{has_cell}
use Rattle.list.specs.Records.{Records, key_at, is_known, is_listed, handed_in, peeled_in}
use Rattle.marks.specs.Marks.{words_for, marked}
use Rattle.table.specs.Table.{Tab, pure_at, open_in}

-- 01 'A session': "over 2 N flows are listed"
unfoldable pub over_listed : Layout → Sizes → ℕ → Bool
over_listed l z n = nat_lt (2 * table_cells l z) n

-- 01 'A session': "listed keys repeat": one stands at an earlier position too
unfoldable pub keys_repeat : Layout → ℕ → List ℕ → Bool
keys_repeat l n keys = any_upto n (λ j. is_listed l j keys (key_at l keys j))

-- 01 'A session': "a known count is 0"
unfoldable pub zero_count : ℕ → Records → Bool
zero_count n rs = any_upto n (λ i. is_known rs i && slice_index rs.counts i == 0)

-- 01 'A session': "handed exceeds N, peeled plus cells with FlowCount above 0 exceeds N": neither
unfoldable pub numbers_in : ℕ → ℕ → List ℕ → Records → Bool
numbers_in cells n flows rs = nat_le (handed_in n rs) cells && nat_le (peeled_in n rs + open_in cells flows) cells

-- whether two truth values are one
abbrev pub agrees : Bool → Bool → Bool
agrees true b = b
agrees false b = not b

-- 01 'A session': "A cell is marked exactly when it is pure"
unfoldable pub marks_right : Layout → Sizes → ℕ → List ℕ → List ℕ → List ℕ → Bool
marks_right l z salt xors flows marks = all_upto (table_cells l z) (λ c. agrees (marked marks c) (pure_at l z salt xors flows c))

-- 01 'A session': "bits past N are 0"
unfoldable pub rest_clear : ℕ → List ℕ → Bool
rest_clear cells marks = all_upto (words_for cells * 64 - cells) (λ j. not (marked marks (cells + j)))

-- the flow at position i is in cell c, its count unknown
unfoldable pub unknown_in : Layout → Sizes → ℕ → Records → ℕ → ℕ → Bool
unknown_in l z salt rs c i = not (is_known rs i) && has_cell l z salt (key_at l rs.keys i) c

-- 01 'A session': "the number of listed flows in it whose count is unknown"
unfoldable pub unknowns_given : Layout → Sizes → ℕ → ℕ → Records → ℕ → ℕ
unknowns_given l z salt n rs c = number_upto n (unknown_in l z salt rs c)

-- 01 'A session': "and the XOR of their list positions, from 0"
unfoldable pub positions_given : Layout → Sizes → ℕ → ℕ → Records → ℕ → ℕ
positions_given l z salt n rs c = each_upto n (λ i x. cond (unknown_in l z salt rs c i) (bit_xor x i) x) 0

-- 01 'A session': "any .. per-cell number differs from what cells and list give": none does
unfoldable pub notes_right : Layout → Sizes → ℕ → ℕ → Records → List ℕ → List ℕ → Bool
notes_right l z salt n rs unknowns positions =
    all_upto (table_cells l z) (λ c. nat_eq (slice_index unknowns c) (unknowns_given l z salt n rs c))
    && all_upto (table_cells l z) (λ c. nat_eq (slice_index positions c) (positions_given l z salt n rs c))

-- 01 'A session': none of the reasons for 8 is there
unfoldable pub is_session : Layout → Sizes → ℕ → ℕ → Tab → Records → Bool
is_session l z salt n t rs =
    not (over_listed l z n) && (not (keys_repeat l n rs.keys) && (not (zero_count n rs)
    && (numbers_in (table_cells l z) n t.flows rs
    && (marks_right l z salt t.xors t.flows t.marks && (rest_clear (table_cells l z) t.marks
    && notes_right l z salt n rs t.unknowns t.positions)))))
