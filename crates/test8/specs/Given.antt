-- What the test works out anew: the flags of a record, the per-cell numbers that a list gives, and the index of its keys.
use Rattle.std.specs.Prelude.{ℕ, ◌+◌, ◌%◌, ◌^◌, Bool, cond, List, ◌==◌, bit_xor, slice_index, slice_set}
use Rattle.laws.specs.Digit.{digit}
use Rattle.laws.specs.Upto.{each_upto}
use Rattle.layout.specs.declared.Layout.{Layout}
use Rattle.layout.specs.declared.Sizes.{Sizes}
use Rattle.hash.specs.Places.{cell_of}
use Rattle.list.specs.Records.{key_at}
use Rattle.index.specs.Index.{linked}
use Rattle.found.specs.Seen.{bucket_of}

-- a bit of a record's flags: bit 0 known, bit 1 handed
abbrev pub flag_set : ℕ → ℕ → Bool
flag_set bit flag = digit flag bit == 1

-- the numbers at the first k places renewed
unfoldable pub renewed : (ℕ → ℕ) → (ℕ → ℕ) → ℕ → List ℕ → List ℕ
renewed new places k s = each_upto k (λ i t. slice_set t (places i) (new (slice_index t (places i)))) s

-- what a flow at a list position makes of its cells' two numbers
abbrev pub one_more : ℕ → ℕ → ℕ
one_more position x = (x + 1) % 2 ^ 16

abbrev pub mixed_in : ℕ → ℕ → ℕ
mixed_in position x = bit_xor x position

-- a number per cell, renewed by each of the first n flows whose count is unknown, in the flow's k cells
unfoldable pub noted : Layout → Sizes → ℕ → (ℕ → ℕ → ℕ) → ℕ → List ℕ → List ℕ → List ℕ → List ℕ
noted l z salt new n keys flags s =
    each_upto n (λ i t. cond (flag_set 0 (slice_index flags i)) t (renewed (new i) (cell_of l z salt (key_at l keys i)) z.k t)) s

-- the first n keys noted in an index
unfoldable pub seen_upto : Layout → Sizes → ℕ → ℕ → List ℕ → List ℕ → List ℕ
seen_upto l z salt n keys seen = each_upto n (λ i s. linked s (bucket_of l z salt (key_at l keys i)) i) seen
