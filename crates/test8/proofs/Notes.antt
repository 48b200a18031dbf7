-- The two numbers of each cell and the index, as one pass over the list leaves them, are what cells and list give.
use Rattle.std.proofs.Common.{◌≡◌, ℕ, zero, suc, ◌+◌, ◌/◌, ◌^◌, ◌<◌, ◌≤◌, Bool, cond, ◌||◌, List, length, get_or, set, replicate, sym, refl, ap, ◌∙◌, subst, inl, inr, div-mul-le_self, add-one, arith}
use native.Mathlib.Nat.{lt-div-mul-add}
use lib.ListN.{length-replicate}
use Rattle.laws.specs.Upto.{each_upto, list_upto}
use Rattle.laws.proofs.Bools.{split}
use Rattle.laws.proofs.Lists.{zero-at}
use Rattle.laws.proofs.Upto.{any-more, each_more, each_same, list_at, length-renew, renew-at}
use Rattle.layout.specs.declared.Layout.{Layout}
use Rattle.layout.specs.declared.Sizes.{Sizes}
use Rattle.layout.specs.Sizes.{Lays, Ranged, part_cells, table_cells}
use Rattle.layout.proofs.Ranges.{part_low, table-high}
use Rattle.hash.specs.Places.{cell_of, has_cell, Within}
use Rattle.hash.proofs.Apart.{cell-within, cells-differ, places-within}
use Rattle.index.specs.Index.{Empty, linked}
use Rattle.index.proofs.Index.{length-linked, indexes-none, indexes-more}
use Rattle.list.specs.Records.{Records, records, key_at, is_known, is_listed}
use Rattle.table.specs.Table.{InPart}
use Rattle.found.specs.Seen.{bucket, bucket_of, Covers, LeadsTo}
use Rattle.found.proofs.Seen.{leads}
use Rattle.test8.specs.Given.{flag_set, renewed, one_more, mixed_in, noted, seen_upto}
use Rattle.test8.specs.Test8.{keys_repeat, unknown_in, unknowns_given, positions_given}
use Rattle.laws.proofs.Lowest.{count-wraps}

-- ---- one flow
-- one place more
pub renewed-turn : (new places : ℕ → ℕ) (i : ℕ) (s : List ℕ) {t : List ℕ} → t ≡ renewed new places i s
    → set t (places i) (new (get_or t (places i) 0)) ≡ renewed new places (i + 1) s
unfolding renewed
renewed-turn new places i s e = rw e (sym (each_more i (λ j t. set t (places j) (new (get_or t (places j) 0))) s))

pub length-renewed : (new places : ℕ → ℕ) (k : ℕ) (s : List ℕ) → length (renewed new places k s) ≡ length s
unfolding renewed
length-renewed new places k s = length-renew new places k s

-- ---- the list
module _ (l : Layout) (z : Sizes) (lays : Lays l) (r : Ranged z) (salt : ℕ) where
  -- the places that the code keeps in a list are the cells that the hash chooses
  renewed-kept : (new : ℕ → ℕ) (key : List ℕ) (s : List ℕ) {at : List ℕ} → at ≡ list_upto 4 (cell_of l z salt key)
      → renewed new (λ i. get_or at i 0) z.k s ≡ renewed new (cell_of l z salt key) z.k s
  unfolding renewed
  renewed-kept new key s {at} e =
      each_same z.k (λ i t. set t (get_or at i 0) (new (get_or t (get_or at i 0) 0)))
      (λ i t. set t (cell_of l z salt key i) (new (get_or t (cell_of l z salt key i) 0))) s
      (λ i t h.
      let q : get_or at i 0 ≡ cell_of l z salt key i = rw e (list_at 4 (cell_of l z salt key) 0 i (omega (arith, r.k-high))) in
      ap (λ c. set t c (new (get_or t c 0))) q)

  -- a flow's cells are renewed, and no other
  renewed-at : (new : ℕ → ℕ) (key s : List ℕ) → table_cells l z ≤ length s → (c : ℕ)
      → get_or (renewed new (cell_of l z salt key) z.k s) c 0 ≡ cond (has_cell l z salt key c) (new (get_or s c 0)) (get_or s c 0)
  unfolding renewed has_cell
  renewed-at new key s h c =
      renew-at new (cell_of l z salt key) z.k s (λ i p. omega (arith, cell-within l z lays r salt key i p))
      (cells-differ l z lays r salt key) c

  module _ (new : ℕ → ℕ → ℕ) (keys flags : List ℕ) where
    -- one flow more
    pub noted-turn : (i : ℕ) (s : List ℕ) {at t u : List ℕ} {flag : ℕ} → at ≡ list_upto 4
        (cell_of l z salt (key_at l keys i)) → flag ≡ get_or flags i 0
        → t ≡ noted l z salt new i keys flags s → u ≡ cond (flag_set 0 flag) t (renewed (new i) (λ j. get_or at j 0) z.k t)
        → u ≡ noted l z salt new (i + 1) keys flags s
    unfolding noted
    noted-turn i s {t = t} e f g h =
        h ∙ rw (renewed-kept (new i) (key_at l keys i) t e, f, g)
        (sym (each_more i (λ j t. cond (flag_set 0 (get_or flags j 0)) t (renewed (new j) (cell_of l z salt (key_at l keys j)) z.k t)) s))

    pub length-noted : (n : ℕ) (s : List ℕ) → length (noted l z salt new n keys flags s) ≡ length s
    unfolding noted each_upto
    length-noted zero s = refl
    length-noted (suc n) s = elim (split (flag_set 0 (get_or flags n 0))) [
      | inl k ↦ rw k (length-noted n s)
      | inr k ↦
          rw k (length-renewed (new n) (cell_of l z salt (key_at l keys n)) z.k (noted l z salt new n keys flags s) ∙ length-noted n s)
    ]

    -- the number of a cell, by the flows in it
    pub noted-at : (counts : List ℕ) (n : ℕ) (s : List ℕ) → table_cells l z ≤ length s → (c : ℕ)
        → get_or (noted l z salt new n keys flags s) c 0
        ≡ each_upto n (λ i x. cond (unknown_in l z salt (records keys counts flags) c i) (new i x) x) (get_or s c 0)
    unfolding noted each_upto unknown_in is_known
    noted-at counts zero s h c = refl
    noted-at counts (suc n) s h c =
        let t = noted l z salt new n keys flags s in
        elim (split (flag_set 0 (get_or flags n 0))) [
          | inl k ↦ rw k (noted-at counts n s h c)
          | inr k ↦
              rw k (renewed-at (new n) (key_at l keys n) t (omega (arith, length-noted n s)) c ∙ rw (noted-at counts n s h c))
        ]

  -- from zeros, the two numbers are those that cells and list give
  module _ (n : ℕ) (rs : Records) where
    zeros-wide : table_cells l z ≤ length {A = ℕ} (replicate 1536 0)
    zeros-wide = omega (arith, length-replicate {A = ℕ} 1536 0, table-high l z lays r)

    pub unknowns-are : n < 2 ^ 16 → (c : ℕ)
        → get_or (noted l z salt one_more n rs.keys rs.flags (replicate 1536 0)) c 0 ≡ unknowns_given l z salt n rs c
    unfolding unknowns_given
    unknowns-are h c =
        noted-at one_more rs.keys rs.flags rs.counts n (replicate 1536 0) zeros-wide c
        ∙ rw (zero-at 1536 c) (count-wraps 16 n (unknown_in l z salt rs c) h)

    pub positions-are : (c : ℕ)
        → get_or (noted l z salt mixed_in n rs.keys rs.flags (replicate 1536 0)) c 0 ≡ positions_given l z salt n rs c
    unfolding positions_given
    positions-are c =
        noted-at mixed_in rs.keys rs.flags rs.counts n (replicate 1536 0) zeros-wide c ∙ rw (zero-at 1536 c)

  -- ---- the part of a cell
  pub part_of : (c : ℕ) {s : ℕ} → s ≡ part_cells l z → c < table_cells l z → InPart l z (c / s) c
  part_of c {s} e h =
      let low = part_low l z lays r in
      record { inside = h; from = rw (← e) (div-mul-le_self c s); to = rw (← e) (lt-div-mul-add {a = c} {b = s} (omega arith)) }

-- ---- the index
module _ (l : Layout) (z : Sizes) (salt : ℕ) (keys seen : List ℕ) where
  pub seen-turn : (i : ℕ) {s t : List ℕ} {own : ℕ} → own ≡ bucket_of l z salt (key_at l keys i) → s ≡ seen_upto l z salt i keys seen
      → t ≡ linked s own i → t ≡ seen_upto l z salt (i + 1) keys seen
  unfolding seen_upto
  seen-turn i e f g = g ∙ rw (e, f) (sym (each_more i (λ j s. linked s (bucket_of l z salt (key_at l keys j)) j) seen))

  pub length_seen : (n : ℕ) → length (seen_upto l z salt n keys seen) ≡ length seen
  unfolding seen_upto each_upto
  length_seen zero = refl
  length_seen (suc n) = length-linked (seen_upto l z salt n keys seen) (bucket_of l z salt (key_at l keys n)) n ∙ length_seen n

  -- each of the first n keys is in it
  pub seen_covers : (n : ℕ) → n ≤ 3072 → Empty seen → Covers l z salt n keys (seen_upto l z salt n keys seen)
  unfolding seen_upto each_upto
  seen_covers zero h e = indexes-none (λ i. bucket_of l z salt (key_at l keys i)) seen e
  seen_covers (suc n) h e =
      subst (λ m. Covers l z salt m keys (seen_upto l z salt (suc n) keys seen)) (add-one n)
      (indexes-more (λ i. bucket_of l z salt (key_at l keys i)) n (seen_upto l z salt n keys seen) (seen_covers n (omega arith) e) (omega arith) (omega arith))

-- ---- one listed flow: its places, its bucket, and whether its key stood before
module _ (l : Layout) (z : Sizes) (lays : Lays l) (r : Ranged z) (salt : ℕ) where
  pub places-small : (key : List ℕ) {at : List ℕ} → at ≡ list_upto 4 (cell_of l z salt key) → Within at 2 1536
  places-small key e j h = omega (arith, places-within l z lays r salt key e j (omega (arith, r.k-low)), table-high l z lays r)

  pub places-wide : (key : List ℕ) {at : List ℕ} → at ≡ list_upto 4 (cell_of l z salt key) → Within at z.k 1536
  places-wide key e j h = omega (arith, places-within l z lays r salt key e j h, table-high l z lays r)

module _ (l : Layout) (z : Sizes) (salt : ℕ) (keys : List ℕ) (i : ℕ) {key at : List ℕ} where
  -- the bucket leads to the key, where it is among the first i
  pub leads-here : (seen : List ℕ) {s : List ℕ} → i ≤ 3072 → Empty seen → at ≡ list_upto 4 (cell_of l z salt key) → s ≡ seen_upto l z salt i keys seen
      → LeadsTo l i keys key (bucket at) s
  leads-here seen {s} h e q f = leads l z salt i keys s (subst (Covers l z salt i keys) (sym f) (seen_covers l z salt keys seen i h e)) key q

  pub bucket-here : {own : ℕ} → key ≡ key_at l keys i → at ≡ list_upto 4 (cell_of l z salt key) → own ≡ bucket at
      → own ≡ bucket_of l z salt (key_at l keys i)
  bucket-here k q f = f ∙ ap bucket (q ∙ ap (λ x. list_upto 4 (cell_of l z salt x)) k)

-- one key more
pub repeat-turn : (l : Layout) (keys : List ℕ) (i : ℕ) {key : List ℕ} {a b t : Bool} → key ≡ key_at l keys i → a ≡ keys_repeat l i keys
    → b ≡ is_listed l i keys key → t ≡ (a || b) → t ≡ keys_repeat l (i + 1) keys
unfolding keys_repeat
repeat-turn l keys i k e f g = g ∙ rw (e, f, k) (sym (any-more i (λ j. is_listed l j keys (key_at l keys j))))
