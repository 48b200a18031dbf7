-- A flow's k cells lie in the table and always differ; its filter bits lie in the filter.
use mathlib.Core.Path.{◌≡◌, refl, ap, ◌∙◌}
use mathlib.Core.Bool.{true}
use mathlib.Core.List.{List, [], ◌∷◌, ◌++◌}
use Prim.Native.Nat.{ℕ, ◌+◌, ◌-◌, ◌*◌, ◌<◌, ◌≤◌}
use native.Mathlib.Nat.{mul-le-mul, add-mul}
use native.Mathlib.Decide.{dec_lt}
use native.Mathlib.Omega.{arith}
use lib.Dec.{eqb}
use lib.ListN.{length, get_or, get_or-append}
use lib.Seq.{get_or-append-add}
use borrow.Author.Tests.{lt-leb, le-leb, eq-eqb, eqb-true}
use Rattle.laws.specs.Upto.{list_upto}
use Rattle.laws.proofs.Upto.{length-list, list_at, list_same, list-four, any-yes, any_some}
use Rattle.layout.specs.declared.Layout.{Layout}
use Rattle.layout.specs.declared.Sizes.{Sizes}
use Rattle.layout.specs.Sizes.{Lays, Ranged, part_cells, table_cells, filter_bits}
use Rattle.layout.proofs.Ranges.{part_low, part-high, part-within, filter-low}
use Rattle.hash.specs.Fnv.{hash_of, place}
use Rattle.hash.specs.Places.{cell_of, bit_of, bits_of, has_cell, cell_role, filter_role, Within}
use Rattle.hash.proofs.Chain.{hash-lt, place-lt}

-- a part has few cells
pub few : {l : Layout} {z : Sizes} {n : ℕ} → n ≡ part_cells l z → Lays l → Ranged z → n ≤ 384
few {l = l} {z = z} e lays ranged = omega (arith, e, part-high l z lays ranged)

-- the cell that the code works out from one chain of the hash
pub cell-chosen : (l : Layout) (z : Sizes) (salt i : ℕ) (key : List ℕ) {s h c : ℕ} → s ≡ part_cells l z → h ≡ hash_of salt cell_role i key
    → c ≡ i * s + place h s
    → c ≡ cell_of l z salt key i
unfolding cell_of
cell-chosen l z salt i key e f g = rw (g, f, e)

module _ (l : Layout) (z : Sizes) (lays : Lays l) (r : Ranged z) (salt : ℕ) (key : List ℕ) where
  in-part : (i : ℕ) → place (hash_of salt cell_role i key) (part_cells l z) < part_cells l z
  in-part i = place-lt (hash_of salt cell_role i key) (part_cells l z) (hash-lt salt cell_role i key) (part_low l z lays r)

  -- hash i's cell lies in part i
  pub cell-in-part : (i : ℕ) → (i * part_cells l z ≤ cell_of l z salt key i) × (cell_of l z salt key i < i * part_cells l z + part_cells l z)
  unfolding cell_of
  cell-in-part i = (omega arith, omega (arith, in-part i))

  pub cell-within : (i : ℕ) → i < z.k → cell_of l z salt key i < table_cells l z
  cell-within i h = omega (arith, (cell-in-part i).1, part-within l z lays r i h)

  cells-rise : (i j : ℕ) → i < j → cell_of l z salt key i < cell_of l z salt key j
  cells-rise i j h =
      let p = mul-le-mul {n₁ = i + 1} {m₁ = part_cells l z} {n₂ = j} {m₂ = part_cells l z} (omega arith) (omega arith) in
      omega (arith, (cell-in-part i).1, (cell-in-part j).0, add-mul i 1 (part_cells l z))

  -- 01 'Keys and hashing': "So a flow's k cells always differ"
  pub cells-differ : (i j : ℕ) → (i ≡ j → ⊥) → cell_of l z salt key i ≡ cell_of l z salt key j → ⊥
  cells-differ i j n e = elim (dec_lt i j) [
    | yes h ↦ omega (arith, cells-rise i j h)
    | no h ↦ omega (arith, cells-rise j i (omega arith))
  ]

  -- a key has its own cells and no other
  pub has-own : (i : ℕ) → i < z.k → has_cell l z salt key (cell_of l z salt key i) ≡ true
  unfolding has_cell
  has-own i h = any-yes z.k (λ j. eqb (cell_of l z salt key j) (cell_of l z salt key i)) i h
      (eq-eqb (cell_of l z salt key i) (cell_of l z salt key i) refl)

  pub has_some : (c : ℕ) → has_cell l z salt key c ≡ true → (i : ℕ) × (i < z.k) × (cell_of l z salt key i ≡ c)
  unfolding has_cell
  has_some c h = let s = any_some z.k (λ j. eqb (cell_of l z salt key j) c) h in (s.0, s.1, eqb-true (cell_of l z salt key s.0) c s.2)

  pub has_within : (c : ℕ) → has_cell l z salt key c ≡ true → c < table_cells l z
  has_within c h = let s = has_some c h in rw s.2 at (cell-within s.0 s.1)

module _ (z : Sizes) (r : Ranged z) (salt : ℕ) (key : List ℕ) where
  pub bit-lt : (i : ℕ) → bit_of z salt key i < filter_bits z
  unfolding bit_of
  bit-lt i = place-lt (hash_of salt filter_role i key) (filter_bits z) (hash-lt salt filter_role i key) (filter-low z r)

  -- the first kf of the eight places are the flow's filter bits
  pub bits_at : (i : ℕ) → i < z.kf → get_or (bits_of z salt key) i 0 ≡ bit_of z salt key i
  unfolding bits_of
  bits_at i h = elim (dec_lt i 4) [
    | yes p ↦
        get_or-append (list_upto 4 (bit_of z salt key)) _ 0 i (rw (length-list 4 (bit_of z salt key)) p) ∙ list_at 4 (bit_of z salt key) 0 i p
    | no p ↦
        let e : i ≡ length (list_upto 4 (bit_of z salt key)) + (i - 4) = omega (arith, length-list 4 (bit_of z salt key)) in
        let q : 4 + (i - 4) ≡ i = omega arith in
        rw (lt-leb z.kf 4 (omega arith))
        (ap (λ j. get_or (list_upto 4 (bit_of z salt key) ++ list_upto 4 (λ j. bit_of z salt key (4 + j))) j 0) e
        ∙ get_or-append-add (list_upto 4 (bit_of z salt key)) (list_upto 4 (λ j. bit_of z salt key (4 + j))) (i - 4) 0
        ∙ list_at 4 (λ j. bit_of z salt key (4 + j)) 0 (i - 4) (omega arith) ∙ ap (bit_of z salt key) q)
  ]

-- the places of hashes, as the code works them out
module _ (n : ℕ) (salt role : ℕ) (key : List ℕ) (m : ℕ) {hs ps : List ℕ} (e : hs ≡ list_upto n (λ i. hash_of salt role i key))
    (f : ps ≡ list_upto n (λ i. place (get_or hs i 0) m)) where
  pub placed : (i : ℕ) → i < n → get_or ps i 0 ≡ place (hash_of salt role i key) m
  placed i h =
      ap (λ s. get_or s i 0) f
      ∙ list_at n (λ j. place (get_or hs j 0) m) 0 i h
      ∙ ap (λ x. place x m) (ap (λ s. get_or s i 0) e ∙ list_at n (λ j. hash_of salt role j key) 0 i h)

  pub all-placed : ps ≡ list_upto n (λ i. place (hash_of salt role i key) m)
  all-placed = f ∙ list_same n (λ i. place (get_or hs i 0) m) (λ i. place (hash_of salt role i key) m)
      (λ i h. ap (λ x. place x m) (ap (λ s. get_or s i 0) e ∙ list_at n (λ j. hash_of salt role j key) 0 i h))

  pub placed_below : 0 < m → (i : ℕ) → i < n → get_or ps i 0 < m
  placed_below p i h = rw (placed i h) (place-lt (hash_of salt role i key) m (hash-lt salt role i key) p)

-- a key's four cells
pub cells-four : (l : Layout) (z : Sizes) (salt : ℕ) (key : List ℕ) {s : ℕ} {hs ps : List ℕ} → s ≡ part_cells l z
    → hs ≡ list_upto 4 (λ i. hash_of salt cell_role i key)
    → ps ≡ list_upto 4 (λ i. place (get_or hs i 0) s)
    → (get_or ps 0 0 ∷ (s + get_or ps 1 0) ∷ (2 * s + get_or ps 2 0) ∷ (3 * s + get_or ps 3 0) ∷ []) ≡ list_upto 4 (cell_of l z salt key)
cells-four l z salt key {s = s} e hs ps =
    let at = placed 4 salt cell_role key s hs ps in
    list-four (cell_of l z salt key)
    (cell-chosen l z salt 0 key e refl (omega (arith, at 0 (omega arith))))
    (cell-chosen l z salt 1 key e refl (omega (arith, at 1 (omega arith))))
    (cell-chosen l z salt 2 key e refl (omega (arith, at 2 (omega arith))))
    (cell-chosen l z salt 3 key e refl (omega (arith, at 3 (omega arith))))

-- the first k places of a key, as the code keeps them, are cells
pub places-within : (l : Layout) (z : Sizes) (lays : Lays l) (r : Ranged z) (salt : ℕ) (key : List ℕ) {at : List ℕ} → at ≡ list_upto 4
    (cell_of l z salt key)
    → Within at z.k (table_cells l z)
places-within l z lays r salt key e i h =
    rw (e, list_at 4 (cell_of l z salt key) 0 i (omega (arith, r.k-high))) (cell-within l z lays r salt key i h)

-- a key's filter bits: at most four filter hashes, or more
pub bits-few : (z : Sizes) (salt : ℕ) (key : List ℕ) {n : ℕ} {hs ps : List ℕ} → z.kf ≤ 4 → n ≡ filter_bits z
    → hs ≡ list_upto 4 (λ i. hash_of salt filter_role i key)
    → ps ≡ list_upto 4 (λ i. place (get_or hs i 0) n)
    → (get_or ps 0 0 ∷ get_or ps 1 0 ∷ get_or ps 2 0 ∷ get_or ps 3 0 ∷ 0 ∷ 0 ∷ 0 ∷ 0 ∷ []) ≡ bits_of z salt key
unfolding bits_of bit_of list_upto
bits-few z salt key {n = n} h e hs ps =
    let at = placed 4 salt filter_role key n hs ps in
    rw (le-leb z.kf 4 h, at 0 (omega arith), at 1 (omega arith), at 2 (omega arith), at 3 (omega arith), e)

pub bits-many : (z : Sizes) (salt : ℕ) (key : List ℕ) {n : ℕ} {hs ps : List ℕ} → 4 < z.kf → n ≡ filter_bits z
    → hs ≡ list_upto 8 (λ i. hash_of salt filter_role i key)
    → ps ≡ list_upto 8 (λ i. place (get_or hs i 0) n)
    → ps ≡ bits_of z salt key
unfolding bits_of bit_of list_upto
bits-many z salt key {n = n} h e hs ps = rw (lt-leb z.kf 4 h, ← e) (all-placed 8 salt filter_role key n hs ps)
