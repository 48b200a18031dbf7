-- Keys are the same when their bytes are; a key appended is read back and the others stay; the lists keep their lengths.
use mathlib.Core.Path.{◌≡◌, refl, sym, ap, ap₂, ◌∙◌}
use mathlib.Core.Bool.{Bool, true, cond}
use mathlib.Core.List.{List, ◌++◌}
use mathlib.Core.Logic.{inl, inr}
use Prim.Native.Nat.{ℕ, ◌+◌, ◌*◌, ◌<◌, ◌≤◌}
use native.Mathlib.Decide.{ℕ_discrete, dec_lt}
use native.Mathlib.Nat.{mul-le-mul, mul-le-mul_right}
use native.Mathlib.Omega.{arith}
use borrow.Author.Tests.{eq-eqb, eqb-true}
use lib.Bits.{bit_or}
use lib.Dec.{eqb}
use lib.ListN.{length, get_or, set, take, drop, length-set, get_or-eq_default}
use lib.Seq.{sets, length-sets, ext_get_or, get_or-set_same, get_or-set_other}
use Rattle.laws.specs.Digit.{digit}
use Rattle.laws.proofs.Digits.{digit_or, digit_lt, digit-pow, digit-pow-other}
use Rattle.laws.proofs.Lists.{length_part, part-sets-same, part-sets-other, lent-sets}
use Rattle.laws.proofs.Lowest.{number_same, number_more, number-rest}
use Rattle.laws.proofs.Upto.{any_some, any-yes, all-at, all_yes}
use Rattle.layout.specs.declared.Layout.{Layout}
use Rattle.layout.specs.declared.Sizes.{Sizes}
use Rattle.layout.specs.Sizes.{Lays, Ranged, table_cells}
use Rattle.layout.proofs.Ranges.{table-high, cell-high}
use Rattle.list.specs.declared.Found.{Found}
use Rattle.list.specs.Found.{FoundKept}
use Rattle.list.specs.Records.{Records, Room, key_at, is_known, is_handed, handed_in, peeled_in, same_bytes, is_listed, appended, known_at, with_count}
use Rattle.laws.proofs.Bools.{split, clash}
use Rattle.laws.proofs.Rows.{row_within}
use Rattle.std.proofs.lemmas.Slice.Eq.{bytes_eq-Decides}
use Rattle.std.specs.Cmp.Lexicographic.{pointwise}

-- ---- keys
pub same-is : (a b : List ℕ) → length a ≡ length b → same_bytes a b ≡ true → a ≡ b
unfolding same_bytes
same-is a b e h =
    ext_get_or 0 a b e (λ j l. eqb-true (get_or a j 0) (get_or b j 0) (all-at (length b) (λ i. eqb (get_or a i 0) (get_or b i 0)) h j (omega arith)))

pub same_self : (a : List ℕ) → same_bytes a a ≡ true
unfolding same_bytes
same_self a = all_yes (length a) (λ j. eqb (get_or a j 0) (get_or a j 0)) (λ j l. eq-eqb (get_or a j 0) (get_or a j 0) refl)

-- what == says of two keys of one length
pub same-decided : (a b : List ℕ) → length a ≡ length b → pointwise eqb a b ≡ same_bytes a b
same-decided a b e =
    let decides = bytes_eq-Decides a b in
    elim (split (same_bytes a b)) [
      | inl h ↦ decides.1 (same-is a b e h) ∙ sym h
      | inr h ↦ elim (split (pointwise eqb a b)) [
        | inl p ↦ clash (rw (← decides.0 p) (same_self a)) h
        | inr p ↦ p ∙ sym h
      ]
    ]

module _ (l : Layout) (keys : List ℕ) where
  pub length-key : (i : ℕ) → i * l.key + l.key ≤ length keys → length (key_at l keys i) ≡ l.key
  unfolding key_at
  length-key i h = length_part keys (i * l.key) l.key h

  -- a listed key stands at a position below n
  pub listed-some : (n : ℕ) (key : List ℕ) → n * l.key ≤ length keys → length key ≡ l.key → is_listed l n keys key ≡ true
      → (i : ℕ) × (i < n) × (key_at l keys i ≡ key)
  unfolding is_listed
  listed-some n key h e p =
      let s = any_some n (λ i. same_bytes (key_at l keys i) key) p in
      let inside = row_within s.0 n l.key s.1 in
      (s.0, s.1, same-is (key_at l keys s.0) key (length-key s.0 (omega arith) ∙ sym e) s.2)

  pub listed_at : (n i : ℕ) → i < n → is_listed l n keys (key_at l keys i) ≡ true
  unfolding is_listed
  listed_at n i h = any-yes n (λ j. same_bytes (key_at l keys j) (key_at l keys i)) i h (same_self (key_at l keys i))

  -- a part of the keys that the code lends
  pub key-part : (i : ℕ) {k : ℕ} → k ≡ l.key → take k (drop (i * l.key) keys) ≡ key_at l keys i
  unfolding key_at
  key-part i e = rw e

  -- what the code leaves is the run of stores
  pub key-put : (n : ℕ) (key : List ℕ) {k : ℕ} {new : List ℕ} → length key ≡ l.key → n * l.key + l.key ≤ length keys → k ≡ l.key → new ≡ key
      → take (n * l.key) keys ++ (new ++ drop k (drop (n * l.key) keys)) ≡ sets keys (n * l.key) key
  key-put n key e h q f = rw f (lent-sets key keys (n * l.key) _ (e ∙ sym q) (omega arith))

  -- the key appended, and those before it
  pub key-appended : (n : ℕ) (key : List ℕ) → length key ≡ l.key → n * l.key + l.key ≤ length keys → key_at l (sets keys (n * l.key) key) n ≡ key
  unfolding key_at
  key-appended n key e h =
      ap (λ k. take k (drop (n * l.key) (sets keys (n * l.key) key))) (sym e) ∙ part-sets-same key keys (n * l.key) (rw e h)

  pub key-kept : (n : ℕ) (key : List ℕ) (i : ℕ) → i < n → key_at l (sets keys (n * l.key) key) i ≡ key_at l keys i
  unfolding key_at
  key-kept n key i h = part-sets-other key keys (n * l.key) (i * l.key) l.key 0 (inl (row_within i n l.key h))

  -- and those past it
  pub key-past : (n : ℕ) (key : List ℕ) (i : ℕ) → length key ≡ l.key → n < i → key_at l (sets keys (n * l.key) key) i ≡ key_at l keys i
  unfolding key_at
  key-past n key i e h =
      part-sets-other key keys (n * l.key) (i * l.key) l.key 0 (inr (rw e (row_within n i l.key h)))

-- 01 'A session': "records past the listed ones are neither read nor written later, but for an append": one at n leaves every record past it
pub past-appended : (l : Layout) (n : ℕ) (key : List ℕ) (flag : ℕ) (rs : Records) (i : ℕ) → length key ≡ l.key → n < i
    → (key_at l (appended l n key flag rs).keys i ≡ key_at l rs.keys i)
    × (get_or (appended l n key flag rs).counts i 0 ≡ get_or rs.counts i 0)
    × (get_or (appended l n key flag rs).flags i 0 ≡ get_or rs.flags i 0)
unfolding appended
past-appended l n key flag rs i e h = (
  key-past l rs.keys n key i e h,
  get_or-set_other rs.counts n i 0 0 (λ f. absurd (omega arith)),
  get_or-set_other rs.flags n i flag 0 (λ f. absurd (omega arith)),
)

-- ---- the three slices that are lent
pub found-self : (f : Found) → FoundKept f f
found-self f = (refl, refl, refl, refl, refl, refl)

pub found-on : (f g h : Found) → FoundKept f g → FoundKept g h → FoundKept f h
found-on f g h k m = (k.0 ∙ m.0, k.1 ∙ m.1, k.2 ∙ m.2, k.3 ∙ m.3, k.4 ∙ m.4, k.5 ∙ m.5)

-- ---- lengths
pub key-inside : {l : Layout} {m : ℕ} {rs : Records} (n : ℕ) → Room l m rs → n < m → n * l.key + l.key ≤ length rs.keys
key-inside {l} {m} n r h = omega (arith, r.keys-fit, row_within n m l.key h)

pub keys-inside : {l : Layout} {m : ℕ} {rs : Records} (n : ℕ) → Room l m rs → n ≤ m → n * l.key ≤ length rs.keys
keys-inside {l} n r h = omega (arith, r.keys-fit, mul-le-mul_right l.key h)

-- places of the keys of at most 2 N records are small numbers
pub key-small : {l : Layout} {z : Sizes} (n : ℕ) → Lays l → Ranged z → n ≤ 2 * table_cells l z → n * l.key + l.key ≤ 1475040
key-small {l} {z} n lays r h =
    let small = cell-high l z lays r in
    let p = mul-le-mul {n₁ = n} {m₁ = l.key} {n₂ = 3072} {m₂ = 480} (omega (arith, table-high l z lays r)) (omega (arith, lays.key_fits)) in
    omega (arith, lays.key_fits)

pub room-appended : (l : Layout) (m n : ℕ) (key : List ℕ) (flag : ℕ) (rs : Records) → Room l m rs → Room l m (appended l n key flag rs)
unfolding appended
room-appended l m n key flag rs r = record {
  keys-fit = length-sets rs.keys (n * l.key) key ∙ r.keys-fit;
  counts-fit = length-set rs.counts n 0 ∙ r.counts-fit;
  flags-fit = length-set rs.flags n flag ∙ r.flags-fit;
}

pub room-told : (l : Layout) (m i v : ℕ) (rs : Records) → Room l m rs → Room l m (with_count i v rs)
unfolding known_at
room-told l m i v rs r = record {
  keys-fit = r.keys-fit;
  counts-fit = length-set rs.counts i v ∙ r.counts-fit;
  flags-fit = length-set rs.flags i (bit_or (get_or rs.flags i 0) 1) ∙ r.flags-fit;
}

-- ---- flags
pub known-told : (i v : ℕ) (rs : Records) → i < length rs.flags → is_known (with_count i v rs) i ≡ true
unfolding is_known known_at
known-told i v rs h =
    let x = get_or rs.flags i 0 in
    let e : digit (bit_or x 1) 0 ≡ 1 = digit_or x 1 0 ∙ (let p = digit-pow 0 in omega (arith, digit_lt x 0)) in
    rw (get_or-set_same rs.flags i (bit_or x 1) 0 h, e)

pub handed-told : (i v : ℕ) (rs : Records) → i < length rs.flags → is_handed (with_count i v rs) i ≡ is_handed rs i
unfolding is_handed known_at
handed-told i v rs h =
    let x = get_or rs.flags i 0 in
    let e : digit (bit_or x 1) 1 ≡ digit x 1 = digit_or x 1 1 ∙ (let p = digit-pow-other 0 1 (λ q. omega arith) in omega (arith, digit_lt x 1)) in
    rw (get_or-set_same rs.flags i (bit_or x 1) 0 h, e)

pub flags-other : (i v j : ℕ) (rs : Records) → (j ≡ i → ⊥) → get_or (with_count i v rs).flags j 0 ≡ get_or rs.flags j 0
unfolding known_at
flags-other i v j rs n = get_or-set_other rs.flags i j (bit_or (get_or rs.flags i 0) 1) 0 n

-- where there is no such position nothing changes
flags-past : (i v : ℕ) (rs : Records) → length rs.flags ≤ i → get_or (with_count i v rs).flags i 0 ≡ get_or rs.flags i 0
unfolding known_at
flags-past i v rs h =
    get_or-eq_default (with_count i v rs).flags 0 {n = i} (omega (arith, length-set rs.flags i (bit_or (get_or rs.flags i 0) 1)))
    ∙ sym (get_or-eq_default rs.flags 0 {n = i} h)

-- a count that becomes known changes no flow's flag of being handed over
pub handed-still : (i v j : ℕ) (rs : Records) → is_handed (with_count i v rs) j ≡ is_handed rs j
unfolding is_handed
handed-still i v j rs = elim (ℕ_discrete j i) [
  | no d ↦ rw (flags-other i v j rs d)
  | yes e ↦ elim (dec_lt i (length rs.flags)) [
    | yes h ↦ rw e (handed-told i v rs h)
    | no h ↦ rw e (ap (λ x. eqb (digit x 1) 1) (flags-past i v rs (omega arith)))
  ]
]

-- ---- how many were handed over and how many peeled
pub listed-parts : (n : ℕ) (rs : Records) → handed_in n rs + peeled_in n rs ≡ n
unfolding handed_in peeled_in
listed-parts n rs = number-rest n (is_handed rs)

pub handed-same : (n : ℕ) (rs rs' : Records) → ((i : ℕ) → is_handed rs' i ≡ is_handed rs i) → handed_in n rs' ≡ handed_in n rs
unfolding handed_in
handed-same n rs rs' h = number_same n (is_handed rs') (is_handed rs) (λ i q. h i)

-- one more record, peeled (flag 0) or handed over (flag 2)
pub handed-more : (l : Layout) (n : ℕ) (key : List ℕ) (flag : ℕ) (rs : Records) → n < length rs.flags
    → handed_in (n + 1) (appended l n key flag rs) ≡ handed_in n rs + cond (eqb (digit flag 1) 1) 1 0
unfolding handed_in is_handed appended
handed-more l n key flag rs h =
    let new : ℕ → Bool = λ i. eqb (digit (get_or (set rs.flags n flag) i 0) 1) 1 in
    let old : ℕ → Bool = λ i. eqb (digit (get_or rs.flags i 0) 1) 1 in
    number_more n new
    ∙ ap₂ (λ x y. x + y)
    (number_same n new old (λ i q. ap (λ x. eqb (digit x 1) 1) (get_or-set_other rs.flags n i flag 0 (λ e. omega arith))))
    (ap (λ x. cond (eqb (digit x 1) 1) 1 0) (get_or-set_same rs.flags n flag 0 h))
