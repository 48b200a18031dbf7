-- Blocks with the right check, counted up to the first that has another.
use mathlib.Core.Path.{◌≡◌, sym, ap, ap₂, ◌∙◌}
use mathlib.Core.Bool.{true, false, not}
use mathlib.Core.List.{List, [], ◌∷◌}
use Prim.Native.Nat.{ℕ, zero, suc, ◌+◌, ◌-◌, ◌*◌, ◌≤◌, ◌<◌}
use native.Mathlib.Decide.{dec_lt}
use native.Mathlib.Omega.{arith}
use lib.Dec.{eqb}
use lib.ListN.{length, get_or, take, drop, length-drop}
use lib.Seq.{take_all, take-take, drop-drop}
use borrow.Author.Tests.{eq-eqb, ne_eqb}
use Rattle.laws.specs.BigEndian.{number_of}
use Rattle.laws.specs.Upto.{lowest}
use Rattle.laws.proofs.Bools.{not_t, not_f}
use Rattle.laws.proofs.Lists.{part-inside}
use Rattle.laws.proofs.Lowest.{lowest-from, lowest-none, lowest-max, lowest-passes}
use Rattle.fields.specs.Field.{field}
use Rattle.hash.specs.Fnv.{fnv}
use Rattle.block.specs.Block.{block_at}
use Rattle.reading.specs.Read.{checks}
use Rattle.reading.specs.Right.{right_blocks}

-- the first n blocks have the right check
abbrev pub Right : ℕ → List ℕ → Type 0
Right n s = (i : ℕ) → i < n → checks (block_at s i) ≡ true

module _ (m : ℕ) (s : List ℕ) where
  pub right-max : right_blocks m s ≤ m
  unfolding right_blocks
  right-max = lowest-max m (λ i. not (checks (block_at s i)))

  pub right-all : Right (right_blocks m s) s
  unfolding right_blocks
  right-all i h = not_f (checks (block_at s i)) (lowest-none m (λ i. not (checks (block_at s i))) i h)

  pub right-stop : right_blocks m s < m → checks (block_at s (right_blocks m s)) ≡ false
  unfolding right_blocks
  right-stop h = not_t (checks (block_at s (lowest m (λ i. not (checks (block_at s i)))))) (lowest-passes m (λ i. not (checks (block_at s i))) h)

  pub right_is : (n : ℕ) → n ≤ m → Right n s → (n < m → checks (block_at s n) ≡ false) → n ≡ right_blocks m s
  unfolding right_blocks
  right_is n h all stop = lowest-from m (λ i. not (checks (block_at s i))) n h (λ i l. ap not (all i l)) (λ l. ap not (stop l))

-- the first blocks, as a number and one by one
pub right-these : (n : ℕ) (s : List ℕ) → right_blocks n s ≡ n → Right n s
right-these n s e i h = right-all n s i (omega arith)

pub right_so : (n : ℕ) (s : List ℕ) → Right n s → right_blocks n s ≡ n
right_so n s all = sym (right_is n s n (omega arith) all (λ l. absurd (omega arith)))

pub right-none : (s : List ℕ) → Right 0 s
right-none s i h = absurd (omega arith)

-- one block more
pub right-more : (n : ℕ) (s : List ℕ) → Right n s → checks (block_at s n) ≡ true → Right (n + 1) s
right-more n s all last i h = elim (dec_lt i n) [
  | yes l ↦ all i l
  | no l ↦ let e : n ≡ i = omega arith in ap (λ j. checks (block_at s j)) (sym e) ∙ last
]

-- block i of the part that starts at block n
pub block-of-part : (s : List ℕ) (n i w : ℕ) → i * 512 + 512 ≤ w → block_at (take w (drop (n * 512) s)) i ≡ block_at s (n + i)
block-of-part s n i w h =
    let e : n * 512 + i * 512 ≡ (n + i) * 512 = omega arith in
    part-inside s (n * 512) w (i * 512) 512 h ∙ ap (λ j. take 512 (drop j s)) e

-- k right blocks after n, and a wrong one after those
module _ (s : List ℕ) (n k w : ℕ) where
  pub right-on : k * 512 ≤ w → Right n s → Right k (take w (drop (n * 512) s)) → Right (n + k) s
  right-on h all more i l = elim (dec_lt i n) [
    | yes p ↦ all i p
    | no p ↦
        let e : n + (i - n) ≡ i = omega arith in
        ap (λ j. checks (block_at s j)) (sym e) ∙ ap checks (sym (block-of-part s n (i - n) w (omega arith))) ∙ more (i - n) (omega arith)
  ]

  pub wrong-on : k * 512 + 512 ≤ w → checks (block_at (take w (drop (n * 512) s)) k) ≡ false → checks (block_at s (n + k)) ≡ false
  wrong-on h p = ap checks (sym (block-of-part s n k w h)) ∙ p

-- four blocks from block n on, as the code lends them
module _ (s : List ℕ) (n : ℕ) {r : ℕ} (right : r ≡ right_blocks 4 (take (n * 512 + 2048 - n * 512) (drop (n * 512) s))) where
  part : List ℕ
  part = take 2048 (drop (n * 512) s)

  right-part : r ≡ right_blocks 4 part
  unfolding part
  right-part = let e : n * 512 + 2048 - n * 512 ≡ 2048 = omega arith in right ∙ ap (λ w. right_blocks 4 (take w (drop (n * 512) s))) e

  pub four-max : r ≤ 4
  four-max = rw right-part (right-max 4 part)

  pub four-right : Right n s → Right (n + r) s
  unfolding part
  four-right all = right-on s n r 2048 (omega (arith, four-max)) all (rw right-part (right-all 4 part))

  pub four-wrong : r < 4 → checks (block_at s (n + r)) ≡ false
  unfolding part
  four-wrong h = wrong-on s n r 2048 (omega arith) (rw right-part (right-stop 4 part (rw right-part at h)))

-- the check of block i, read where it stands
pub check-at : (s : List ℕ) (i : ℕ) → checks (block_at s i) ≡ eqb (field 4 s (i * 512 + 508)) (fnv (take 508 (drop (i * 512) s)))
unfolding checks field
check-at s i =
    ap₂ eqb (ap number_of (part-inside s (i * 512) 512 508 4 (omega arith)))
    (ap fnv (take-take 508 512 (drop (i * 512) s) (omega arith)))

-- the checks of four blocks, as the hash gives them
pub four-checks : (s : List ℕ) {hs : List ℕ}
    → hs ≡ fnv (take 508 s) ∷ fnv (take 508 (drop 512 s)) ∷ fnv (take 508 (drop 1024 s)) ∷ fnv (take 508 (drop 1536 s)) ∷ []
    → (n : ℕ) → n < 4 → get_or hs n 0 ≡ fnv (take 508 (drop (n * 512) s))
four-checks s e zero h = rw e
four-checks s e (suc zero) h = rw e
four-checks s e (suc (suc zero)) h = rw e
four-checks s e (suc (suc (suc zero))) h = rw e
four-checks s e (suc (suc (suc (suc n)))) h = absurd (omega arith)

-- block i compared
module _ (s : List ℕ) (i : ℕ) {x h : ℕ} (read : x ≡ field 4 s (i * 512 + 508)) (hash : h ≡ fnv (take 508 (drop (i * 512) s))) where
  pub compared-right : x ≡ h → checks (block_at s i) ≡ true
  compared-right e = check-at s i ∙ eq-eqb _ _ (sym read ∙ e ∙ hash)

  pub compared-wrong : (x ≡ h → ⊥) → checks (block_at s i) ≡ false
  compared-wrong n = check-at s i ∙ ne_eqb _ _ (λ e. n (read ∙ e ∙ sym hash))

-- ---- the blocks after block 0, as the code lends them
rest : List ℕ → List ℕ
rest s = take (length s - 512) (drop 512 s)

rest-block : (s : List ℕ) (i : ℕ) → block_at (rest s) i ≡ block_at s (i + 1)
unfolding rest
rest-block s i =
    let e : 512 + i * 512 ≡ (i + 1) * 512 = omega arith in
    ap (λ t. block_at t i) (take_all (length s - 512) (drop 512 s) (rw length-drop (omega arith)))
    ∙ ap (take 512) (drop-drop (i * 512) 512 s) ∙ ap (λ j. take 512 (drop j s)) e

module _ (s : List ℕ) (m n : ℕ) {b : List ℕ} (is : b ≡ block_at s n) {r : ℕ} (right : r ≡ right_blocks m (take (length s - 512) (drop 512 s))) where
  pub later-right : 1 ≤ n → n < r + 1 → checks b ≡ true
  unfolding rest
  later-right p q =
      let e : n - 1 + 1 ≡ n = omega arith in
      ap checks (is ∙ ap (block_at s) (sym e) ∙ sym (rest-block s (n - 1))) ∙ right-all m (rest s) (n - 1) (omega arith)

  pub later-wrong : n ≡ r + 1 → n < m + 1 → checks b ≡ false
  unfolding rest
  later-wrong p q =
      ap checks (is ∙ ap (block_at s) (p ∙ ap (λ x. x + 1) right) ∙ sym (rest-block s (right_blocks m (rest s)))) ∙ right-stop m (rest s) (omega arith)
