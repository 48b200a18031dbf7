-- Decimal digits: how many a number has, that they give it back, and that none stands in front for nothing.
use mathlib.Core.Path.{◌≡◌, refl, sym, ap, ◌∙◌}
use mathlib.Core.Bool.{Bool}
use mathlib.Core.List.{[], ◌∷◌, ◌++◌}
use Prim.Native.Nat.{ℕ, zero, suc, ◌+◌, ◌-◌, ◌*◌, ◌/◌, ◌%◌, ◌^◌, ◌≤◌, ◌<◌}
use native.Mathlib.Nat.{one-le-pow, pow-succ', div-one, div-div-eq-div-mul, mod-eq_of_lt, mod-one, mul_assoc, add-mul, add_assoc, div-lt_iff_lt-mul, le-div_iff_mul-le}
use native.Mathlib.Decide.{dec_lt}
use native.Mathlib.Omega.{arith}
use borrow.Author.Tests.{lt-ltb, le-ltb, ltb-true, ltb-false}
use lib.Arith.{mod-mul}
use lib.Dec.{ltb}
use lib.ListN.{length, get_or}
use Rattle.laws.specs.Upto.{lowest}
use Rattle.laws.proofs.Upto.{any-yes}
use Rattle.laws.proofs.Lowest.{lowest-le, lowest-lt, lowest-hit, lowest-is, lowest-none}
use Rattle.lines.specs.Text.{width, digits, decimal, value_after}

pub ten-pos : (w : ℕ) → 0 < 10 ^ w
ten-pos w = one-le-pow w 10 (omega arith)

abbrev below : ℕ → ℕ → Bool
below n i = ltb n (10 ^ suc i)

-- ---- how many digits
pub length_digits : (w n : ℕ) → length (digits w n) ≡ w
unfolding digits
length_digits zero n = refl
length_digits (suc w) n = ap suc (length_digits w n)

pub length-decimal : (n : ℕ) → length (decimal n) ≡ width n
unfolding decimal
length-decimal n = length_digits (width n) n

-- a number below 10^w has at most w digits
pub width-le : (w n : ℕ) → 1 ≤ w → w ≤ 20 → n < 10 ^ w → width n ≤ w
unfolding width
width-le zero n l m h = absurd (omega arith)
width-le (suc w) n l m h = let p = lowest-le 20 (below n) w (omega arith) (lt-ltb n (10 ^ suc w) h) in omega arith

pub decimal-le : (w n : ℕ) → 1 ≤ w → w ≤ 20 → n < 10 ^ w → length (decimal n) ≤ w
decimal-le w n l m h = rw (length-decimal n) (width-le w n l m h)

-- and its width is enough for it
pub width-enough : (n : ℕ) → n < 10 ^ 20 → n < 10 ^ width n
unfolding width
width-enough n h =
    ltb-true n (10 ^ suc (lowest 20 (below n)))
    (lowest-hit 20 (below n) (any-yes 20 (below n) 19 (omega arith) (lt-ltb n (10 ^ 20) h)))

-- the width of a number, where it is enough and one less is not
pub width_is : (n d : ℕ) → 1 ≤ d → d ≤ 20 → n < 10 ^ d → ((i : ℕ) → suc i < d → 10 ^ suc i ≤ n) → d ≡ width n
unfolding width
width_is n zero l m b a = absurd (omega arith)
width_is n (suc w) l m b a =
    ap suc (sym (lowest-is 20 (below n) w m (lt-ltb n (10 ^ suc w) b) (λ i h. le-ltb n (10 ^ suc i) (a i (omega arith)))))

-- ---- a digit more
-- below a width one less, a number has more digits
width-needed : (n i : ℕ) → suc i < width n → 10 ^ suc i ≤ n
unfolding width
width-needed n i h = ltb-false n (10 ^ suc i) (lowest-none 20 (below n) i (omega arith))

tenth-needed : (n i : ℕ) → 10 ≤ n → suc i < suc (width (n / 10)) → 10 ^ suc i ≤ n
tenth-needed n zero l q = l
tenth-needed n (suc i) l q = let h = width-needed (n / 10) i (omega arith) in rw (pow-succ' 10 (suc i)) (omega arith)

width-more : (n : ℕ) → 10 ≤ n → n < 10 ^ 20 → suc (width (n / 10)) ≡ width n
width-more n l h =
    let enough = width-enough (n / 10) (omega arith) in
    let few = width-le 19 (n / 10) (omega arith) (omega arith) (omega arith) in
    width_is n (suc (width (n / 10))) (omega arith) (omega arith) (rw (pow-succ' 10 (width (n / 10))) (omega arith)) (λ i q. tenth-needed n i l q)

digits-more : (w n : ℕ) → digits (suc w) n ≡ digits w (n / 10) ++ ((48 + n % 10) ∷ [])
unfolding digits
digits-more zero n = rw div-one refl
digits-more (suc w) n =
    ap (λ (x : ℕ). (48 + x % 10) ∷ digits (suc w) n) (ap (λ (y : ℕ). n / y) (pow-succ' 10 w) ∙ sym (div-div-eq-div-mul n 10 (10 ^ w)))
    ∙ ap (λ l. (48 + n / 10 / 10 ^ w % 10) ∷ l) (digits-more w n)

-- one digit is the number, and of more the last stands behind those of a tenth
pub decimal-digit : (n : ℕ) → n < 10 → decimal n ≡ (48 + n % 10) ∷ []
unfolding decimal digits
decimal-digit n h =
    let one : 1 ≡ width n = width_is n 1 (omega arith) (omega arith) h (λ i q. absurd (omega arith)) in
    ap (λ w. digits w n) (sym one) ∙ rw div-one refl

pub decimal-more : (n : ℕ) → 10 ≤ n → n < 10 ^ 20 → decimal n ≡ decimal (n / 10) ++ ((48 + n % 10) ∷ [])
unfolding decimal
decimal-more n l h = ap (λ w. digits w n) (sym (width-more n l h)) ∙ digits-more (width (n / 10)) n

-- ---- the digits give the number back
digits_value : (w m n : ℕ) → value_after m (digits w n) ≡ m * 10 ^ w + n % 10 ^ w
unfolding digits value_after
digits_value zero m n = rw (mod-one n) (omega arith)
digits_value (suc w) m n =
    let d = n / 10 ^ w % 10 in
    let e : 48 + d - 48 ≡ d = omega arith in
    let low : n % 10 ^ suc w ≡ d * 10 ^ w + n % 10 ^ w = ap (λ (y : ℕ). n % y) (pow-succ' 10 w) ∙ mod-mul n (omega arith) (ten-pos w) in
    ap (λ (x : ℕ). value_after (m * 10 + x) (digits w n)) e ∙ digits_value w (m * 10 + d) n
    ∙ rw (low, pow-succ' 10 w, add-mul, mul_assoc, add_assoc)

-- 01 'Printing program' as a reader has it: the printed digits are the number's
pub decimal-value : (n : ℕ) → n < 10 ^ 20 → value_after 0 (decimal n) ≡ n
unfolding decimal
decimal-value n h = digits_value (width n) 0 n ∙ (let e = mod-eq_of_lt (width-enough n h) in omega arith)

-- ---- no zero stands in front
top-power : (n : ℕ) → 1 ≤ n → n < 10 ^ 20 → 10 ^ lowest 20 (below n) ≤ n
top-power n l h = go (lowest 20 (below n)) refl
  where
    go : (k : ℕ) → lowest 20 (below n) ≡ k → 10 ^ k ≤ n
    go zero e = l
    go (suc k) e = elim (dec_lt n (10 ^ suc k)) [
      | yes b ↦
          let some = any-yes 20 (below n) 19 (omega arith) (lt-ltb n (10 ^ 20) h) in
          let low = lowest-le 20 (below n) k (omega (arith, lowest-lt 20 (below n) some)) (lt-ltb n (10 ^ suc k) b) in
          absurd (omega arith)
      | no b ↦ omega arith
    ]

top_digit : (k n : ℕ) → n < 10 ^ suc k → 10 ^ k ≤ n → n / 10 ^ k % 10 ≡ 0 → ⊥
top_digit k n h l e =
    let few = (div-lt_iff_lt-mul {k = 10 ^ k} {x = n} {y = 10} (ten-pos k)).1 (rw (pow-succ' 10 k) at h) in
    let some = (le-div_iff_mul-le {k = 10 ^ k} {x = 1} {y = n} (ten-pos k)).1 (omega arith) in
    omega arith

pub no-leading-zero : (n : ℕ) → 10 ≤ n → n < 10 ^ 20 → get_or (decimal n) 0 0 ≡ 48 → ⊥
unfolding decimal digits width
no-leading-zero n l h e =
    top_digit (lowest 20 (below n)) n (width-enough n h) (top-power n (omega arith) h) (omega arith)
