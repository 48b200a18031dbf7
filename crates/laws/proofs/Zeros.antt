-- A list of which every number is 0: one number more, what it is, and rows of it.
use mathlib.Core.Path.{◌≡◌, sym, ap, ◌∙◌}
use mathlib.Core.Bool.{Bool, true, ◌&&◌}
use mathlib.Core.List.{List}
use Prim.Native.Nat.{ℕ, ◌+◌, ◌*◌}
use native.Mathlib.Omega.{arith}
use lib.Bits.{bit_or, or_add_and, and_le_l, and_le_r}
use lib.Dec.{eqb}
use lib.ListN.{length, get_or, take, drop, replicate, length-replicate}
use lib.Seq.{ext_get_or}
use borrow.Author.Tests.{eqb-true, eq-eqb}
use Rattle.laws.specs.Upto.{all_upto}
use Rattle.laws.specs.Zeros.{all_zero}
use Rattle.laws.proofs.Bools.{and_l, and_r, and_i, iff}
use Rattle.laws.proofs.Lists.{part_at, length_part, zero-at}
use Rattle.laws.proofs.Rows.{all-rows, row_within}
use Rattle.laws.proofs.Upto.{all_yes, all-at, all_same, all_more}

-- the OR of two numbers is 0 just where both are
or-none : (a b : ℕ) → eqb (bit_or a b) 0 ≡ (eqb a 0 && eqb b 0)
or-none a b = iff (eqb (bit_or a b) 0) (eqb a 0 && eqb b 0)
    (λ e. and_i (eqb a 0) (eqb b 0)
    (eq-eqb a 0 (omega (arith, eqb-true (bit_or a b) 0 e, or_add_and a b, and_le_r a b)))
    (eq-eqb b 0 (omega (arith, eqb-true (bit_or a b) 0 e, or_add_and a b, and_le_l a b))))
    (λ e. eq-eqb (bit_or a b) 0
    (omega (arith, or_add_and a b, eqb-true a 0 (and_l (eqb a 0) (eqb b 0) e), eqb-true b 0 (and_r (eqb a 0) (eqb b 0) e))))

-- the numbers ORed together: one more
pub zero_turn : (s : List ℕ) (i any : ℕ) → eqb any 0 ≡ all_upto i (λ j. eqb (get_or s j 0) 0)
    → eqb (bit_or any (get_or s i 0)) 0 ≡ all_upto (i + 1) (λ j. eqb (get_or s j 0) 0)
zero_turn s i any e = or-none any (get_or s i 0) ∙ ap (λ b. b && eqb (get_or s i 0) 0) e ∙ sym (all_more i (λ j. eqb (get_or s j 0) 0))

pub zero-end : (s : List ℕ) (any : ℕ) {i : ℕ} {b : Bool} → i ≡ length s → eqb any 0 ≡ all_upto i (λ j. eqb (get_or s j 0) 0) → b ≡ eqb any 0 → b ≡ all_zero s
unfolding all_zero
zero-end s any e f g = g ∙ f ∙ ap (λ n. all_upto n (λ j. eqb (get_or s j 0) 0)) e

-- such a list is zeros, and zeros are such a list
pub zero_is : (s : List ℕ) → all_zero s ≡ true → s ≡ replicate (length s) 0
unfolding all_zero
zero_is s e = ext_get_or 0 s (replicate (length s) 0) (sym (length-replicate (length s) 0))
    (λ i h. eqb-true (get_or s i 0) 0 (all-at (length s) (λ j. eqb (get_or s j 0) 0) e i h) ∙ sym (zero-at (length s) i))

pub zeros-zero : (n : ℕ) → all_zero (replicate n 0) ≡ true
unfolding all_zero
zeros-zero n = all_yes (length (replicate n 0)) (λ j. eqb (get_or (replicate n 0) j 0) 0) (λ i h. eq-eqb (get_or (replicate n 0) i 0) 0 (zero-at n i))

-- n rows of w: every number is 0 just where every row is zeros
pub zero-rows : (n w : ℕ) (s : List ℕ) → length s ≡ n * w → all_zero s ≡ all_upto n (λ c. all_zero (take w (drop (c * w) s)))
unfolding all_zero
zero-rows n w s e =
    ap (λ m. all_upto m (λ j. eqb (get_or s j 0) 0)) e ∙ all-rows n w (λ j. eqb (get_or s j 0) 0)
    ∙ all_same n (λ c. all_upto w (λ j. eqb (get_or s (c * w + j) 0) 0)) (λ c. all_zero (take w (drop (c * w) s)))
    (λ c h.
    let long : length (take w (drop (c * w) s)) ≡ w = length_part s (c * w) w (omega (arith, e, row_within c n w h)) in
    all_same w (λ j. eqb (get_or s (c * w + j) 0) 0) (λ j. eqb (get_or (take w (drop (c * w) s)) j 0) 0)
    (λ j q. ap (λ x. eqb x 0) (sym (part_at s (c * w) w j 0 q)))
    ∙ ap (λ m. all_upto m (λ j. eqb (get_or (take w (drop (c * w) s)) j 0) 0)) (sym long))
