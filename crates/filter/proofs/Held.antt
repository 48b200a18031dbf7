-- A bit set is set, no other bit changes, and the flow's bits in the code's list are 01's.
use mathlib.Core.Path.{◌≡◌, refl, sym, ap, ◌∙◌}
use mathlib.Core.Bool.{Bool, true, false, not, ◌||◌}
use mathlib.Core.List.{List}
use Prim.Native.Nat.{ℕ, zero, suc, ◌+◌, ◌-◌, ◌*◌, ◌/◌, ◌%◌, ◌^◌, ◌<◌}
use native.Mathlib.Nat.{zero-mul}
use native.Mathlib.Decide.{ℕ_discrete}
use native.Mathlib.Omega.{arith}
use lib.Bits.{bit_or}
use lib.Dec.{eqb}
use lib.Pow.{pow_pos, pow-add, shl-shr}
use lib.ListN.{length, get_or, length-set}
use lib.Seq.{get_or-set_same, get_or-set_other}
use borrow.Author.Tests.{eq-eqb, ne_eqb}
use Rattle.laws.specs.Digit.{digit}
use Rattle.laws.specs.Upto.{any_upto, each_upto}
use Rattle.laws.proofs.Bools.{not_f, or_l, or_r, or-f}
use Rattle.laws.proofs.Digits.{digit_or, digit-pow, digit-pow-other, digit_lt, and_pow}
use Rattle.laws.proofs.Upto.{any_same, any-yes, any-no, any_none, each_same, each_keeps}
use Rattle.layout.specs.declared.Sizes.{Sizes}
use Rattle.layout.specs.Sizes.{Ranged, filter_bytes}
use Rattle.layout.proofs.Ranges.{bit-within}
use Rattle.hash.specs.Places.{bit_of, bits_of}
use Rattle.hash.proofs.Apart.{bit-lt, bits_at}
use Rattle.filter.specs.Filter.{mask, is_set, with_bit, any_clear, with_bits, InFilter, is_new, with_flow, has_bit}

-- the mask is a power of two, so it picks one digit
mask-pow : (n : ℕ) → mask n ≡ 2 ^ (7 - n % 8)
mask-pow n =
    let e : 7 - n % 8 + n % 8 ≡ 7 = omega arith in
    ap (λ x. 2 ^ x / 2 ^ (n % 8)) (sym e) ∙ ap (λ x. x / 2 ^ (n % 8)) (pow-add 2 (7 - n % 8) (n % 8)) ∙ shl-shr (2 ^ (7 - n % 8)) (n % 8)

-- the bit's digit in its byte
abbrev at : ℕ → ℕ
at n = 7 - n % 8

digit_set : (x k : ℕ) → digit x k ≡ 1 → eqb (digit x k * 2 ^ k) 0 ≡ false
digit_set x k e = rw e (ne_eqb (1 * 2 ^ k) 0 (λ z. omega (arith, pow_pos k)))

digit_clear : (x k : ℕ) → digit x k ≡ 0 → eqb (digit x k * 2 ^ k) 0 ≡ true
digit_clear x k e = rw (e, zero-mul (2 ^ k))

is_digit : (filter : List ℕ) (n : ℕ) → is_set filter n ≡ not (eqb (digit (get_or filter (n / 8) 0) (at n) * 2 ^ at n) 0)
unfolding is_set
is_digit filter n = rw (mask-pow n, and_pow (get_or filter (n / 8) 0) (at n))

pub set-yes : (filter : List ℕ) (n : ℕ) → digit (get_or filter (n / 8) 0) (at n) ≡ 1 → is_set filter n ≡ true
set-yes filter n e = is_digit filter n ∙ ap not (digit_set (get_or filter (n / 8) 0) (at n) e)

-- two filters whose digits at a bit are alike
set-like : (f g : List ℕ) (n : ℕ) → digit (get_or f (n / 8) 0) (at n) ≡ digit (get_or g (n / 8) 0) (at n) → is_set f n ≡ is_set g n
set-like f g n e = is_digit f n ∙ ap (λ d. not (eqb (d * 2 ^ at n) 0)) e ∙ sym (is_digit g n)

pub length-with : (filter : List ℕ) (n : ℕ) → length (with_bit filter n) ≡ length filter
unfolding with_bit
length-with filter n = length-set filter (n / 8) (bit_or (get_or filter (n / 8) 0) (mask n))

module _ (filter : List ℕ) (n : ℕ) (inside : n / 8 < length filter) where
  with_byte : (m : ℕ) → m / 8 ≡ n / 8 → get_or (with_bit filter n) (m / 8) 0 ≡ bit_or (get_or filter (n / 8) 0) (2 ^ at n)
  unfolding with_bit
  with_byte m e = rw (e, ← mask-pow n) (get_or-set_same filter (n / 8) (bit_or (get_or filter (n / 8) 0) (mask n)) 0 inside)

  -- the bit is set
  pub set_here : is_set (with_bit filter n) n ≡ true
  set_here =
      let x = get_or filter (n / 8) 0 in
      set-yes (with_bit filter n) n
      (ap (λ y. digit y (at n)) (with_byte n refl)
      ∙ omega (arith, digit_or x (2 ^ at n) (at n), digit-pow (at n), digit_lt x (at n)))

  -- and no other
  pub set_other : (m : ℕ) → (m ≡ n → ⊥) → is_set (with_bit filter n) m ≡ is_set filter m
  set_other m d = set-like (with_bit filter n) filter m (elim (ℕ_discrete (m / 8) (n / 8)) [
    | yes e ↦
        let x = get_or filter (n / 8) 0 in
        ap (λ y. digit y (at m)) (with_byte m e)
        ∙ omega (arith, digit_or x (2 ^ at n) (at m), digit-pow-other (at n) (at m) (λ q. d (omega arith)))
        ∙ ap (λ j. digit (get_or filter j 0) (at m)) (sym e)
    | no e ↦ ap (λ y. digit y (at m)) (unfold with_bit in get_or-set_other filter (n / 8) (m / 8) (bit_or (get_or filter (n / 8) 0) (mask n)) 0 e)
  ])

-- ---- the bits of a flow
module _ (z : Sizes) (r : Ranged z) (salt : ℕ) where
  -- the code's list of bits is 01's
  pub clear-new : (filter key : List ℕ) → any_clear filter (bits_of z salt key) z.kf ≡ is_new z salt filter key
  unfolding any_clear is_new
  clear-new filter key =
      any_same z.kf (λ i. not (is_set filter (get_or (bits_of z salt key) i 0))) (λ i. not (is_set filter (bit_of z salt key i)))
      (λ i h. ap (λ n. not (is_set filter n)) (bits_at z r salt key i h))

  pub bits-flow : (filter key : List ℕ) → with_bits filter (bits_of z salt key) z.kf ≡ with_flow z salt filter key
  unfolding with_bits with_flow
  bits-flow filter key =
      each_same z.kf (λ i f. with_bit f (get_or (bits_of z salt key) i 0)) (λ i f. with_bit f (bit_of z salt key i)) filter
      (λ i f h. ap (with_bit f) (bits_at z r salt key i h))

  pub bits_inside : (key : List ℕ) (bytes : ℕ) → bytes ≡ filter_bytes z → InFilter (bits_of z salt key) z.kf bytes
  bits_inside key bytes e i h =
      rw (e, bits_at z r salt key i h) (bit-within z (bit_of z salt key i) (bit-lt z r salt key i))

  pub length-flow : (filter key : List ℕ) → length (with_flow z salt filter key) ≡ length filter
  unfolding with_flow
  length-flow filter key =
      each_keeps (λ f. length f ≡ length filter) z.kf (λ i f. with_bit f (bit_of z salt key i)) filter refl
      (λ i f h e. length-with f (bit_of z salt key i) ∙ e)

  module _ (filter : List ℕ) (sized : length filter ≡ filter_bytes z) where
    inside : (key : List ℕ) (i : ℕ) (f : List ℕ) → length f ≡ length filter → bit_of z salt key i / 8 < length f
    inside key i f e = rw (e, sized) (bit-within z (bit_of z salt key i) (bit-lt z r salt key i))

    -- with the first n of the flow's bits set, a bit is 1 exactly when it was or is one of these
    each_bits : (key : List ℕ) (n m : ℕ)
        → is_set (each_upto n (λ i f. with_bit f (bit_of z salt key i)) filter) m ≡ (is_set filter m || any_upto n (λ i. eqb (bit_of z salt key i) m))
    unfolding each_upto any_upto
    each_bits key zero m = sym (or-f (is_set filter m))
    each_bits key (suc n) m =
        let f = each_upto n (λ i g. with_bit g (bit_of z salt key i)) filter in
        let some : ℕ → Bool = λ a. any_upto n (λ i. eqb (bit_of z salt key i) a) in
        let b = bit_of z salt key n in
        let e : length f ≡ length filter =
        each_keeps (λ g. length g ≡ length filter) n (λ i g. with_bit g (bit_of z salt key i)) filter refl
        (λ i g l q. length-with g (bit_of z salt key i) ∙ q) in
        elim (ℕ_discrete m b) [
          | yes q ↦ rw (q, eq-eqb b b refl) (set_here f b (inside key n f e) ∙ sym (or_r (is_set filter b) (some b || true) (or_r (some b) true refl)))
          | no q ↦ rw (ne_eqb b m (λ w. q (sym w)), or-f (some m)) (set_other f b (inside key n f e) m q ∙ each_bits key n m)
        ]

    -- a new flow sets its bits and no other: a bit is 1 exactly when it was or is one of the flow's
    pub flow-bits : (key : List ℕ) (m : ℕ) → is_set (with_flow z salt filter key) m ≡ (is_set filter m || has_bit z salt key m)
    unfolding with_flow has_bit
    flow-bits key m = each_bits key z.kf m

    -- a flow that was taken is not new any more, and none becomes new again
    pub taken-old : (key : List ℕ) → is_new z salt (with_flow z salt filter key) key ≡ false
    unfolding is_new has_bit
    taken-old key =
        any-no z.kf (λ i. not (is_set (with_flow z salt filter key) (bit_of z salt key i)))
        (λ i h. let b = bit_of z salt key i in
        ap not (flow-bits key b ∙ or_r (is_set filter b) (has_bit z salt key b) (any-yes z.kf (λ j. eqb (bit_of z salt key j) b) i h (eq-eqb b b refl))))

    pub old-stays : (key other : List ℕ) → is_new z salt filter key ≡ false → is_new z salt (with_flow z salt filter other) key ≡ false
    unfolding is_new
    old-stays key other h =
        any-no z.kf (λ i. not (is_set (with_flow z salt filter other) (bit_of z salt key i)))
        (λ i l. let b = bit_of z salt key i in
        ap not (flow-bits other b ∙ or_l (is_set filter b) (has_bit z salt other b)
        (not_f (is_set filter b) (any_none z.kf (λ j. not (is_set filter (bit_of z salt key j))) h i l))))
