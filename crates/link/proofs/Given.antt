-- What a list gives, worked out position by position: how many of its flows pass a test, and the XOR of their positions.
use mathlib.Core.Path.{◌≡◌, refl, sym, ap, ◌∙◌}
use mathlib.Core.Bool.{Bool, not, cond, ◌&&◌}
use mathlib.Core.List.{List, [], ◌∷◌, ◌++◌}
use mathlib.Core.Logic.{inl, inr}
use Prim.Native.Nat.{ℕ, zero, suc, ◌+◌}
use native.Mathlib.Nat.{add_assoc, add_comm}
use native.Mathlib.Omega.{arith}
use lib.Bits.{bit_xor, xor_zero_r}
use lib.ListN.{length, length-append}
use Rattle.laws.specs.Upto.{each_upto, list_upto, number_upto}
use Rattle.laws.proofs.Bools.{split}
use Rattle.laws.proofs.Upto.{length-list}
use Rattle.laws.proofs.Xor.{xor_assoc}
use Rattle.theory.specs.Encode.{Key, sum_over, count}
use Rattle.theory.specs.Session.{Record, keys_where}
use Rattle.theory.specs.Notes.{positions_from}
use Rattle.theory.proofs.Records.{where-append}
use Rattle.theory.proofs.Sums.{sum-append}

module _ (test : Record → Bool) (f : ℕ → Record) where
  -- how many flows pass a test of their records
  pub where-number : (n : ℕ) → length (keys_where test (list_upto n f)) ≡ number_upto n (λ i. test (f i))
  unfolding list_upto number_upto keys_where
  where-number zero = refl
  where-number (suc n) =
      let before = where-number n in
      ap length (where-append test (list_upto n f) (f n)) ∙ elim (split (test (f n))) [
        | inl p ↦ rw (p, length-append, before)
        | inr p ↦ rw p (omega arith)
      ]

  -- and how many of these pass a test of their keys
  pub passing-number : (passes : Key → Bool) (n : ℕ)
      → count passes (keys_where test (list_upto n f)) ≡ number_upto n (λ i. test (f i) && passes (f i).key)
  unfolding list_upto number_upto keys_where sum_over
  passing-number passes zero = refl
  passing-number passes (suc n) =
      let before = passing-number passes n in
      let listed = keys_where test (list_upto n f) in
      ap (count passes) (where-append test (list_upto n f) (f n)) ∙ elim (split (test (f n))) [
        | inr p ↦ rw p (omega arith)
        | inl p ↦ rw p (sum-append ◌+◌ 0 (λ k. 1) add_comm add_assoc passes listed (f n).key ∙ elim (split (passes (f n).key)) [
          | inl q ↦ rw (q, before)
          | inr q ↦ rw q (omega arith)
        ])
      ]

-- ---- the XOR of positions
positions-snoc : (P : Key → Bool) (i : ℕ) (rs : List Record) (r : Record)
    → positions_from P i (rs ++ (r ∷ [])) ≡ cond (not r.known && P r.key) (bit_xor (positions_from P i rs) (i + length rs)) (positions_from P i rs)
unfolding positions_from
positions-snoc P i [] r = elim (split (not r.known && P r.key)) [ inl p ↦ rw p (xor_zero_r i ∙ omega arith) | inr p ↦ rw p ]
positions-snoc P i (q ∷ rs) r =
    let later = positions_from P (suc i) rs in
    let ih : positions_from P (suc i) (rs ++ (r ∷ [])) ≡ cond (not r.known && P r.key) (bit_xor later (i + suc (length rs))) later
    = positions-snoc P (suc i) rs r ∙ ap (λ k. cond (not r.known && P r.key) (bit_xor later k) later) (omega arith) in
    elim (split (not q.known && P q.key)) [
      | inr p ↦ rw p ih
      | inl p ↦ rw (p, ih) (elim (split (not r.known && P r.key)) [
        | inl o ↦ rw o (sym (xor_assoc i later (i + suc (length rs))))
        | inr o ↦ rw o
      ])
    ]

pub positions-upto : (P : Key → Bool) (f : ℕ → Record) (n : ℕ)
    → positions_from P 0 (list_upto n f) ≡ each_upto n (λ i x. cond (not (f i).known && P (f i).key) (bit_xor x i) x) 0
unfolding list_upto each_upto positions_from
positions-upto P f zero = refl
positions-upto P f (suc n) =
    let before = positions-upto P f n in
    let place : 0 + length (list_upto n f) ≡ n = omega (arith, length-list n f) in
    positions-snoc P 0 (list_upto n f) (f n) ∙ elim (split (not (f n).known && P (f n).key)) [
      | inl p ↦ rw (p, place, before)
      | inr p ↦ rw p before
    ]
