-- Sums over the indices below n, and one value of a function replaced.
use mathlib.Core.Path.{◌≡◌, refl, sym, subst, fun_ext}
use Prim.Native.Nat.{ℕ, zero, suc, ◌≤◌, ◌<◌}
use native.Mathlib.Decide.{ℕ_discrete}
use native.Mathlib.Nat.{le_refl}
use native.Mathlib.Omega.{arith}
use Rattle.theory.specs.Family.{put_at, sum_upto}
use borrow.Author.Tests.{eq-eqb, ne_eqb}

pub sum-le : (n : ℕ) (f g : ℕ → ℕ) → ((i : ℕ) → i < n → f i ≤ g i) → sum_upto n f ≤ sum_upto n g
unfolding sum_upto
sum-le zero f g h = le_refl 0
sum-le (suc n) f g h = omega (arith, sum-le n f g (λ i l. h i (omega arith)), h n (omega arith))

pub sum_lt : (n : ℕ) (f g : ℕ → ℕ) → ((i : ℕ) → i < n → f i ≤ g i) → (i : ℕ) → i < n → f i < g i → sum_upto n f < sum_upto n g
unfolding sum_upto
sum_lt zero f g h i l t = absurd (omega arith)
sum_lt (suc n) f g h i l t = elim (ℕ_discrete i n) [
  | yes e ↦
      let at_n : f n < g n = subst (λ j. f j < g j) e t in
      omega (arith, sum-le n f g (λ j k. h j (omega arith)), at_n)
  | no d ↦ omega (arith, sum_lt n f g (λ j k. h j (omega arith)) i (omega arith) t, h n (omega arith))
]

module _ {T : Type 0} (i : ℕ) (s : T) (f : ℕ → T) where
  pub put-here : put_at i s f i ≡ s
  unfolding put_at
  put-here = rw (eq-eqb i i refl)

  pub put_other : (j : ℕ) → (j ≡ i → ⊥) → put_at i s f j ≡ f j
  unfolding put_at
  put_other j d = rw (ne_eqb j i d)

  -- what holds of the new value, and of the others, holds of all
  pub put_all : (Q : ℕ → T → Type 0) → Q i s → ((j : ℕ) → Q j (f j)) → (j : ℕ) → Q j (put_at i s f j)
  put_all Q new old j = elim (ℕ_discrete j i) [
    | yes e ↦ subst (λ t. Q t (put_at i s f t)) (sym e) (subst (Q i) (sym put-here) new)
    | no d ↦ subst (Q j) (sym (put_other j d)) (old j)
  ]

pub put_same : {T : Type 0} (i : ℕ) (f : ℕ → T) → put_at i (f i) f ≡ f
put_same i f = fun_ext (put_all i (f i) f (λ j s. s ≡ f j) refl (λ j. refl))
