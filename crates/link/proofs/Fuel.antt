-- A step repeated with two amounts of fuel, each enough, ends the same.
use mathlib.Core.Path.{◌≡◌, refl, sym}
use Prim.Native.Nat.{ℕ, zero, suc, ◌≤◌, ◌<◌}
use native.Mathlib.Omega.{arith}
use Rattle.theory.specs.Session.{Step, quiet, damaged, next, Result, after_step, repeat}

module _ {S : Type 0} (f : S → Step S) (μ : S → ℕ) (falls : (s t : S) → f s ≡ next t → μ t < μ s) (idle : (s : S) → μ s ≡ 0 → f s ≡ quiet) where
  turn-same : (go gone : S → Result S) (s : S) (v : Step S) → ((t : S) → v ≡ next t → go t ≡ gone t) → after_step go s v ≡ after_step gone s v
  unfolding after_step
  turn-same go gone s quiet h = refl
  turn-same go gone s (damaged c) h = refl
  turn-same go gone s (next t) h = h t refl

  stays : (m : ℕ) (s : S) → μ s ≡ 0 → repeat f (suc m) s ≡ repeat f zero s
  unfolding repeat after_step
  stays m s z = rw (idle s z)

  -- the measure falls with each step, and at 0 there is none
  pub fuel-same : (m o : ℕ) (s : S) → μ s ≤ m → μ s ≤ o → repeat f m s ≡ repeat f o s
  unfolding repeat
  fuel-same zero zero s p q = refl
  fuel-same zero (suc o) s p q = sym (stays o s (omega arith))
  fuel-same (suc m) zero s p q = stays m s (omega arith)
  fuel-same (suc m) (suc o) s p q =
      turn-same (repeat f m) (repeat f o) s (f s) (λ t e. let r = falls s t e in fuel-same m o t (omega arith) (omega arith))
