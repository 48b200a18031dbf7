-- A step repeated with enough fuel: what each step keeps is kept, and the end is where the step stops.
use mathlib.Core.Path.{◌≡◌, refl, sym, ap, ◌∙◌}
use Prim.Native.Nat.{ℕ, zero, suc, ◌≤◌, ◌<◌}
use native.Mathlib.Omega.{arith}
use Rattle.theory.specs.Session.{Step, quiet, damaged, next, Stop, settled, damage, Result, after_step, repeat}
use Rattle.theory.specs.Notes.{map_step, map_result}

-- the step that ends so
abbrev pub step_of : {S : Type 0} → Stop → Step S
step_of settled = quiet
step_of (damage c) = damaged c

pub quiet-only : {S : Type 0} (stop : Stop) → ◌≡◌ {A = Step S} quiet (step_of stop) → settled ≡ stop
quiet-only settled e = refl
quiet-only (damage c) e = absurd (let z : ◌≡◌ {A = ℕ} 0 1 = cc in omega arith)

module _ {S : Type 0} (f : S → Step S) where
  turn-keeps : (I : S → Type 0) (go : S → Result S) (s : S) (v : Step S) → I s → ((t : S) → v ≡ next t → I (go t).state)
      → I (after_step go s v).state
  unfolding after_step
  turn-keeps I go s quiet i h = i
  turn-keeps I go s (damaged c) i h = i
  turn-keeps I go s (next t) i h = h t refl

  pub repeat-keeps : (I : S → Type 0) → ((s t : S) → I s → f s ≡ next t → I t) → (m : ℕ) (s : S) → I s → I (repeat f m s).state
  unfolding repeat
  repeat-keeps I kept zero s i = i
  repeat-keeps I kept (suc m) s i = turn-keeps I (repeat f m) s (f s) i (λ t e. repeat-keeps I kept m t (kept s t i e))

  -- the measure falls with each step, and at 0 there is none: so the fuel is enough
  module _ (μ : S → ℕ) (falls : (s t : S) → f s ≡ next t → μ t < μ s) (idle : (s : S) → μ s ≡ 0 → f s ≡ quiet) where
    turn-ends : (go : S → Result S) (s : S) (v : Step S) → f s ≡ v → ((t : S) → v ≡ next t → f (go t).state ≡ step_of (go t).stop)
        → f (after_step go s v).state ≡ step_of (after_step go s v).stop
    unfolding after_step
    turn-ends go s quiet e h = e
    turn-ends go s (damaged c) e h = e
    turn-ends go s (next t) e h = h t refl

    pub repeat-ends : (m : ℕ) (s : S) → μ s ≤ m → f (repeat f m s).state ≡ step_of (repeat f m s).stop
    unfolding repeat
    repeat-ends zero s l = idle s (omega arith)
    repeat-ends (suc m) s l = turn-ends (repeat f m) s (f s) refl (λ t e. repeat-ends m t (omega (arith, falls s t e)))

    -- from where the step stops, it stops at once, the same way
    pub repeat-still : (m : ℕ) (s : S) → μ s ≤ m → (stop : Stop) → f s ≡ step_of stop → repeat f m s ≡ record { state = s; stop = stop }
    unfolding repeat after_step
    repeat-still zero s l stop e = ap (λ r. record { state = s; stop = r }) (quiet-only stop (sym (idle s (omega arith)) ∙ e))
    repeat-still (suc m) s l settled e = rw e
    repeat-still (suc m) s l (damage c) e = rw e

-- a step that does the same under a map, repeated
module _ {S T : Type 0} (f : S → Step S) (g : T → Step T) (h : S → T) (I : S → Type 0) (kept : (s t : S) → I s → f s ≡ next t → I t)
    (same : (s : S) → I s → g (h s) ≡ map_step h (f s)) where
  turn-map : (go : S → Result S) (gone : T → Result T) (s : S) (v : Step S) → ((t : S) → v ≡ next t → gone (h t) ≡ map_result h (go t))
      → after_step gone (h s) (map_step h v) ≡ map_result h (after_step go s v)
  unfolding after_step
  turn-map go gone s quiet ih = refl
  turn-map go gone s (damaged c) ih = refl
  turn-map go gone s (next t) ih = ih t refl

  pub repeat-map : (m : ℕ) (s : S) → I s → repeat g m (h s) ≡ map_result h (repeat f m s)
  unfolding repeat
  repeat-map zero s i = refl
  repeat-map (suc m) s i =
      ap (after_step (repeat g m) (h s)) (same s i) ∙ turn-map (repeat f m) (repeat g m) s (f s) (λ t e. repeat-map m t (kept s t i e))
