-- Filling from the generator, one byte at a time.
use mathlib.Core.Path.{◌≡◌, refl, sym, ap, ◌∙◌}
use mathlib.Core.List.{List, ◌++◌, append-nil}
use Prim.Native.Nat.{ℕ, ◌+◌, ◌/◌, ◌^◌, ◌<◌, ◌≤◌}
use native.Mathlib.Omega.{arith}
use lib.ListN.{length, set, drop, length-set, drop_of_length-le}
use Rattle.laws.specs.Upto.{each_upto, list_upto}
use Rattle.laws.proofs.Upto.{each_more, element-put}
use Rattle.telling.specs.Generator.{next_number, after_numbers, random_bytes}

-- what the loop holds after i turns: the first i bytes are the generator's, the rest is as it was
abbrev pub Filled : List ℕ → ℕ → List ℕ → ℕ → ℕ → Type 0
Filled s₀ seed s x i = (i ≤ length s₀) × (length s ≡ length s₀) × (x ≡ after_numbers i seed) × (s ≡ random_bytes i seed ++ drop i s₀)

pub filled_none : (s₀ : List ℕ) (seed : ℕ) → Filled s₀ seed s₀ seed 0
unfolding after_numbers random_bytes each_upto list_upto
filled_none s₀ seed = (omega arith, refl, refl, refl)

after_more : (i seed : ℕ) → after_numbers (i + 1) seed ≡ next_number (after_numbers i seed)
unfolding after_numbers
after_more i seed = each_more i (λ j. next_number) seed

byte_put : (i seed : ℕ) (s₀ : List ℕ) → i < length s₀
    → set (random_bytes i seed ++ drop i s₀) i (after_numbers (i + 1) seed / 2 ^ 24) ≡ random_bytes (i + 1) seed ++ drop (i + 1) s₀
unfolding random_bytes
byte_put i seed s₀ h = element-put i (λ j. after_numbers (j + 1) seed / 2 ^ 24) s₀ h

pub filled-turn : (s₀ : List ℕ) (seed : ℕ) {s : List ℕ} {x y i : ℕ} → i < length s₀ → Filled s₀ seed s x i → y ≡ next_number x
    → Filled s₀ seed (set s i (y / 2 ^ 24)) y (i + 1)
filled-turn s₀ seed {s} {x} {y} {i} h c e =
    let n : y ≡ after_numbers (i + 1) seed = e ∙ ap next_number c.2 ∙ sym (after_more i seed) in
    (omega arith, length-set s i (y / 2 ^ 24) ∙ c.1, n, rw (c.3, n) (byte_put i seed s₀ h))

pub filled-all : (s₀ : List ℕ) (seed : ℕ) {s : List ℕ} {x i : ℕ} → length s₀ ≤ i → Filled s₀ seed s x i
    → (x ≡ after_numbers (length s₀) seed) × (s ≡ random_bytes (length s₀) seed)
filled-all s₀ seed {s} {x} {i} h c =
    let e : i ≡ length s₀ = omega (arith, c.0) in
    (c.2 ∙ ap (λ n. after_numbers n seed) e, c.3 ∙ rw (drop_of_length-le s₀ h, e) (append-nil (random_bytes (length s₀) seed)))
