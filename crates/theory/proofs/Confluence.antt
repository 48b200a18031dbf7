-- Two runs at rest with the same flows handed over end alike; the known counts are the same whatever was handed over.
use mathlib.Core.Path.{◌≡◌, sym, ap, ◌∙◌, fun_ext}
use mathlib.Core.Logic.{inl, inr}
use mathlib.Core.Bool.{true}
use lib.ListN.{replicate}
use Rattle.laws.specs.Xor.{xor_bytes}
use Rattle.laws.proofs.Bools.{split, clash, iff}
use Rattle.theory.specs.Encode.{Key, sum_over, total, count}
use Rattle.theory.specs.Session.{Session, listed, handed_over, counted}
use Rattle.theory.specs.HandOver.{Switch}
use Rattle.theory.specs.Invariant.{Counted, Holds}
use Rattle.theory.specs.Runs.{Run, PeelClosed, AtRest}
use Rattle.theory.proofs.Records.{where-listed}
use Rattle.theory.proofs.Encode.{cell-path}
use Rattle.theory.proofs.Outside.{outside-in, outside-make, outside-same, only-mono}
use Rattle.theory.proofs.Single.{only-pure, only-ready}
use Rattle.theory.proofs.Runs.{counted-listed, run-invariant, listed-stays, counted-stays, listed-least, counted-least}

module _ (w : Switch) (e : Counted w) where
  open w use {has, size as n}
  open e use {key_length, placed, flows as F, packets}

  -- ---- at rest
  module _ (s : Session) (i : Holds w e s) (q : AtRest n has s) where
    pub rest-closed : PeelClosed has F (listed s)
    rest-closed c x o = clash (only-pure w e s i c x o)
        (q.none-pure c (placed.within x c (outside-in has (listed s) c x o.chosen)))

    -- the counted flows are closed under peeling by themselves
    pub counted-closed : PeelClosed has F (counted s)
    counted-closed c x o = clash
        (only-ready w e s i c
        (λ k m h. elim (split (counted s k)) [
          | inl y ↦ counted-listed s k y
          | inr y ↦ rw (o.alone k m (outside-make has (counted s) c k h y)) x-listed
        ]) x o)
        (q.none-ready c (placed.within x c (outside-in has (counted s) c x o.chosen)))
      where
        x-listed : listed s x ≡ true
        x-listed = elim (split (listed s x)) [
          | inl z ↦ z
          | inr z ↦ absurd (rest-closed c x (only-mono has F (counted s) (listed s) (counted-listed s) c x o z))
        ]

  module _ (s₀ : Session) (i₀ : Holds w e s₀) where
    abbrev invariant : {s : Session} → Run has F s₀ s → Holds w e s
    invariant r = run-invariant w e s₀ i₀ r

    -- ---- two runs from the same session
    module _ {s₁ s₂ : Session} (r₁ : Run has F s₀ s₁) (r₂ : Run has F s₀ s₂) (q₂ : AtRest n has s₂) where
      -- hand-overs never add a count: what one run counts, any other run counts at rest
      pub counted-within : (k : Key) → counted s₁ k ≡ true → counted s₂ k ≡ true
      counted-within = counted-least w e s₀ i₀ (counted s₂) (counted-closed s₂ (invariant r₂) q₂)
          (counted-stays w e s₀ i₀ r₂) r₁

      pub listed-within : ((k : Key) → handed_over s₁ k ≡ true → listed s₂ k ≡ true) → (k : Key) → listed s₁ k ≡ true → listed s₂ k ≡ true
      listed-within h = listed-least w e s₀ i₀ (listed s₂) (rest-closed s₂ (invariant r₂) q₂)
          (listed-stays w e s₀ i₀ r₂) r₁ h

    -- without a hand-over every listed flow is counted
    pub all-counted : {s : Session} (r : Run has F s₀ s) → AtRest n has s → ((k : Key) → listed s₀ k ≡ true → counted s₀ k ≡ true)
        → ((k : Key) → handed_over s k ≡ true → counted s k ≡ true) → (k : Key) → listed s k ≡ true → counted s k ≡ true
    all-counted {s} r q start-counted none = listed-least w e s₀ i₀ (counted s) (counted-closed s (invariant r) q)
        (λ k l. counted-stays w e s₀ i₀ r k (start-counted k l)) r none

    module _ {s₁ s₂ : Session} (r₁ : Run has F s₀ s₁) (r₂ : Run has F s₀ s₂) (q₁ : AtRest n has s₁) (q₂ : AtRest n has s₂) where
      -- Theorem: the known counts are those the flowset yields by itself
      pub same-counted : (k : Key) → counted s₁ k ≡ counted s₂ k
      same-counted k = iff (counted s₁ k) (counted s₂ k) (counted-within r₁ r₂ q₂ k) (counted-within r₂ r₁ q₁ k)

      module _ (same : (k : Key) → handed_over s₁ k ≡ handed_over s₂ k) where
        handed-listed : (s : Session) (k : Key) → handed_over s k ≡ true → listed s k ≡ true
        handed-listed s k = where-listed (λ r. r.handed) s.list k

        -- Theorem: the same flows are listed
        pub same-listed : (k : Key) → listed s₁ k ≡ listed s₂ k
        same-listed k = iff (listed s₁ k) (listed s₂ k)
            (listed-within r₁ r₂ q₂ (λ j h. handed-listed s₂ j (sym (same j) ∙ h)) k)
            (listed-within r₂ r₁ q₁ (λ j h. handed-listed s₁ j (same j ∙ h)) k)

        -- Theorem: the cells are the same
        pub same-cells : s₁.cells ≡ s₂.cells
        same-cells = fun_ext (λ c.
            let l = outside-same has (listed s₂) (listed s₁) same-listed c in
            let k = outside-same has (counted s₂) (counted s₁) same-counted c in
            let i₁ = invariant r₁ in
            let i₂ = invariant r₂ in
            cell-path (s₁.cells c) (s₂.cells c)
            (i₁.xors c ∙ ap (λ P. sum_over xor_bytes (replicate key_length 0) P (λ j. j) F) l ∙ sym (i₂.xors c))
            (i₁.flows c ∙ ap (λ P. count P F) l ∙ sym (i₂.flows c))
            (i₁.left c ∙ ap (λ P. total P packets F) k ∙ sym (i₂.left c)))
