-- The invariant's cells in the mission's words: they encode the flows not listed, with the packets of those not counted.
use mathlib.Core.Path.{◌≡◌, refl, sym, ap, ◌∙◌}
use mathlib.Core.Bool.{Bool, true, false, not, cond, ◌&&◌}
use mathlib.Core.List.{List, [], ◌∷◌}
use mathlib.Core.Logic.{inl, inr}
use mathlib.Core.Option.{Option, some, none}
use Prim.Native.Nat.{ℕ, ◌+◌}
use native.Mathlib.Omega.{arith}
use lib.ListN.{replicate}
use Rattle.laws.specs.Xor.{xor_bytes}
use Rattle.laws.proofs.Bools.{split}
use Rattle.theory.specs.Encode.{Key, sum_over, encode_cell, outside}
use Rattle.theory.specs.Session.{Session, listed, counted}
use Rattle.theory.specs.HandOver.{Switch}
use Rattle.theory.specs.Invariant.{Counted, Holds}
use Rattle.theory.specs.Demands.{keep}
use Rattle.theory.proofs.Encode.{cell-path}

-- the sum over the keys kept is the sum over those that pass both tests
keep-sum : {M : Type 0} (op : M → M → M) (e : M) (w : Key → M) (P Q : Key → Bool) (F : List Key)
    → sum_over op e P w (keep Q F) ≡ sum_over op e (λ k. P k && Q k) w F
unfolding sum_over keep
keep-sum op e w P Q [] = refl
keep-sum op e w P Q (x ∷ F) =
    let before = keep-sum op e w P Q F in
    elim (split (Q x)) [
      | inr q ↦ elim (split (P x)) [ inl p ↦ rw (q, p) before | inr p ↦ rw (q, p) before ]
      | inl q ↦ elim (split (P x)) [ inl p ↦ rw (q, p) (ap (op (w x)) before) | inr p ↦ rw (q, p) before ]
    ]

abbrev value_of : ℕ → Option ℕ → ℕ
value_of d none = d
value_of d (some n) = n

-- a count that is stated is the flow's
pub stated : (b : Bool) (n v : ℕ) → cond b (some v) none ≡ some n → n ≡ v
stated true n v e = let q : v ≡ n = ap (value_of 0) e in sym q
stated false n v e = let q : n + 1 ≡ n = ap (value_of (n + 1)) e in absurd (omega arith)

module _ (w : Switch) (e : Counted w) (s : Session) (i : Holds w e s) where
  pub left_is : (c : ℕ) → s.cells c ≡ encode_cell e.key_length w.has (keep (λ k. not (listed s k)) e.flows)
      (keep (λ k. not (counted s k)) e.flows) e.packets c
  unfolding encode_cell outside
  left_is c = cell-path (s.cells c) _
      (i.xors c ∙ sym (keep-sum xor_bytes (replicate e.key_length 0) (λ k. k) (λ k. w.has k c) (λ k. not (listed s k)) e.flows))
      (i.flows c ∙ sym (keep-sum ◌+◌ 0 (λ k. 1) (λ k. w.has k c) (λ k. not (listed s k)) e.flows))
      (i.left c ∙ sym (keep-sum ◌+◌ 0 e.packets (λ k. w.has k c) (λ k. not (counted s k)) e.flows))
