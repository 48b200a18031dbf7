-- What `all` and `any` of a range answer, where a closure is asked at each index: the test below n, as the definitions have it.
use mathlib.Core.Path.{◌≡◌, sym, ap, ◌∙◌}
use mathlib.Core.Bool.{Bool, true, false}
use mathlib.Core.List.{List}
use Prim.Native.Nat.{ℕ, ◌<◌}
use native.Mathlib.Nat.{sub-zero, zero-add}
use native.Mathlib.Omega.{arith}
use lib.ListN.{length, get_or}
use Rattle.std.proofs.Common.{Option}
use Rattle.std.proofs.iter.Yields.{nat_range_steps}
use Rattle.std.proofs.lemmas.Iterator.{YieldsList-from_range, cases_from_all, cases_from_any}
use Rattle.std.proofs.lemmas.List.FromFn.{length-range_with_len, get_or-range_with_len}
use Rattle.std.specs.Bool.{MatchBool}
use Rattle.std.specs.Fn.{Called}
use Rattle.std.specs.Iterator.{YieldsThen}
use Rattle.std.specs.List.{range_with_len, FoldsTo, AllWithin, HoldsAt}
use Rattle.std.specs.Option.{MatchOption}
use Rattle.std.specs.declared.ops.Range.{Range}
use denote.Param.Members.{Mut}
use Rattle.laws.specs.Upto.{any_upto, all_upto}
use Rattle.laws.proofs.Upto.{any-yes, any-no, all_yes, all-no}

module _ (n : ℕ) (p : ℕ → Bool) where
  abbrev each : Bool → Type 0
  each b = AllWithin (λ x. p x ≡ b) (range_with_len 0 n) 0 (length (range_with_len 0 n))

  abbrev some : Bool → Type 0
  some b = (k : ℕ) × (k < length (range_with_len 0 n)) × HoldsAt (λ x. p x ≡ b) (range_with_len 0 n) k

  index-is : (i d : ℕ) → i < n → get_or (range_with_len 0 n) i d ≡ i
  index-is i d h = get_or-range_with_len 0 n i d h ∙ zero-add i

  each-index : {b : Bool} → each b → (i : ℕ) → i < n → p i ≡ b
  each-index h i q = ap p (sym (index-is i 0 q)) ∙ h i 0 (omega arith) (omega (arith, length-range_with_len 0 n))

  some-index : {b : Bool} → some b → (i : ℕ) × (i < n) × (p i ≡ b)
  some-index h =
      let q : h.0 < n = omega (arith, h.1, length-range_with_len 0 n) in
      (h.0, q, ap p (sym (index-is h.0 0 q)) ∙ h.2 0)

  all-of : (r : Bool) → MatchBool r (each true) (some false) → r ≡ all_upto n p
  all-of true h = sym (all_yes n p (each-index h))
  all-of false h = let c = some-index h in sym (all-no n p c.0 c.1 c.2)

  any-of : (r : Bool) → MatchBool r (some true) (each false) → r ≡ any_upto n p
  any-of true h = let c = some-index h in sym (any-yes n p c.0 c.1 c.2)
  any-of false h = sym (any-no n p (each-index h))

  -- the clause `ran` of the call, and what the closure answers at an index
  module _ {F : Type 0} {g : Mut F (ℕ × Unit {0}) Bool} (s u : Range ℕ) (f : F) (r : Bool) (from : s ≡ record { start = 0; end = n })
      (asked : (x : ℕ) (b : Bool) (q : F) → Called g f (x, tt) b q → (q ≡ f) × (p x ≡ b)) where
    pub all_range : (xs : List ℕ) × (o : Option ℕ) × (j : F) × YieldsThen nat_range_steps s xs o u × FoldsTo (λ p x q. Called g p (x, tt) true q) f xs j
        × MatchOption o (r ≡ true) (λ x. (r ≡ false) × ((h : F) × Called g j (x, tt) false h))
        → r ≡ all_upto n p
    all_range ran =
        all-of r
        (cases_from_all u f r (λ x. p x ≡ true) (λ x. p x ≡ false) ran (YieldsList-from_range 0 n n from (sub-zero n))
        (λ x q k. asked x true q k) (λ x q k. (asked x false q k).1))

    pub any_range : (xs : List ℕ) × (o : Option ℕ) × (j : F) × YieldsThen nat_range_steps s xs o u × FoldsTo (λ p x q. Called g p (x, tt) false q) f xs j
        × MatchOption o (r ≡ false) (λ x. (r ≡ true) × ((h : F) × Called g j (x, tt) true h))
        → r ≡ any_upto n p
    any_range ran =
        any-of r
        (cases_from_any u f r (λ x. p x ≡ true) (λ x. p x ≡ false) ran (YieldsList-from_range 0 n n from (sub-zero n))
        (λ x q k. (asked x true q k).1) (λ x q k. asked x false q k))
