-- What is asked of, or done at, the first k numbers of a list, as the definitions have it for each index below k.
use mathlib.Core.Path.{◌≡◌, refl, sym, ap, subst, ◌∙◌}
use mathlib.Core.Bool.{Bool, ◌||◌}
use mathlib.Core.List.{List}
use Prim.Native.Nat.{ℕ, zero, suc, ◌<◌, ◌≤◌}
use native.Mathlib.Numerals.{add-one}
use native.Mathlib.Omega.{arith}
use lib.ListN.{length, get_or, take}
use Rattle.std.specs.List.{list_any}
use Rattle.std.proofs.lemmas.Grind.{get_or_default_zero}
use Rattle.std.proofs.lemmas.List.{get_or_read, get_or-take, length-take, length-take-le}
use Rattle.std.proofs.lemmas.List.Folds.{list_any_more}
use Rattle.laws.specs.Upto.{any_upto}

pub any_front : (test : ℕ → Bool) (xs : List ℕ) (k : ℕ) → k ≤ length xs → list_any test (take k xs) ≡ any_upto k (λ i. test (get_or xs i 0))
unfolding any_upto
any_front test xs zero h = refl
any_front test xs (suc k) h =
    (rw add-one at (list_any_more test xs k 0 (omega arith))) ∙ ap (λ b. b || test (get_or xs k 0)) (any_front test xs k (omega arith))

-- the number at an index among them, and where a `for` over them ends
module _ (xs : List ℕ) (k i : ℕ) (h : k ≤ length xs) where
  pub front_at : i < length (take k xs) → (i < k) × (get_or (take k xs) i 0 ≡ get_or xs i 0)
  front_at j =
      let below : i < k = omega (arith, length-take-le k xs h) in
      (below, get_or-take k xs i 0 below)

  pub front_end : i ≤ length (take k xs) → length (take k xs) ≤ i → i ≡ k
  front_end p q = omega (arith, length-take-le k xs h)

  -- a number that stands there
  pub front_is : {x : ℕ} → i < length (take k xs) → x ≡ get_or (take k xs) i x → (i < k) × (x ≡ get_or xs i 0)
  front_is {x} j e =
      let f = front_at j in
      (f.0, e ∙ get_or_default_zero (take k xs) i x j ∙ f.1)

-- what holds of the items below k holds of an item of those
pub first_within : (P : ℕ → Type 0) (s : List ℕ) (k : ℕ) → ((i : ℕ) → i < k → P (get_or s i 0)) → (x j : ℕ) → j < length (take k s) → x ≡ get_or (take k s) j x → P x
first_within P s k h x j l e =
    let low : j < k = omega (arith, length-take k s) in
    subst P (sym (get_or_read (take k s) j x l e 0 ∙ get_or-take k s j 0 low)) (h j low)
