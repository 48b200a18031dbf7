-- The lowest marked cell, and a change at some of the cells as it shows below N.
use mathlib.Core.Path.{◌≡◌, sym, ap, ◌∙◌, fun_ext}
use mathlib.Core.Bool.{Bool, true, cond}
use mathlib.Core.List.{List}
use mathlib.Core.Logic.{inl, inr}
use Prim.Native.Nat.{ℕ, ◌*◌, ◌<◌, ◌≤◌}
use native.Mathlib.Decide.{dec_lt}
use native.Mathlib.Omega.{arith}
use borrow.Author.Tests.{lt-ltb, le-ltb}
use lib.Dec.{ltb}
use lib.ListN.{length}
use Rattle.laws.specs.Upto.{any_upto, lowest}
use Rattle.laws.proofs.Bools.{split}
use Rattle.laws.proofs.Upto.{any-yes, any-no}
use Rattle.marks.specs.Marks.{Words, marked, first_mark}
use Rattle.marks.proofs.Laws.{first-marked, below-first}
use Rattle.link.specs.View.{below}
use Rattle.laws.proofs.Lowest.{lowest-is}

-- ---- the lowest marked cell is the first mark of the words
module _ (words : List ℕ) (n : ℕ) (w : Words words) (fits : n ≤ length words * 64) (p : ℕ → Bool)
    (same : (c : ℕ) → c < n → p c ≡ marked words c) where
  first-hit : first_mark words < n → p (first_mark words) ≡ true
  first-hit h = same (first_mark words) h ∙ first-marked words w (omega arith)

  pub first_any : any_upto n p ≡ ltb (first_mark words) n
  first_any = elim (dec_lt (first_mark words) n) [
    | yes h ↦ any-yes n p (first_mark words) h (first-hit h) ∙ sym (lt-ltb (first_mark words) n h)
    | no h ↦ any-no n p (λ c l. same c l ∙ below-first words c (omega arith)) ∙ sym (le-ltb (first_mark words) n (omega arith))
  ]

  pub first-lowest : first_mark words < n → lowest n p ≡ first_mark words
  first-lowest h = lowest-is n p (first_mark words) h (first-hit h) (λ j q. same j (omega arith) ∙ below-first words j q)

-- ---- a change at the cells that pass, which lie below n, as it shows below n
module _ {A B : Type 0} (n : ℕ) (passes : ℕ → Bool) (inside : (c : ℕ) → passes c ≡ true → c < n) (was now : ℕ → A) (change : ℕ → A → A)
    (is : (c : ℕ) → now c ≡ cond (passes c) (change c (was c)) (was c)) (show : ℕ → A → B) (past : ℕ → B) (changed : ℕ → B → B)
    (shown : (c : ℕ) → passes c ≡ true → show c (change c (was c)) ≡ changed c (show c (was c))) where
  pub below-changed : below n (λ c. show c (now c)) past
      ≡ (λ c. cond (passes c) (changed c (below n (λ d. show d (was d)) past c)) (below n (λ d. show d (was d)) past c))
  unfolding below
  below-changed = fun_ext (λ c. elim (split (passes c)) [
    | inl q ↦ rw (q, lt-ltb c n (inside c q)) (ap (show c) (rw q at (is c)) ∙ shown c q)
    | inr q ↦ rw q (ap (λ s. cond (ltb c n) (show c s) (past c)) (rw q at (is c)))
  ])
