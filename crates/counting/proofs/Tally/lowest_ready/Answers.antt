use Rattle.std.proofs.Common.{◌≡◌, ◌≤◌, ◌*◌, ℕ, Bool, true, false, cond, List, Option, Some, None, length, ltb, refl, ap, ◌∙◌, rules, arith}
use mathlib.Core.Logic.{inl, inr}
use borrow.Author.Tests.{tests, le-ltb, ltb-false}
use Rattle.std.specs.Option.{MatchOption}
use Rattle.std.specs.Bool.{then_some}
use Rattle.laws.proofs.Bools.{split}
use Rattle.marks.specs.Marks.{first_mark, first_found}
use Rattle.counting.specs.Book.{lowest_ready}
use Rattle.counting.proofs.Tally.lowest_ready.Goals as goal

some_if : (b : Bool) (x : ℕ) → then_some b x ≡ cond b (Some x) None
some_if true x = refl
some_if false x = refl

filtered : (cells : ℕ) (words : List ℕ) {o r : Option ℕ} {Q : ℕ → Bool → Type 0} → length words ≡ 24 → cells ≤ 1536 → o ≡ first_found words
    → MatchOption o (r ≡ None) (λ x. (b : Bool) × Q x b × (r ≡ then_some b x)) → ((x : ℕ) (b : Bool) → Q x b → b ≡ ltb x cells)
    → r ≡ lowest_ready cells words
unfolding lowest_ready
filtered cells words w h e m asked =
    let c = first_mark words in
    elim (split (ltb c (length words * 64))) [
      | inl p ↦
          let f = (rw (e, p) at m) in
          f.2 ∙ ap (λ b. then_some b c) (asked c f.0 f.1) ∙ some_if (ltb c cells) c
      | inr p ↦ let f = (rw (e, p) at m) in f ∙ rw (le-ltb c cells (omega (arith, ltb-false c (length words * 64) p)))
    ]

pub returns-clause-value : goal.returns-clause-value
returns-clause-value c =
    filtered c.args.cells c.args.self.now.ready.now c.requires.0 c.requires.1 c.first_mark.ensures c.filter.ensures (λ x b q. search (rules, tests))
