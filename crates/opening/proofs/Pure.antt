-- The marks of the pure cells, one cell after the other, are right, and no other bit is set.
use mathlib.Core.Path.{◌≡◌, refl, sym, ◌∙◌}
use mathlib.Core.Bool.{Bool, true, false}
use mathlib.Core.List.{List}
use Prim.Native.Nat.{ℕ, zero, suc, ◌+◌, ◌-◌, ◌*◌, ◌/◌, ◌%◌, ◌≤◌, ◌<◌}
use native.Mathlib.Decide.{ℕ_discrete}
use native.Mathlib.Omega.{arith}
use lib.ListN.{length, replicate, length-replicate}
use Rattle.laws.specs.Upto.{each_upto}
use Rattle.laws.proofs.Digits.{digit-of-zero}
use Rattle.laws.proofs.Lists.{zero-at}
use Rattle.laws.proofs.Upto.{each_more, all_yes}
use Rattle.layout.specs.declared.Layout.{Layout}
use Rattle.layout.specs.declared.Sizes.{Sizes}
use Rattle.layout.specs.Sizes.{table_cells}
use Rattle.marks.specs.Marks.{words_for, marked, put_mark}
use Rattle.marks.proofs.Laws.{length-put, marked-same, marked_other}
use Rattle.table.specs.Table.{pure_at}
use Rattle.test8.specs.Test8.{agrees, marks_right, rest_clear}
use Rattle.opening.specs.Open.{marks_of}

agrees-self : (b : Bool) → agrees b b ≡ true
agrees-self true = refl
agrees-self false = refl

zero-unmarked : (n c : ℕ) → marked (replicate n 0) c ≡ false
unfolding marked
zero-unmarked n c = rw (zero-at n (c / 64), digit-of-zero (c % 64))

-- the marks of the first n cells
abbrev pub marks_to : Layout → Sizes → ℕ → List ℕ → List ℕ → ℕ → List ℕ
marks_to l z salt xors flows n =
    each_upto n (λ c s. put_mark s c (pure_at l z salt xors flows c)) (replicate (words_for (table_cells l z)) 0)

module _ (l : Layout) (z : Sizes) (salt : ℕ) (xors flows : List ℕ) where
  pub marks-turn : (c : ℕ) {s t : List ℕ} {on : Bool} → s ≡ marks_to l z salt xors flows c → on ≡ pure_at l z salt xors flows c → t ≡ put_mark s c on
      → t ≡ marks_to l z salt xors flows (c + 1)
  marks-turn c e f g =
      g ∙ rw (e, f) (sym (each_more c (λ d s. put_mark s d (pure_at l z salt xors flows d)) (replicate (words_for (table_cells l z)) 0)))

  length_to : (n : ℕ) → length (marks_to l z salt xors flows n) ≡ words_for (table_cells l z)
  unfolding each_upto
  length_to zero = length-replicate (words_for (table_cells l z)) 0
  length_to (suc n) = length-put (marks_to l z salt xors flows n) n (pure_at l z salt xors flows n) ∙ length_to n

  -- a cell is marked once it had its turn, and then as it is pure
  marked-below : (n c : ℕ) → n ≤ table_cells l z → c < n → marked (marks_to l z salt xors flows n) c ≡ pure_at l z salt xors flows c
  unfolding each_upto
  marked-below zero c h q = absurd (omega arith)
  marked-below (suc n) c h q = elim (ℕ_discrete c n) [
    | yes e ↦ rw e (marked-same (marks_to l z salt xors flows n) n (pure_at l z salt xors flows n) (omega (arith, length_to n)))
    | no d ↦
        marked_other (marks_to l z salt xors flows n) n (pure_at l z salt xors flows n) c d ∙ marked-below n c (omega arith) (omega arith)
  ]

  unmarked-above : (n c : ℕ) → n ≤ c → marked (marks_to l z salt xors flows n) c ≡ false
  unfolding each_upto
  unmarked-above zero c h = zero-unmarked (words_for (table_cells l z)) c
  unmarked-above (suc n) c h =
      marked_other (marks_to l z salt xors flows n) n (pure_at l z salt xors flows n) c (λ e. omega arith) ∙ unmarked-above n c (omega arith)

  pub length-marks : length (marks_of l z salt xors flows) ≡ words_for (table_cells l z)
  unfolding marks_of
  length-marks = length_to (table_cells l z)

  pub marks-right : marks_right l z salt xors flows (marks_of l z salt xors flows) ≡ true
  unfolding marks_right marks_of
  marks-right =
      all_yes (table_cells l z) _
      (λ c h. rw (marked-below (table_cells l z) c (omega arith) h) (agrees-self (pure_at l z salt xors flows c)))

  pub marks-end : rest_clear (table_cells l z) (marks_of l z salt xors flows) ≡ true
  unfolding rest_clear marks_of
  marks-end =
      all_yes (words_for (table_cells l z) * 64 - table_cells l z) _ (λ j h. rw (unmarked-above (table_cells l z) (table_cells l z + j) (omega arith)))
