-- What callers learn of memory that passes the test, fact by fact; and memory just opened passes it.
use Rattle.std.proofs.Common.{◌≡◌, ℕ, ◌+◌, ◌*◌, ◌≤◌, Bool, true, false, eqb, ltb, leb, List, get_or, replicate, sym, arith, ltb-false, le-ltb, eq-eqb, le-leb, leb-true}
use Rattle.laws.specs.Upto.{any_upto, each_upto, number_upto}
use Rattle.laws.proofs.Bools.{and_l, and_r, not_t}
use Rattle.laws.proofs.Lists.{zero-at}
use Rattle.laws.proofs.Lowest.{number-max}
use Rattle.laws.proofs.Upto.{all_yes, all-at}
use Rattle.layout.specs.declared.Layout.{Layout}
use Rattle.layout.specs.declared.Sizes.{Sizes}
use Rattle.layout.specs.Sizes.{table_cells}
use Rattle.list.specs.Records.{Records, handed_in, peeled_in}
use Rattle.table.specs.Table.{Tab, tab, pure_at, open_in, MarksRight, Bounded}
use Rattle.marks.specs.Marks.{Words, marked}
use Rattle.test8.specs.Test8.{over_listed, keys_repeat, zero_count, numbers_in, agrees, marks_right, rest_clear}
use Rattle.test8.specs.Test8.{unknowns_given, positions_given, notes_right, is_session}
use Rattle.test8.proofs.Answers.{Passed}

pub agree : (a b : Bool) → agrees a b ≡ true → a ≡ b
agree true b h = sym h
agree false b h = sym (not_t b h)

-- the clause on marks, cell by cell
pub marks-told : (l : Layout) (z : Sizes) (salt : ℕ) (t : Tab) → marks_right l z salt t.xors t.flows t.marks ≡ true → MarksRight l z salt t
unfolding marks_right
marks-told l z salt t h c q = agree (marked t.marks c) (pure_at l z salt t.xors t.flows c)
    (all-at (table_cells l z) (λ i. agrees (marked t.marks i) (pure_at l z salt t.xors t.flows i)) h c q)

module _ (l : Layout) (z : Sizes) (salt n : ℕ) (t : Tab) (rs : Records) (p : Passed l z salt n t rs) where
  pub listed-few : n ≤ 2 * table_cells l z
  unfolding over_listed
  listed-few = ltb-false (2 * table_cells l z) n p.listed_in

  -- so that a peel, or a hand-over that 12 lets pass, finds room in the list
  pub passed-bounded : Words t.marks → Bounded l z salt n t rs
  unfolding numbers_in
  passed-bounded w =
      let size = table_cells l z in
      let handed = leb (handed_in n rs) size in
      let peeled = leb (peeled_in n rs + open_in size t.flows) size in
      record {
        words = w;
        marks-right = marks-told l z salt t p.marks-right;
        handed-few = leb-true (handed_in n rs) size (and_l handed peeled p.numbers-in);
        peeled-few = leb-true (peeled_in n rs + open_in size t.flows) size (and_r handed peeled p.numbers-in);
      }

open-few : (cells : ℕ) (flows : List ℕ) → 0 + open_in cells flows ≤ cells
unfolding open_in
open-few cells flows = omega (arith, number-max cells (λ c. ltb 0 (get_or flows c 0)))

-- nothing listed, both numbers 0 everywhere, and right marks
pub opened-passes : (l : Layout) (z : Sizes) (salt : ℕ) (xors flows marks : List ℕ) (m : ℕ) (rs : Records)
    → marks_right l z salt xors flows marks ≡ true → rest_clear (table_cells l z) marks ≡ true
    → is_session l z salt 0 (tab xors flows (replicate m 0) (replicate m 0) marks) rs ≡ true
unfolding is_session over_listed keys_repeat zero_count numbers_in handed_in peeled_in notes_right unknowns_given positions_given any_upto number_upto each_upto
opened-passes l z salt xors flows marks m rs e f =
    let n = table_cells l z in
    let zeros = all_yes n (λ c. eqb (get_or (replicate m 0) c 0) 0) (λ c h. eq-eqb (get_or (replicate m 0) c 0) 0 (zero-at m c)) in
    rw (le-ltb (2 * n) 0 (omega arith), le-leb 0 n (omega arith), le-leb (0 + open_in n flows) n (open-few n flows), e, f, zeros)
