-- What passing the test says, clause by clause; a clause that fails refuses; and the code's own ways to each clause.
use Rattle.std.proofs.Common.{◌≡◌, ℕ, zero, suc, add-one, eq-eqb, take, ◌+◌, ◌-◌, ◌*◌, ◌<◌, ◌≤◌, Bool, true, false, cond, not, ◌&&◌, eqb, leb, List, length, get_or, sym, refl, ap, ◌∙◌, inl, inr, arith, le-ltb, lt-ltb}
use Rattle.laws.specs.Upto.{all_upto, number_upto}
use Rattle.laws.proofs.Upto.{all_same, all_yes, all-at}
use Rattle.laws.proofs.Bools.{split, and_l, and_r, not_t, iff}
use Rattle.std.proofs.lemmas.List.{get_or-take, length-take-le, ext_get_or}
use Rattle.std.proofs.lemmas.List.Sums.{count_by_more_yes, count_by_more_no}
use Rattle.std.proofs.lemmas.Slice.Eq.{bytes_eq-Decides}
use Rattle.std.specs.Cmp.Lexicographic.{pointwise}
use Rattle.std.specs.List.{count_by}
use borrow.Author.Tests.{eqb-true}
use Rattle.layout.specs.declared.Layout.{Layout}
use Rattle.layout.specs.declared.Sizes.{Sizes}
use Rattle.layout.specs.Sizes.{table_cells}
use Rattle.list.specs.Records.{Records, is_handed, handed_in, peeled_in}
use Rattle.table.specs.Table.{Tab, open_in}
use Rattle.test8.specs.Given.{flag_set, seen_upto}
use Rattle.test8.specs.Test8.{over_listed, keys_repeat, zero_count, numbers_in, marks_right, rest_clear}
use Rattle.test8.specs.Test8.{unknowns_given, positions_given, notes_right, is_session}
use Rattle.laws.proofs.Lowest.{number-rest}

-- no reason for 8 is there
pub record Passed (l : Layout) (z : Sizes) (salt n : ℕ) (t : Tab) (rs : Records) : Type 0 where
  pub listed_in : over_listed l z n ≡ false
  pub keys-differ : keys_repeat l n rs.keys ≡ false
  pub counts-above : zero_count n rs ≡ false
  pub numbers-in : numbers_in (table_cells l z) n t.flows rs ≡ true
  pub marks-right : marks_right l z salt t.xors t.flows t.marks ≡ true
  pub rest-clear : rest_clear (table_cells l z) t.marks ≡ true
  pub notes-right : notes_right l z salt n rs t.unknowns t.positions ≡ true

module _ (l : Layout) (z : Sizes) (salt n : ℕ) (t : Tab) (rs : Records) where
  pub passed : is_session l z salt n t rs ≡ true → Passed l z salt n t rs
  unfolding is_session
  passed p =
      let a = not (over_listed l z n) in
      let b = not (keys_repeat l n rs.keys) in
      let c = not (zero_count n rs) in
      let d = numbers_in (table_cells l z) n t.flows rs in
      let e = marks_right l z salt t.xors t.flows t.marks in
      let f = rest_clear (table_cells l z) t.marks in
      let g = notes_right l z salt n rs t.unknowns t.positions in
      let after-a = and_r a (b && (c && (d && (e && (f && g))))) p in
      let after-b = and_r b (c && (d && (e && (f && g)))) after-a in
      let after-c = and_r c (d && (e && (f && g))) after-b in
      let after-d = and_r d (e && (f && g)) after-c in
      let after-e = and_r e (f && g) after-d in
      record {
        listed_in = not_t (over_listed l z n) (and_l a (b && (c && (d && (e && (f && g))))) p);
        keys-differ = not_t (keys_repeat l n rs.keys) (and_l b (c && (d && (e && (f && g)))) after-a);
        counts-above = not_t (zero_count n rs) (and_l c (d && (e && (f && g))) after-b);
        numbers-in = and_l d (e && (f && g)) after-c;
        marks-right = and_l e (f && g) after-d;
        rest-clear = and_l f g after-e;
        notes-right = and_r f g after-e;
      }

  -- one reason is enough
  pub refused : (Passed l z salt n t rs → ⊥) → false ≡ is_session l z salt n t rs
  refused h = elim (split (is_session l z salt n t rs)) [ inl p ↦ absurd (h (passed p)) | inr p ↦ sym p ]

  -- where not too many are listed and no key repeats, the rest decides; the numbers that it compares are those that are given
  pub decided : {b : Bool} (us ps : List ℕ) → over_listed l z n ≡ false → keys_repeat l n rs.keys ≡ false
      → ((c : ℕ) → get_or us c 0 ≡ unknowns_given l z salt n rs c) → ((c : ℕ) → get_or ps c 0 ≡ positions_given l z salt n rs c)
      → b ≡ (not (zero_count n rs) && (numbers_in (table_cells l z) n t.flows rs && (marks_right l z salt t.xors t.flows t.marks
      && (rest_clear (table_cells l z) t.marks && (all_upto (table_cells l z) (λ c. eqb (get_or t.unknowns c 0) (get_or us c 0))
      && all_upto (table_cells l z) (λ c. eqb (get_or t.positions c 0) (get_or ps c 0)))))))
      → b ≡ is_session l z salt n t rs
  unfolding is_session notes_right
  decided us ps e f u q h =
      let m = table_cells l z in
      let given : (a b : List ℕ) (g : ℕ → ℕ) → ((c : ℕ) → get_or b c 0 ≡ g c)
      → all_upto m (λ c. eqb (get_or a c 0) (get_or b c 0)) ≡ all_upto m (λ c. eqb (get_or a c 0) (g c)) =
      λ a b g k. all_same m (λ c. eqb (get_or a c 0) (get_or b c 0)) (λ c. eqb (get_or a c 0) (g c)) (λ c l. ap (eqb (get_or a c 0)) (k c)) in
      h ∙ rw (e, f, given t.unknowns us (unknowns_given l z salt n rs) u, given t.positions ps (positions_given l z salt n rs) q)

-- ---- the code's ways to the clauses
pub over_yes : (l : Layout) (z : Sizes) (n : ℕ) {cells : ℕ} → cells ≡ table_cells l z → 2 * cells < n → over_listed l z n ≡ true
unfolding over_listed
over_yes l z n e h = lt-ltb (2 * table_cells l z) n (rw e at h)

pub over_no : (l : Layout) (z : Sizes) (n : ℕ) {cells : ℕ} → cells ≡ table_cells l z → n ≤ 2 * cells → over_listed l z n ≡ false
unfolding over_listed
over_no l z n e h = le-ltb (2 * table_cells l z) n (rw e at h)

-- the peeled flows are those that were not handed over
pub numbers-is : (n : ℕ) (flows : List ℕ) (rs : Records) {cells : ℕ} → length flows ≡ cells
    → (leb (number_upto n (λ i. flag_set 1 (get_or rs.flags i 0))) (length flows)
    && leb (n - number_upto n (λ i. flag_set 1 (get_or rs.flags i 0)) + open_in (length flows) flows) (length flows))
    ≡ numbers_in cells n flows rs
unfolding numbers_in handed_in peeled_in is_handed
numbers-is n flows rs e =
    let p : ℕ → Bool = λ i. flag_set 1 (get_or rs.flags i 0) in
    let q : n - number_upto n p ≡ number_upto n (λ i. not (p i)) = omega (arith, number-rest n p) in
    rw (e, q)

-- the index where not too many flows are listed
pub seen-in : (l : Layout) (z : Sizes) (salt n : ℕ)
    (keys seen : List ℕ) {s : List ℕ} → over_listed l z n ≡ false → s ≡ seen_upto l z salt n keys seen
    → s ≡ seen_upto l z salt (cond (over_listed l z n) 0 n) keys seen
seen-in l z salt n keys seen e f = rw e f

-- how many of the first n numbers pass, counted in the slice
pub counted : (q : ℕ → Bool) (s : List ℕ) (n : ℕ) → n ≤ length s → count_by q (take n s) ≡ number_upto n (λ i. q (get_or s i 0))
unfolding number_upto
counted q s zero h = refl
counted q s (suc n) h = ap (λ m. count_by q (take m s)) (sym (add-one n)) ∙ elim (split (q (get_or s n 0))) [
  | inl p ↦ count_by_more_yes q s n 0 (omega arith) p ∙ rw (counted q s n (omega arith), p)
  | inr p ↦ count_by_more_no q s n 0 (omega arith) p ∙ rw (counted q s n (omega arith), p) (omega arith)
]

-- what == says of a slice and the first n numbers of another
pub same-first : (a b : List ℕ) (n : ℕ) → length a ≡ n → n ≤ length b
    → pointwise eqb a (take n b) ≡ all_upto n (λ c. eqb (get_or a c 0) (get_or b c 0))
same-first a b n e h =
    let d = bytes_eq-Decides a (take n b) in
    iff (pointwise eqb a (take n b)) (all_upto n (λ c. eqb (get_or a c 0) (get_or b c 0)))
    (λ p. all_yes n (λ c. eqb (get_or a c 0) (get_or b c 0)) (λ c l. eq-eqb _ _ (ap (λ x. get_or x c 0) (d.0 p) ∙ get_or-take n b c 0 l)))
    (λ p. d.1 (ext_get_or 0 a (take n b) (e ∙ sym (length-take-le n b h))
    (λ c l. eqb-true _ _ (all-at n (λ c. eqb (get_or a c 0) (get_or b c 0)) p c (omega arith)) ∙ sym (get_or-take n b c 0 (omega arith)))))
