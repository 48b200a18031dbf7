-- The test of 8 passes exactly the sessions that the theory calls proper, with the bits past N clear.
use mathlib.Core.Path.{◌≡◌, refl, sym, ap, ◌∙◌, subst, fun_ext}
use mathlib.Core.Bool.{Bool, true, false, not, cond, ◌&&◌, ◌||◌}
use mathlib.Core.List.{List, [], ◌∷◌, ◌++◌}
use mathlib.Core.Logic.{inl, inr}
use Prim.Native.Nat.{ℕ, zero, suc, ◌+◌, ◌-◌, ◌*◌, ◌/◌, ◌%◌, ◌<◌, ◌≤◌}
use native.Mathlib.Decide.{dec_lt}
use native.Mathlib.Omega.{arith}
use borrow.Author.Tests.{lt-ltb, le-ltb, ltb-false, le-leb, leb-true, eqb-true, eq-eqb}
use lib.Bits.{bit_xor}
use lib.Dec.{eqb, ltb, leb}
use lib.ListN.{length, get_or, get_or-eq_default}
use Rattle.laws.specs.Upto.{all_upto, list_upto}
use Rattle.laws.proofs.Bools.{split, and_l, and_r, and_i, and-f, or-fl, or-fr, not_t, ne-is, positive_of}
use Rattle.laws.proofs.Digits.{digit-of-zero}
use Rattle.laws.proofs.Upto.{any-no, any_none, all_yes, all-at, each_keeps, length-list}
use Rattle.layout.specs.declared.Layout.{Layout}
use Rattle.layout.specs.declared.Sizes.{Sizes}
use Rattle.layout.specs.Sizes.{table_cells}
use Rattle.hash.specs.Places.{has_cell}
use Rattle.hash.proofs.Apart.{has_within}
use Rattle.list.specs.Records.{Records, Room, key_at, is_known, is_listed, handed_in, peeled_in}
use Rattle.marks.specs.Marks.{words_for, marked}
use Rattle.table.specs.Table.{Tab, pure_at, open_in, MarksRight, Bounded}
use Rattle.test8.specs.Test8.{over_listed, keys_repeat, zero_count, numbers_in, agrees, marks_right, rest_clear}
use Rattle.test8.specs.Test8.{unknown_in, unknowns_given, positions_given, notes_right, is_session}
use Rattle.test8.proofs.Passed.{marks-told}
use Rattle.theory.specs.Encode.{Key, same_key, among, Distinct, Placement, empty_table}
use Rattle.theory.specs.Session.{Record, Session, keys_of, handed_of, peeled_of, pure, unknowns_in, open_cells}
use Rattle.theory.specs.Notes.{Notes, positions_in, scan}
use Rattle.theory.specs.Proper.{CountsPositive, Proper}
use Rattle.theory.proofs.Flow.{among-append, distinct_append, same-flip}
use Rattle.theory.proofs.Records.{keys-append}
use Rattle.link.specs.View.{below, cells_of, record_at, records_of, session_of, marks_of, numbers_of, notes_of, noted_of}
use Rattle.link.specs.Held.{Lent, Clear}
use Rattle.link.proofs.Lists.{record-length, listed-is}
use Rattle.link.proofs.Given.{where-number, passing-number, positions-upto}
use Rattle.link.proofs.Taken.{notes-path}
use Rattle.laws.proofs.Lowest.{number_same, number-none}

-- ---- distinct keys and positive counts, one record after the other
distinct-split : (l : List Key) (x : Key) → Distinct (l ++ (x ∷ [])) → Distinct l × (among x l ≡ false)
unfolding Distinct among
distinct-split [] x d = (tt, refl)
distinct-split (y ∷ l) x d =
    let before = distinct-split l x d.1 in
    let apart : (among y l || same_key y x) ≡ false = sym (among-append y l x) ∙ d.0 in
    ((or-fl (among y l) (same_key y x) apart, before.0), rw (same-flip y x (or-fr (among y l) (same_key y x) apart)) before.1)

positive-snoc : (rs : List Record) (r : Record) → CountsPositive rs → (r.known ≡ true → 1 ≤ r.count) → CountsPositive (rs ++ (r ∷ []))
unfolding CountsPositive
positive-snoc [] r h p = (p, tt)
positive-snoc (q ∷ rs) r h p = (h.0, positive-snoc rs r h.1 p)

positive-split : (rs : List Record) (r : Record) → CountsPositive (rs ++ (r ∷ [])) → CountsPositive rs × (r.known ≡ true → 1 ≤ r.count)
unfolding CountsPositive
positive-split [] r h = (tt, h.0)
positive-split (q ∷ rs) r h = let before = positive-split rs r h.1 in ((h.0, before.0), before.1)

module _ (f : ℕ → Record) where
  positive-upto : (n : ℕ) → ((i : ℕ) → i < n → (f i).known ≡ true → 1 ≤ (f i).count) → CountsPositive (list_upto n f)
  unfolding list_upto CountsPositive
  positive-upto zero h = tt
  positive-upto (suc n) h = positive-snoc (list_upto n f) (f n) (positive-upto n (λ i q. h i (omega arith))) (h n (omega arith))

  positive-at : (n : ℕ) → CountsPositive (list_upto n f) → (i : ℕ) → i < n → (f i).known ≡ true → 1 ≤ (f i).count
  unfolding list_upto
  positive-at zero h i q = absurd (omega arith)
  positive-at (suc n) h i q =
      let parts = positive-split (list_upto n f) (f n) h in
      elim (dec_lt i n) [
        | yes b ↦ positive-at n parts.0 i b
        | no b ↦ (let e : n ≡ i = omega arith in rw e at parts.1)
      ]

module _ (l : Layout) (m : ℕ) (rs : Records) (room : Room l m rs) where
  distinct-upto : (n : ℕ) → n ≤ m → ((j : ℕ) → j < n → is_listed l j rs.keys (key_at l rs.keys j) ≡ false) → Distinct (keys_of (records_of l n rs))
  unfolding list_upto keys_of Distinct record_at
  distinct-upto zero w h = tt
  distinct-upto (suc n) w h =
      let x = key_at l rs.keys n in
      subst Distinct (sym (keys-append (records_of l n rs) (record_at l rs n)))
      (distinct_append (keys_of (records_of l n rs)) x (distinct-upto n (omega arith) (λ j q. h j (omega arith)))
      (listed-is l m n rs room (omega arith) x (record-length l m n rs room n (omega arith)) ∙ h n (omega arith)))

  distinct-at : (n : ℕ) → n ≤ m → Distinct (keys_of (records_of l n rs)) → (j : ℕ) → j < n → is_listed l j rs.keys (key_at l rs.keys j) ≡ false
  unfolding list_upto record_at
  distinct-at zero w d j q = absurd (omega arith)
  distinct-at (suc n) w d j q =
      let parts = distinct-split (keys_of (records_of l n rs)) (key_at l rs.keys n)
      (subst Distinct (keys-append (records_of l n rs) (record_at l rs n)) d) in
      elim (dec_lt j n) [
        | yes b ↦ distinct-at n (omega arith) parts.0 j b
        | no b ↦
            (let e : n ≡ j = omega arith in
            rw e at (sym (listed-is l m n rs room (omega arith) (key_at l rs.keys n) (record-length l m n rs room n (omega arith))) ∙ parts.1))
      ]

agree-self : (a b : Bool) → a ≡ b → agrees a b ≡ true
agree-self true b e = sym e
agree-self false b e = ap not (sym e)

-- a number per cell that is what is given
numbers-told : (n : ℕ) (s : List ℕ) (given : ℕ → ℕ) → all_upto n (λ c. eqb (get_or s c 0) (given c)) ≡ true → (c : ℕ) → c < n → get_or s c 0 ≡ given c
numbers-told n s given h c q = eqb-true (get_or s c 0) (given c) (all-at n (λ i. eqb (get_or s i 0) (given i)) h c q)

numbers-asked : (n : ℕ) (s : List ℕ) (given : ℕ → ℕ) → ((c : ℕ) → c < n → get_or s c 0 ≡ given c) → all_upto n (λ c. eqb (get_or s c 0) (given c)) ≡ true
numbers-asked n s given h = all_yes n (λ i. eqb (get_or s i 0) (given i)) (λ c q. eq-eqb (get_or s c 0) (given c) (h c q))

not-i : (a : Bool) → a ≡ false → not a ≡ true
not-i a h = rw h

-- the seven clauses of the test
record Clauses (a b c d e f g : Bool) : Type 0 where
  pub within : a ≡ true
  pub apart : b ≡ true
  pub positive : c ≡ true
  pub numbers : d ≡ true
  pub marks : e ≡ true
  pub rest : f ≡ true
  pub notes : g ≡ true

clauses : (a b c d e f g : Bool) → (a && (b && (c && (d && (e && (f && g)))))) ≡ true → Clauses a b c d e f g
clauses a b c d e f g h =
    let h₁ = and_r a (b && (c && (d && (e && (f && g))))) h in
    let h₂ = and_r b (c && (d && (e && (f && g)))) h₁ in
    let h₃ = and_r c (d && (e && (f && g))) h₂ in
    let h₄ = and_r d (e && (f && g)) h₃ in
    let h₅ = and_r e (f && g) h₄ in
    record {
      within = and_l a (b && (c && (d && (e && (f && g))))) h;
      apart = and_l b (c && (d && (e && (f && g)))) h₁;
      positive = and_l c (d && (e && (f && g))) h₂;
      numbers = and_l d (e && (f && g)) h₃;
      marks = and_l e (f && g) h₄;
      rest = and_l f g h₅;
      notes = and_r f g h₅;
    }

module _ (l : Layout) (z : Sizes) (salt n : ℕ) (t : Tab) (packets : List ℕ) (rs : Records) (lent : Lent l z t packets rs) where
  abbrev has : Placement
  has = has_cell l z salt

  abbrev size : ℕ
  size = table_cells l z

  abbrev session : Session
  session = session_of l z n t packets rs

  -- ---- the numbers of the test are the theory's
  handed-is : length (handed_of (records_of l n rs)) ≡ handed_in n rs
  unfolding handed_in record_at
  handed-is = where-number (λ r. r.handed) (record_at l rs) n

  peeled-is : length (peeled_of (records_of l n rs)) ≡ peeled_in n rs
  unfolding peeled_in record_at
  peeled-is = where-number (λ r. not r.handed) (record_at l rs) n

  pub open_is : open_cells size session.cells ≡ open_in size t.flows
  unfolding open_cells open_in cells_of below
  open_is = number_same size (λ c. ltb 0 (session.cells c).flow_count) (λ c. ltb 0 (get_or t.flows c 0)) (λ c q. rw (lt-ltb c size q))

  unknowns-is : (c : ℕ) → unknowns_in has (records_of l n rs) c ≡ unknowns_given l z salt n rs c
  unfolding unknowns_given unknown_in record_at
  unknowns-is c = passing-number (λ r. not r.known) (record_at l rs) (λ k. has k c) n

  positions-is : (c : ℕ) → positions_in has (records_of l n rs) c ≡ positions_given l z salt n rs c
  unfolding positions_given unknown_in record_at
  positions-is c = positions-upto (λ k. has k c) (record_at l rs) n

  pure-in : (c : ℕ) → c < size → pure has session.cells c ≡ pure_at l z salt t.xors t.flows c
  unfolding pure pure_at cells_of below
  pure-in c q = rw (lt-ltb c size q)

  -- ---- past the table nothing is given
  has-past : (k : Key) (c : ℕ) → size ≤ c → has k c ≡ false
  has-past k c q = elim (split (has k c)) [
    | inl p ↦ absurd (omega (arith, has_within l z lent.table.lays lent.table.ranged salt k c p))
    | inr p ↦ p
  ]

  pure-past : (c : ℕ) → size ≤ c → pure has session.cells c ≡ false
  unfolding pure cells_of below empty_table
  pure-past c q = rw (le-ltb c size q)

  given-past : (c : ℕ) → size ≤ c → (i : ℕ) → unknown_in l z salt rs c i ≡ false
  unfolding unknown_in
  given-past c q i = rw (has-past (key_at l rs.keys i) c q) (and-f (not (is_known rs i)))

  unknowns-past : (c : ℕ) → size ≤ c → unknowns_given l z salt n rs c ≡ 0
  unfolding unknowns_given
  unknowns-past c q = number-none n (unknown_in l z salt rs c) (λ i h. given-past c q i)

  positions-past : (c : ℕ) → size ≤ c → positions_given l z salt n rs c ≡ 0
  unfolding positions_given
  positions-past c q = each_keeps (λ x. x ≡ 0) n (λ i x. cond (unknown_in l z salt rs c i) (bit_xor x i) x) 0 refl
      (λ i x h e. rw (given-past c q i) e)

  -- ---- marks and per-cell numbers are right in every cell exactly when they are in the table's
  abbrev UnknownsRight : Type 0
  UnknownsRight = (c : ℕ) → c < size → get_or t.unknowns c 0 ≡ unknowns_given l z salt n rs c

  abbrev PositionsRight : Type 0
  PositionsRight = (c : ℕ) → c < size → get_or t.positions c 0 ≡ positions_given l z salt n rs c

  notes-right : MarksRight l z salt t → UnknownsRight → PositionsRight → notes_of size t ≡ scan has session
  unfolding scan marks_of numbers_of below
  notes-right a b d = notes-path
      (fun_ext (λ c. elim (dec_lt c size) [
        | yes q ↦ rw (lt-ltb c size q) (a c q ∙ sym (pure-in c q))
        | no q ↦ (let p : size ≤ c = omega arith in rw (le-ltb c size p) (sym (pure-past c p)))
      ]))
      (fun_ext (λ c. elim (dec_lt c size) [
        | yes q ↦ rw (lt-ltb c size q) (b c q ∙ sym (unknowns-is c))
        | no q ↦ (let p : size ≤ c = omega arith in rw (le-ltb c size p) (sym (unknowns-is c ∙ unknowns-past c p)))
      ]))
      (fun_ext (λ c. elim (dec_lt c size) [
        | yes q ↦ rw (lt-ltb c size q) (d c q ∙ sym (positions-is c))
        | no q ↦ (let p : size ≤ c = omega arith in rw (le-ltb c size p) (sym (positions-is c ∙ positions-past c p)))
      ]))

  module _ (right : notes_of size t ≡ scan has session) where
    right-marks : MarksRight l z salt t
    unfolding scan marks_of below
    right-marks c q = rw (lt-ltb c size q) at (ap (λ (m : Notes). m.marks c) right) ∙ pure-in c q

    right-unknowns : UnknownsRight
    unfolding scan numbers_of below
    right-unknowns c q = rw (lt-ltb c size q) at (ap (λ (m : Notes). m.unknowns c) right) ∙ unknowns-is c

    right-positions : PositionsRight
    unfolding scan numbers_of below
    right-positions c q = rw (lt-ltb c size q) at (ap (λ (m : Notes). m.positions c) right) ∙ positions-is c

  -- ---- the bits past the table
  rest-clear : rest_clear size t.marks ≡ true → Clear size t.marks
  unfolding rest_clear marked
  rest-clear h c q = elim (dec_lt c (words_for size * 64)) [
    | yes p ↦
        (let e : size + (c - size) ≡ c = omega arith in
        rw e at (not_t (marked t.marks (size + (c - size)))
        (all-at (words_for size * 64 - size) (λ j. not (marked t.marks (size + j))) h (c - size) (omega arith))))
    | no p ↦
        rw (get_or-eq_default t.marks 0 {n = c / 64} (omega (arith, lent.table.marks-fit)), digit-of-zero (c % 64))
  ]

  clear-rest : Clear size t.marks → rest_clear size t.marks ≡ true
  unfolding rest_clear
  clear-rest h = all_yes (words_for size * 64 - size) (λ j. not (marked t.marks (size + j)))
      (λ j q. not-i (marked t.marks (size + j)) (h (size + j) (omega arith)))

  -- ---- the clauses that the test asks cell by cell
  marks-asked : MarksRight l z salt t → marks_right l z salt t.xors t.flows t.marks ≡ true
  unfolding marks_right
  marks-asked h = all_yes size (λ i. agrees (marked t.marks i) (pure_at l z salt t.xors t.flows i))
      (λ c q. agree-self (marked t.marks c) (pure_at l z salt t.xors t.flows c) (h c q))

  notes-told : notes_right l z salt n rs t.unknowns t.positions ≡ true → UnknownsRight × PositionsRight
  unfolding notes_right
  notes-told h =
      let unknowns = all_upto size (λ c. eqb (get_or t.unknowns c 0) (unknowns_given l z salt n rs c)) in
      let positions = all_upto size (λ c. eqb (get_or t.positions c 0) (positions_given l z salt n rs c)) in (
        numbers-told size t.unknowns (unknowns_given l z salt n rs) (and_l unknowns positions h),
        numbers-told size t.positions (positions_given l z salt n rs) (and_r unknowns positions h),
      )

  notes-asked : UnknownsRight → PositionsRight → notes_right l z salt n rs t.unknowns t.positions ≡ true
  unfolding notes_right
  notes-asked a b = and_i _ _ (numbers-asked size t.unknowns (unknowns_given l z salt n rs) a)
      (numbers-asked size t.positions (positions_given l z salt n rs) b)

  -- Theorem: a session that the test of 8 lets pass is proper, and its bits past N are clear
  pub session-proper : is_session l z salt n t rs ≡ true → Proper size has (noted_of l z n t packets rs) × Clear size t.marks
  unfolding is_session over_listed keys_repeat zero_count numbers_in record_at
  session-proper h =
      let c = clauses (not (over_listed l z n)) (not (keys_repeat l n rs.keys)) (not (zero_count n rs)) (numbers_in size n t.flows rs)
      (marks_right l z salt t.xors t.flows t.marks) (rest_clear size t.marks) (notes_right l z salt n rs t.unknowns t.positions) h in
      let room : n ≤ 2 * size = ltb-false (2 * size) n (not_t (over_listed l z n) c.within) in
      let handed = leb (handed_in n rs) size in
      let peeled = leb (peeled_in n rs + open_in size t.flows) size in (
        record {
          room = rw (length-list n (record_at l rs)) room;
          apart = distinct-upto l (2 * size) rs lent.room n room
              (any_none n (λ j. is_listed l j rs.keys (key_at l rs.keys j)) (not_t (keys_repeat l n rs.keys) c.apart));
          positive = positive-upto (record_at l rs) n (λ i q known. positive_of (get_or rs.counts i 0)
              (rw known at (any_none n (λ j. is_known rs j && eqb (get_or rs.counts j 0) 0) (not_t (zero_count n rs) c.positive) i q)));
          fits = record {
            handed-room = rw handed-is (leb-true (handed_in n rs) size (and_l handed peeled c.numbers));
            peeled-room = rw (peeled-is, open_is) (leb-true (peeled_in n rs + open_in size t.flows) size (and_r handed peeled c.numbers));
          };
          right = notes-right (marks-told l z salt t c.marks) (notes-told c.notes).0 (notes-told c.notes).1;
        },
        rest-clear c.rest,
      )

  -- marks and numbers are then such that a peel finds room in the list
  pub proper-bounded : Proper size has (noted_of l z n t packets rs) → Bounded l z salt n t rs
  proper-bounded p = record {
    words = lent.words;
    marks-right = right-marks p.right;
    handed-few = omega (arith, handed-is, p.fits.handed-room);
    peeled-few = omega (arith, peeled-is, open_is, p.fits.peeled-room);
  }

  -- Theorem: and the test lets every such session pass
  pub proper-session : Proper size has (noted_of l z n t packets rs) → Clear size t.marks → is_session l z salt n t rs ≡ true
  unfolding is_session over_listed keys_repeat zero_count numbers_in record_at
  proper-session p clear =
      let room : n ≤ 2 * size = omega (arith, p.room, length-list n (record_at l rs)) in
      rw (
        le-ltb (2 * size) n room,
        any-no n (λ j. is_listed l j rs.keys (key_at l rs.keys j)) (distinct-at l (2 * size) rs lent.room n room p.apart),
        any-no n (λ i. is_known rs i && eqb (get_or rs.counts i 0) 0) (λ i q. elim (split (is_known rs i)) [
          | inr k ↦ rw k
          | inl k ↦ rw k (ne-is 0 (get_or rs.counts i 0) (positive-at (record_at l rs) n p.positive i q k))
        ]),
        le-leb (handed_in n rs) size (omega (arith, handed-is, p.fits.handed-room)),
        le-leb (peeled_in n rs + open_in size t.flows) size (omega (arith, peeled-is, open_is, p.fits.peeled-room)),
        marks-asked (right-marks p.right),
        clear-rest clear,
        notes-asked (right-unknowns p.right) (right-positions p.right),
      )
