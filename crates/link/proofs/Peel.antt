-- One peel, and peeling while a cell is marked, are the theory's, for any marks and cells.
use mathlib.Core.Path.{◌≡◌, refl, sym, ap, ap₂, ◌∙◌}
use mathlib.Core.Bool.{true, false, ◌&&◌, ◌||◌}
use mathlib.Core.List.{List}
use mathlib.Core.Logic.{inl, inr}
use Prim.Native.Nat.{ℕ, zero, suc, ◌+◌, ◌*◌, ◌<◌, ◌≤◌}
use native.Mathlib.Omega.{arith}
use borrow.Author.Tests.{ltb-true, lt-ltb}
use lib.Dec.{eqb, ltb}
use lib.ListN.{length, get_or}
use Rattle.laws.specs.Upto.{any_upto, lowest}
use Rattle.laws.proofs.Bools.{split}
use Rattle.laws.proofs.Upto.{any_same, length-list}
use Rattle.layout.specs.declared.Layout.{Layout}
use Rattle.layout.specs.declared.Sizes.{Sizes}
use Rattle.layout.specs.Sizes.{table_cells}
use Rattle.hash.specs.Places.{has_cell}
use Rattle.list.specs.Records.{Records, key_at, appended}
use Rattle.list.proofs.Laws.{length-key}
use Rattle.marks.specs.Marks.{marked, first_mark}
use Rattle.table.specs.Table.{Tab, has_empty, taken_out, spot_at, Bounded}
use Rattle.peeling.specs.Peel.{PeelRoom, Peeled, peeled, Ended, peel_damaged, peel_taken, peel_at, peel_of, after_peel, peels_upto, listed_at}
use Rattle.std.specs.Prelude.{Ok, Err}
use Rattle.theory.specs.Encode.{Key, Placement}
use Rattle.theory.specs.Session.{has_empty_cell, Step, repeat, after_step}
use Rattle.theory.specs.Session as theory
use Rattle.theory.specs.Notes.{Noted, peel_noted}
use Rattle.theory.specs.Collector.{PeelLeaves}
use Rattle.theory.proofs.Hollow.{peel-meets}
use Rattle.link.specs.View.{below, cells_of, record_at, marks_of, noted_of}
use Rattle.link.specs.Held.{Held, Clear}
use Rattle.link.specs.Answers.{peel_step, ended_as}
use Rattle.link.proofs.Lists.{listed-is}
use Rattle.table.proofs.Bounds.{peel-room, bounded-peeled}
use Rattle.table.proofs.Spots.{words-room, any-cell}
use Rattle.link.proofs.Cells.{first_any, first-lowest}
use Rattle.link.proofs.Taken.{others-kept, taken_is, held-taken, clear-taken}
use Rattle.link.proofs.Ends.{noted-quiet, noted-broken, noted-taken}
use Rattle.laws.proofs.Rows.{row_within}

-- ---- the ways a peel on lists ends
pub data Peeling (l : Layout) (z : Sizes) (salt n : ℕ) (t : Tab) (rs : Records) (seen : List ℕ) : Peeled → Type 0 where
  none-marked : ltb (first_mark t.marks) (table_cells l z) ≡ false → Peeling l z salt n t rs seen (peeled (Ok false) t rs seen)
  broken : ltb (first_mark t.marks) (table_cells l z) ≡ true
      → peel_damaged l z salt n t.flows rs.keys (key_at l t.xors (first_mark t.marks)) ≡ true
      → Peeling l z salt n t rs seen (peeled (Err (first_mark t.marks)) t rs seen)
  taken_out_lem : ltb (first_mark t.marks) (table_cells l z) ≡ true
      → peel_damaged l z salt n t.flows rs.keys (key_at l t.xors (first_mark t.marks)) ≡ false
      → Peeling l z salt n t rs seen (peel_taken l z salt n (key_at l t.xors (first_mark t.marks)) t rs seen)

pub peeling : (l : Layout) (z : Sizes) (salt n : ℕ) (t : Tab) (rs : Records) (seen : List ℕ)
    → Peeling l z salt n t rs seen (peel_of l z salt n t rs seen)
unfolding peel_of peel_at
peeling l z salt n t rs seen = elim (split (ltb (first_mark t.marks) (table_cells l z))) [
  | inr a ↦ rw a (none-marked a)
  | inl a ↦ elim (split (peel_damaged l z salt n t.flows rs.keys (key_at l t.xors (first_mark t.marks)))) [
    | inl d ↦ rw (a, d) (broken a d)
    | inr d ↦ rw (a, d) (taken_out_lem a d)
  ]
]

-- ---- what the tests of a peel ask is what the theory asks
module _ (l : Layout) (z : Sizes) (salt n : ℕ) (t : Tab) (packets : List ℕ) (rs : Records) (h : Held l z n t packets rs) where
  open h use {lent, listed}
  open lent use {table, words}
  open table use {lays, ranged}

  abbrev size : ℕ
  size = table_cells l z

  abbrev has : Placement
  has = has_cell l z salt

  abbrev before : Noted
  before = noted_of l z n t packets rs

  abbrev first : ℕ
  first = first_mark t.marks

  abbrev key : Key
  key = key_at l t.xors first

  mark-in : (c : ℕ) → c < size → marks_of size t.marks c ≡ marked t.marks c
  unfolding marks_of below
  mark-in c q = rw (lt-ltb c size q)

  bits : size ≤ length t.marks * 64
  bits = words-room size table.marks-fit

  any-mark : any_upto size (marks_of size t.marks) ≡ ltb first size
  any-mark = first_any t.marks size words bits (marks_of size t.marks) mark-in

  lowest-mark : ltb first size ≡ true → lowest size (marks_of size t.marks) ≡ first
  lowest-mark a =
      first-lowest t.marks size words bits (marks_of size t.marks) mark-in (ltb-true first size a)

  -- 01 'A session': "one of its cells has FlowCount 0"
  pub empty-is : (x : Key) → has_empty_cell size has before.session.cells x ≡ has_empty l z salt t.flows x
  unfolding has_empty_cell has_empty cells_of below
  empty-is x =
      any_same size (λ c. has x c && eqb (before.session.cells c).flow_count 0) (λ c. has x c && eqb (get_or t.flows c 0) 0)
      (λ c q. rw (lt-ltb c size q))
      ∙ sym (any-cell l z salt x lays ranged (λ c. eqb (get_or t.flows c 0) 0))

  pub damaged-is : (x : Key) → length x ≡ l.key → theory.peel_damaged size has before.session x
      ≡ peel_damaged l z salt n t.flows rs.keys x
  unfolding peel_damaged theory.peel_damaged
  damaged-is x e = ap₂ ◌||◌ (listed-is l (2 * size) n rs lent.room listed x e) (empty-is x)

  module _ (a : ltb first size ≡ true) where
    inside : first < size
    inside = ltb-true first size a

    key-length : length key ≡ l.key
    key-length = length-key l t.xors first (omega (arith, table.xors-fit, row_within first size l.key inside))

    -- the key that the theory peels
    key-is : (before.session.cells (lowest size before.notes.marks)).flow_xor ≡ key
    unfolding cells_of below
    key-is = rw (lowest-mark a, a)

    pub clear_next : Clear size t.marks → Clear size (taken_out l z salt key n t).marks
    clear_next = clear-taken l z salt n t packets rs h false key key-length

    leaves-taken : (seen : List ℕ) (c : ℕ) → has key c ≡ false → spot_at l (peel_taken l z salt n key t rs seen).table c ≡ spot_at l t c
    unfolding peel_taken
    leaves-taken seen = others-kept l z salt n t packets rs h false key key-length

    module _ (room : PeelRoom l z n t) where
      pub held_next : Held l z (n + 1) (taken_out l z salt key n t) packets (appended l n key 0 rs)
      held_next = held-taken l z salt n t packets rs h false key key-length (room inside)

      next-is : (seen : List ℕ) → peel_damaged l z salt n t.flows rs.keys key ≡ false → let p = peel_taken l z salt n key t rs seen in
          peel_step p.answer (noted_of l z (n + 1) p.table packets p.list) ≡ peel_noted size has before
      unfolding peel_taken
      next-is seen d = ap theory.next (taken_is l z salt n t packets rs h false key key-length (room inside))
          ∙ sym (noted-taken size has before (any-mark ∙ a) key n key-is (length-list n (record_at l rs))
          (damaged-is key key-length ∙ d))

  -- Theorem: one peel on lists, right or wrong marks, clean or damaged cells, where the list has room, is the theory's peel
  pub peel-is : PeelRoom l z n t → (seen : List ℕ) → let p = peel_of l z salt n t rs seen in
      peel_step p.answer (noted_of l z (n + 1) p.table packets p.list) ≡ peel_noted size has before
  peel-is room seen = go (peeling l z salt n t rs seen)
    where
      go : {p : Peeled} → Peeling l z salt n t rs seen p
          → peel_step p.answer (noted_of l z (n + 1) p.table packets p.list) ≡ peel_noted size has before
      go (none-marked a) = sym (noted-quiet size has before (any-mark ∙ a))
      go (broken a d) = sym (noted-broken size has before (any-mark ∙ a)
          (ap (theory.peel_damaged size has before.session) (key-is a) ∙ damaged-is key (key-length a) ∙ d)
          ∙ ap theory.damaged (lowest-mark a))
      go (taken_out_lem a d) = next-is a room seen d

  -- Theorem: 01 'A session': "leaves the marks and per-cell numbers of all cells but the flow's as they were", and FlowXOR and FlowCount
  pub peel-leaves : (seen : List ℕ) (c : ℕ) → has key c ≡ false → spot_at l (peel_of l z salt n t rs seen).table c ≡ spot_at l t c
  peel-leaves seen c away = go (peeling l z salt n t rs seen)
    where
      go : {p : Peeled} → Peeling l z salt n t rs seen p → spot_at l p.table c ≡ spot_at l t c
      go (none-marked a) = refl
      go (broken a d) = refl
      go (taken_out_lem a d) = leaves-taken a seen c away

  -- Theorem: it meets the peel's contract, which the hollow program that rescans breaks
  pub peel-contract : PeelRoom l z n t → (seen : List ℕ) → let p = peel_of l z salt n t rs seen in
      p.answer ≡ Ok true → PeelLeaves size has before (noted_of l z (n + 1) p.table packets p.list)
  peel-contract room seen e =
      let p = peel_of l z salt n t rs seen in
      let after = noted_of l z (n + 1) p.table packets p.list in
      peel-meets size has before after (sym (peel-is room seen) ∙ ap (λ a. peel_step a after) e)

-- ---- peeling while a cell is marked
-- lists that are fit, with marks and numbers as the test of 8 has them
abbrev pub HeldWell : Layout → Sizes → ℕ → ℕ → Tab → List ℕ → Records → Type 0
HeldWell l z salt n t packets rs = Held l z n t packets rs × Bounded l z salt n t rs

module _ (l : Layout) (z : Sizes) (salt : ℕ) (n : ℕ) (t : Tab) (packets : List ℕ) (rs : Records) (h : HeldWell l z salt n t packets rs) where
  pub well-room : PeelRoom l z n t
  well-room = peel-room l z salt n t rs h.1 h.0.lent.table

  well-next : let key = key_at l t.xors (first_mark t.marks) in ltb (first_mark t.marks) (table_cells l z) ≡ true
      → HeldWell l z salt (n + 1) (taken_out l z salt key n t) packets (appended l n key 0 rs)
  well-next a = (
    held_next l z salt n t packets rs h.0 a well-room,
    bounded-peeled l z salt n t rs h.1 h.0.lent.table h.0.lent.room _ (key-length l z salt n t packets rs h.0 a)
        (ltb-true (first_mark t.marks) (table_cells l z) a) refl,
  )

module _ (l : Layout) (z : Sizes) (salt : ℕ) (packets : List ℕ) where
  abbrev peel_once : Noted → Step Noted
  peel_once = peel_noted (table_cells l z) (has_cell l z salt)

  -- what is to be shown of at most m peels
  abbrev Peels : ℕ → Type 0
  Peels m = (n : ℕ) (t : Tab) (rs : Records) (seen : List ℕ) → HeldWell l z salt n t packets rs
      → ended_as l z packets (peels_upto m l z salt n t rs seen) ≡ repeat peel_once m (noted_of l z n t packets rs)

  turn : (m n : ℕ) (t : Tab) (rs : Records) (seen : List ℕ) → HeldWell l z salt n t packets rs → Peels m → {p : Peeled} → Peeling l z salt n t rs seen p
      → ended_as l z packets (after_peel (peels_upto m l z salt (n + 1)) n p.answer p.table p.list p.seen)
      ≡ after_step (repeat peel_once m) (noted_of l z n t packets rs)
      (peel_step p.answer (noted_of l z (n + 1) p.table packets p.list))
  unfolding after_peel after_step peel_taken
  turn m n t rs seen h more (none-marked a) = refl
  turn m n t rs seen h more (broken a d) = refl
  turn m n t rs seen h more (taken_out_lem a d) = more (n + 1) _ _ _ (well-next l z salt n t packets rs h a)

  -- Theorem: at most m peels on lists, with marks and numbers as the test of 8 has them, are at most m peels of the theory
  pub peels-is : (m n : ℕ) (t : Tab) (rs : Records) (seen : List ℕ) → HeldWell l z salt n t packets rs
      → ended_as l z packets (peels_upto m l z salt n t rs seen) ≡ repeat peel_once m (noted_of l z n t packets rs)
  unfolding peels_upto repeat
  peels-is zero n t rs seen h = refl
  peels-is (suc m) n t rs seen h =
      turn m n t rs seen h (peels-is m) (peeling l z salt n t rs seen)
      ∙ ap (after_step (repeat peel_once m) (noted_of l z n t packets rs)) (peel-is l z salt n t packets rs h.0 (well-room l z salt n t packets rs h) seen)

-- ---- what each peel keeps, peeling keeps
module _ (l : Layout) (z : Sizes) (salt : ℕ) (I : ℕ → Tab → Records → Type 0)
    (kept : (n : ℕ) (t : Tab) (rs : Records) → let key = key_at l t.xors (first_mark t.marks) in I n t rs
    → ltb (first_mark t.marks) (table_cells l z) ≡ true
    → I (n + 1) (taken_out l z salt key n t) (appended l n key 0 rs)) where
  abbrev KeptAt : Ended → Type 0
  KeptAt e = I (listed_at e.answer) e.table e.list

  abbrev Keeps : ℕ → Type 0
  Keeps m = (n : ℕ) (t : Tab) (rs : Records) (seen : List ℕ) → I n t rs → KeptAt (peels_upto m l z salt n t rs seen)

  turn-keeps : (m n : ℕ) (t : Tab) (rs : Records) (seen : List ℕ) → I n t rs → Keeps m → {p : Peeled} → Peeling l z salt n t rs seen p
      → KeptAt (after_peel (peels_upto m l z salt (n + 1)) n p.answer p.table p.list p.seen)
  unfolding after_peel peel_taken
  turn-keeps m n t rs seen h more (none-marked a) = h
  turn-keeps m n t rs seen h more (broken a d) = h
  turn-keeps m n t rs seen h more (taken_out_lem a d) = more (n + 1) _ _ _ (kept n t rs h a)

  peels-keep : (m : ℕ) → Keeps m
  unfolding peels_upto
  peels-keep zero n t rs seen h = h
  peels-keep (suc m) n t rs seen h = turn-keeps m n t rs seen h (peels-keep m) (peeling l z salt n t rs seen)

module _ (l : Layout) (z : Sizes) (salt n : ℕ) (t : Tab) (packets : List ℕ) (rs : Records) (h : HeldWell l z salt n t packets rs) (seen : List ℕ) (m : ℕ) where
  -- the lists stay fit, marks and numbers right
  pub peels-held : let e = peels_upto m l z salt n t rs seen in HeldWell l z salt (listed_at e.answer) e.table packets e.list
  peels-held = peels-keep l z salt (λ k u q. HeldWell l z salt k u packets q) (λ k u q. well-next l z salt k u packets q) m n t rs seen h

  -- and the bits past the table clear
  pub peels-clear : Clear (table_cells l z) t.marks → Clear (table_cells l z) (peels_upto m l z salt n t rs seen).table.marks
  peels-clear c = (peels-keep l z salt (λ k u q. HeldWell l z salt k u packets q × Clear (table_cells l z) u.marks)
      (λ k u q g a. (well-next l z salt k u packets q g.0 a, clear_next l z salt k u packets q g.0.0 a g.1)) m n t rs seen (h, c)).1
