-- One count step is the theory's, for any marks and cells; the words of ready cells are those that cells and per-cell numbers give.
use mathlib.Core.Path.{◌≡◌, refl, sym, ap, ◌∙◌}
use mathlib.Core.Bool.{Bool, true, false, cond, ◌&&◌}
use mathlib.Core.List.{List, []}
use mathlib.Core.Logic.{inl, inr}
use Prim.Native.Nat.{ℕ, ◌*◌, ◌/◌, ◌%◌, ◌<◌, ◌≤◌}
use native.Mathlib.Omega.{arith}
use borrow.Author.Tests.{ltb-true, lt-leb, lt-ltb, eq-eqb}
use lib.Dec.{eqb, ltb}
use lib.ListN.{length, get_or, replicate, length-replicate}
use Rattle.laws.specs.Upto.{any_upto, lowest}
use Rattle.laws.proofs.Bools.{split}
use Rattle.laws.proofs.Lists.{zero-at}
use Rattle.laws.proofs.Digits.{digit-of-zero}
use Rattle.laws.proofs.Upto.{any_same, any-yes, each_keeps, list_at, each_at}
use Rattle.layout.specs.declared.Layout.{Layout}
use Rattle.layout.specs.declared.Sizes.{Sizes}
use Rattle.layout.specs.Sizes.{table_cells}
use Rattle.layout.proofs.Ranges.{table-high}
use Rattle.hash.specs.Places.{has_cell}
use Rattle.list.specs.Records.{Records, key_at, with_count}
use Rattle.marks.specs.Marks.{Words, marked, first_mark}
use Rattle.marks.proofs.Laws.{length-put, marked-same, marked_other, words-put, first-marked}
use Rattle.table.specs.Table.{Tab}
use Rattle.counting.specs.Book.{Book, book, exceeds, ready_at, with_ready, ready_upto, told_out}
use Rattle.counting.specs.Count.{Counted, counted, count_damaged, count_at, count_of}
use Rattle.std.specs.Prelude.{Ok, Err}
use Rattle.theory.specs.Encode.{Key, Placement}
use Rattle.theory.specs.Session.{new_record}
use Rattle.theory.specs.Session as theory
use Rattle.theory.specs.Notes.{Noted, ready_by, count_noted}
use Rattle.link.specs.View.{below, cells_of, record_at, numbers_of, noted_of}
use Rattle.link.specs.Held.{Held, Ready, Named, with_book}
use Rattle.link.specs.Answers.{count_step}
use Rattle.table.proofs.Spots.{any-cell}
use Rattle.link.proofs.Cells.{first_any, first-lowest}
use Rattle.link.proofs.Told.{told_is}
use Rattle.link.proofs.Ends.{counted-quiet, counted-broken, counted-told}

-- ---- the words of ready cells
module _ (flows unknowns : List ℕ) where
  -- a cell that is ready is marked, and no other mark changes
  ready-here : (c : ℕ) (ready : List ℕ) → c < length ready * 64
      → marked (with_ready flows unknowns c ready) c ≡ cond (ready_at flows unknowns c) true (marked ready c)
  unfolding with_ready
  ready-here c ready h = elim (split (ready_at flows unknowns c)) [ inl p ↦ rw p (marked-same ready c true h) | inr p ↦ rw p ]

  ready-there : (c j : ℕ) (ready : List ℕ) → (j ≡ c → ⊥) → marked (with_ready flows unknowns c ready) j ≡ marked ready j
  unfolding with_ready
  ready-there c j ready d = elim (split (ready_at flows unknowns c)) [ inl p ↦ rw p (marked_other ready c true j d) | inr p ↦ rw p ]

  ready-length : (c : ℕ) (ready : List ℕ) → length ready ≡ 24 → length (with_ready flows unknowns c ready) ≡ 24
  unfolding with_ready
  ready-length c ready e = elim (split (ready_at flows unknowns c)) [ inl p ↦ rw p (length-put ready c true ∙ e) | inr p ↦ rw p e ]

  ready_words : (c : ℕ) (ready : List ℕ) → Words ready → Words (with_ready flows unknowns c ready)
  unfolding with_ready
  ready_words c ready w = elim (split (ready_at flows unknowns c)) [ inl p ↦ rw p (words-put ready c true w) | inr p ↦ rw p w ]

  none_yet : (c : ℕ) → marked (replicate 24 0) c ≡ false
  unfolding marked
  none_yet c = rw (zero-at 24 (c / 64), digit-of-zero (c % 64))

  or-none : (p : Bool) → cond p true false ≡ p
  or-none true = refl
  or-none false = refl

  -- Theorem: the words that counting starts from say of each cell whether it is ready
  pub ready-starts : (n : ℕ) (packets positions : List ℕ) → n ≤ 1536 → Ready n flows (book packets unknowns positions (ready_upto flows unknowns n))
  unfolding ready_upto
  ready-starts n packets positions h = record {
    ready-fit = each_keeps (λ ready. length ready ≡ 24) n (with_ready flows unknowns) (replicate 24 0) (length-replicate {A = ℕ} 24 0)
        (λ c ready q e. ready-length c ready e);
    words = each_keeps Words n (with_ready flows unknowns) (replicate 24 0) (λ i. rw (zero-at 24 i) (omega arith))
        (λ c ready q w. ready_words c ready w);
    right = λ c q.
        each_at (λ ready. length ready ≡ 24) marked (λ c p. cond (ready_at flows unknowns c) true p) (λ i. i) (with_ready flows unknowns) n
        (λ i j d e. d e) (λ i ready l e. ready-length i ready e) (λ i ready l e. ready-here i ready (omega arith))
        (λ i ready c l e d. ready-there i c ready d) (replicate 24 0) (length-replicate {A = ℕ} 24 0) c
        ∙ rw (any-yes n (λ i. eqb i c) c q (eq-eqb c c refl), none_yet c) (or-none (ready_at flows unknowns c));
  }

-- ---- the ways a count step on lists ends
module _ (l : Layout) (z : Sizes) (salt n : ℕ) (flows : List ℕ) (b : Book) (rs : Records) where
  abbrev lowest_ready : ℕ
  lowest_ready = first_mark b.ready

  abbrev position_there : ℕ
  position_there = get_or b.positions lowest_ready 0

  abbrev packets_there : ℕ
  packets_there = get_or b.packets lowest_ready 0

  pub data Counting : Counted → Type 0 where
    none-ready : ltb lowest_ready (table_cells l z) ≡ false → Counting (counted (Ok false) b rs)
    miscounted : ltb lowest_ready (table_cells l z) ≡ true → count_damaged l z salt n b.packets rs.keys position_there packets_there ≡ true
        → Counting (counted (Err lowest_ready) b rs)
    made-known : ltb lowest_ready (table_cells l z) ≡ true → count_damaged l z salt n b.packets rs.keys position_there packets_there ≡ false
        → Counting (counted (Ok true) (told_out l z salt (key_at l rs.keys position_there) packets_there position_there flows b)
        (with_count position_there packets_there rs))

  pub counting : Counting (count_of l z salt n flows b rs)
  unfolding count_of count_at
  counting = elim (split (ltb lowest_ready (table_cells l z))) [
    | inr a ↦ rw a (none-ready a)
    | inl a ↦ elim (split (count_damaged l z salt n b.packets rs.keys position_there packets_there)) [
      | inl d ↦ rw (a, d) (miscounted a d)
      | inr d ↦ rw (a, d) (made-known a d)
    ]
  ]

-- ---- what the tests of a count step ask is what the theory asks
pub ready-in : (l : Layout) (z : Sizes) (n : ℕ) (t : Tab) (b : Book) (rs : Records) (c : ℕ) → c < table_cells l z
    → ready_by (noted_of l z n (with_book t b) b.packets rs) c ≡ ready_at t.flows b.unknowns c
unfolding ready_by ready_at cells_of numbers_of below
ready-in l z n t b rs c q = rw (lt-ltb c (table_cells l z) q)

module _ (l : Layout) (z : Sizes) (salt n : ℕ) (t : Tab) (b : Book) (rs : Records) (h : Held l z n (with_book t b) b.packets rs)
    (r : Ready (table_cells l z) t.flows b) (named : Named (table_cells l z) n t.flows b) where
  open h use {lent}
  open lent use {table}
  open table use {lays, ranged}

  abbrev size : ℕ
  size = table_cells l z

  abbrev has : Placement
  has = has_cell l z salt

  abbrev before : Noted
  before = noted_of l z n (with_book t b) b.packets rs

  abbrev first : ℕ
  first = first_mark b.ready

  abbrev position : ℕ
  position = get_or b.positions first 0

  abbrev v : ℕ
  v = get_or b.packets first 0

  abbrev key : Key
  key = key_at l rs.keys position

  bits : size ≤ length b.ready * 64
  bits = omega (arith, r.ready-fit, table-high l z lays ranged)

  -- the words of ready cells say what the theory's test says
  ready-same : (c : ℕ) → c < size → ready_by before c ≡ marked b.ready c
  ready-same c q = ready-in l z n t b rs c q ∙ sym (r.right c q)

  any-ready : any_upto size (ready_by before) ≡ ltb first size
  any-ready = first_any b.ready size r.words bits (ready_by before) ready-same

  exceeds-is : (x : Key) (w : ℕ) → any_upto size (λ c. has x c && ltb (before.session.cells c).packet_count w)
      ≡ exceeds l z salt b.packets w x
  unfolding exceeds cells_of below
  exceeds-is x w =
      any_same size (λ c. has x c && ltb (before.session.cells c).packet_count w) (λ c. has x c && ltb (get_or b.packets c 0) w)
      (λ c q. rw (lt-ltb c size q))
      ∙ sym (any-cell l z salt x lays ranged (λ c. ltb (get_or b.packets c 0) w))

  module _ (a : ltb first size ≡ true) where
    inside : first < size
    inside = ltb-true first size a

    lowest-ready : lowest size (ready_by before) ≡ first
    lowest-ready = first-lowest b.ready size r.words bits (ready_by before) ready-same inside

    position-is : before.notes.positions first ≡ position
    unfolding numbers_of below
    position-is = rw a

    packets-is : (before.session.cells first).packet_count ≡ v
    unfolding cells_of below
    packets-is = rw a

    first-ready : ready_at t.flows b.unknowns first ≡ true
    first-ready =
        sym (r.right first inside) ∙ first-marked b.ready r.words (omega (arith, bits, inside))

    listed-there : position < n
    listed-there = named first inside first-ready

    key-is : (get_or before.session.list position (new_record false [])).key ≡ key
    unfolding record_at
    key-is = ap (λ x. x.key) (list_at n (record_at l rs) (new_record false []) position listed-there)

    damaged-is : theory.count_damaged size has before.session key v ≡ count_damaged l z salt n b.packets rs.keys position v
    unfolding theory.count_damaged count_damaged
    damaged-is = rw (lt-leb n position listed-there, exceeds-is key v)

  -- Theorem: one count step on lists, clean or damaged cells, is the theory's count step
  pub count-is : let p = count_of l z salt n t.flows b rs in
      count_step p.answer (noted_of l z n (with_book t p.cells) p.cells.packets p.list) ≡ count_noted size has before
  count-is = go (counting l z salt n t.flows b rs)
    where
      go : {p : Counted} → Counting l z salt n t.flows b rs p
          → count_step p.answer (noted_of l z n (with_book t p.cells) p.cells.packets p.list) ≡ count_noted size has before
      go (none-ready a) = sym (counted-quiet size has before (any-ready ∙ a))
      go (miscounted a d) = sym (counted-broken size has before (any-ready ∙ a) first position (lowest-ready a) (position-is a)
          key (key-is a) v (packets-is a) (damaged-is a ∙ d))
      go (made-known a d) = ap theory.next (told_is l z salt n t b rs h r key v position (listed-there a))
          ∙ sym (counted-told size has before (any-ready ∙ a) first position (lowest-ready a) (position-is a)
          key (key-is a) v (packets-is a) (damaged-is a ∙ d))
