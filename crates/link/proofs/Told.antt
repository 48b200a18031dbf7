-- A count made known in the lists is the theory's, for any marks and cells; the lists and the words of ready cells stay fit for the next step.
use mathlib.Core.Path.{◌≡◌, refl, ap, ◌∙◌}
use mathlib.Core.Bool.{Bool, true, cond, ◌&&◌}
use mathlib.Core.List.{List}
use mathlib.Core.Logic.{inl, inr}
use Prim.Native.Nat.{ℕ, ◌-◌, ◌*◌, ◌<◌}
use native.Mathlib.Omega.{arith}
use lib.Bits.{bit_xor}
use lib.Dec.{eqb}
use lib.ListN.{get_or, set, length-set, length}
use lib.Seq.{get_or-set_same, get_or-set_other}
use Rattle.laws.proofs.Bools.{split}
use Rattle.laws.proofs.Upto.{each_keeps, each_at}
use Rattle.layout.specs.declared.Layout.{Layout}
use Rattle.layout.specs.declared.Sizes.{Sizes}
use Rattle.layout.specs.Sizes.{table_cells, Lays, Ranged}
use Rattle.layout.proofs.Ranges.{table-high}
use Rattle.hash.specs.Places.{cell_of, has_cell}
use Rattle.hash.proofs.Apart.{cell-within, cells-differ, has_within}
use Rattle.list.specs.Records.{Records, key_at, with_count}
use Rattle.list.proofs.Laws.{room-told}
use Rattle.marks.specs.Marks.{Words, marked}
use Rattle.marks.proofs.Laws.{length-put, marked-same, marked_other, words-put}
use Rattle.table.specs.Table.{Tab}
use Rattle.counting.specs.Book.{Book, ready_at, told_at, told_out}
use Rattle.theory.specs.Encode.{Key, Placement, empty_table}
use Rattle.theory.specs.Session.{set_count}
use Rattle.theory.specs.Notes.{Noted, note_told, tell_at}
use Rattle.link.specs.View.{below, cell, cells_of, numbers_of, notes_of, noted_of}
use Rattle.link.specs.Held.{Held, Ready, with_book}
use Rattle.link.proofs.Cells.{below-changed}
use Rattle.link.proofs.Lists.{list-told}
use Rattle.link.proofs.Taken.{session-path, notes-path, noted-path}

-- a layout and sizes, and a book of the lengths that they give
pub record Fit (l : Layout) (z : Sizes) (flows : List ℕ) (b : Book) : Type 0 where
  pub lays : Lays l
  pub ranged : Ranged z
  pub flows-fit : length flows ≡ table_cells l z
  pub packets-fit : length b.packets ≡ table_cells l z
  pub unknowns-fit : length b.unknowns ≡ table_cells l z
  pub positions-fit : length b.positions ≡ table_cells l z
  pub ready-fit : length b.ready ≡ 24

-- ---- what is seen at a cell
record Entry : Type 0 where
  pub packet : ℕ
  pub unknown : ℕ
  pub position : ℕ
  pub ready : Bool

abbrev entry_at : Book → ℕ → Entry
entry_at b c = record {
  packet = get_or b.packets c 0;
  unknown = get_or b.unknowns c 0;
  position = get_or b.positions c 0;
  ready = marked b.ready c;
}

entry-path : {s r : Entry} → s.packet ≡ r.packet → s.unknown ≡ r.unknown → s.position ≡ r.position → s.ready ≡ r.ready → s ≡ r
entry-path a b c d = λ i. record { packet = a i; unknown = b i; position = c i; ready = d i }

module _ (l : Layout) (z : Sizes) (v position : ℕ) (flows : List ℕ) where
  abbrev told : ℕ → Entry → Entry
  told c s = record {
    packet = s.packet - v;
    unknown = s.unknown - 1;
    position = bit_xor s.position position;
    ready = eqb (get_or flows c 0) 0 && eqb (s.unknown - 1) 1;
  }

  fit-told-at : (c : ℕ) (b : Book) → Fit l z flows b → Fit l z flows (told_at v position flows c b)
  unfolding told_at
  fit-told-at c b f = record {
    lays = f.lays;
    ranged = f.ranged;
    flows-fit = f.flows-fit;
    packets-fit = length-set b.packets c (get_or b.packets c 0 - v) ∙ f.packets-fit;
    unknowns-fit = length-set b.unknowns c (get_or b.unknowns c 0 - 1) ∙ f.unknowns-fit;
    positions-fit = length-set b.positions c (bit_xor (get_or b.positions c 0) position) ∙ f.positions-fit;
    ready-fit = length-put b.ready c (ready_at flows (set b.unknowns c (get_or b.unknowns c 0 - 1)) c) ∙ f.ready-fit;
  }

  told_here : (b : Book) → Fit l z flows b → (c : ℕ) → c < table_cells l z → entry_at (told_at v position flows c b) c ≡ told c (entry_at b c)
  unfolding told_at ready_at
  told_here b f c h =
      let unknown = get_or-set_same b.unknowns c (get_or b.unknowns c 0 - 1) 0 (omega (arith, f.unknowns-fit)) in
      entry-path
      (get_or-set_same b.packets c (get_or b.packets c 0 - v) 0 (omega (arith, f.packets-fit)))
      unknown
      (get_or-set_same b.positions c (bit_xor (get_or b.positions c 0) position) 0 (omega (arith, f.positions-fit)))
      (marked-same b.ready c _ (omega (arith, f.ready-fit, table-high l z f.lays f.ranged)) ∙ rw unknown)

  told-there : (b : Book) (c j : ℕ) → (j ≡ c → ⊥) → entry_at (told_at v position flows c b) j ≡ entry_at b j
  unfolding told_at
  told-there b c j d = entry-path
      (get_or-set_other b.packets c j (get_or b.packets c 0 - v) 0 d)
      (get_or-set_other b.unknowns c j (get_or b.unknowns c 0 - 1) 0 d)
      (get_or-set_other b.positions c j (bit_xor (get_or b.positions c 0) position) 0 d)
      (marked_other b.ready c (ready_at flows (set b.unknowns c (get_or b.unknowns c 0 - 1)) c) j d)

  module _ (salt : ℕ) (key : Key) (b : Book) (f : Fit l z flows b) where
    -- 01 'A session': "is subtracted from that flow's k cells", and leaves all other cells
    told_entries : (c : ℕ) → entry_at (told_out l z salt key v position flows b) c ≡ cond (has_cell l z salt key c) (told c (entry_at b c)) (entry_at b c)
    unfolding told_out has_cell
    told_entries = each_at (Fit l z flows) entry_at told (cell_of l z salt key) (λ i. told_at v position flows (cell_of l z salt key i)) z.k
        (cells-differ l z f.lays f.ranged salt key)
        (λ i a h g. fit-told-at (cell_of l z salt key i) a g)
        (λ i a h g. told_here a g (cell_of l z salt key i) (cell-within l z f.lays f.ranged salt key i h))
        (λ i a c h g d. told-there a (cell_of l z salt key i) c d)
        b f

    fit-told : Fit l z flows (told_out l z salt key v position flows b)
    unfolding told_out
    fit-told = each_keeps (Fit l z flows) z.k (λ i. told_at v position flows (cell_of l z salt key i)) b f
        (λ i a h g. fit-told-at (cell_of l z salt key i) a g)

    words-told : Words b.ready → Words (told_out l z salt key v position flows b).ready
    unfolding told_out told_at
    words-told w = each_keeps (λ a. Words a.ready) z.k (λ i. told_at v position flows (cell_of l z salt key i)) b w
        (λ i a h g. words-put a.ready (cell_of l z salt key i) _ g)

-- the book's lists have the lengths of the table's
pub book-fits : (l : Layout) (z : Sizes) (n : ℕ) (t : Tab) (b : Book) (rs : Records) → Held l z n (with_book t b) b.packets rs
    → Ready (table_cells l z) t.flows b → Fit l z t.flows b
book-fits l z n t b rs h r = record {
  lays = h.lent.table.lays;
  ranged = h.lent.table.ranged;
  flows-fit = h.lent.table.flows-fit;
  packets-fit = h.lent.packets-fit;
  unknowns-fit = h.lent.table.unknowns-fit;
  positions-fit = h.lent.table.positions-fit;
  ready-fit = r.ready-fit;
}

module _ (l : Layout) (z : Sizes) (salt n : ℕ) (t : Tab) (b : Book) (rs : Records) (h : Held l z n (with_book t b) b.packets rs)
    (r : Ready (table_cells l z) t.flows b) (key : Key) (v j : ℕ) where
  open h use {lent, listed, few}
  open lent use {table, words}
  open table use {lays, ranged, xors-fit, marks-fit}

  abbrev size : ℕ
  size = table_cells l z

  abbrev has : Placement
  has = has_cell l z salt

  abbrev before : Noted
  before = noted_of l z n (with_book t b) b.packets rs

  abbrev after : Book
  after = told_out l z salt key v j t.flows b

  fits : Fit l z t.flows b
  fits = book-fits l z n t b rs h r

  abbrev told_there : ℕ → Entry → Entry
  told_there = told l z v j t.flows

  entries : (c : ℕ) → entry_at after c ≡ cond (has key c) (told_there c (entry_at b c)) (entry_at b c)
  entries = told_entries l z v j t.flows salt key b fits

  -- ---- what shows of it below N
  module _ {B : Type 0} (show : ℕ → Entry → B) (past : ℕ → B) (changed : ℕ → B → B)
      (shown : (c : ℕ) → has key c ≡ true → show c (told_there c (entry_at b c)) ≡ changed c (show c (entry_at b c))) where
    shows : below size (λ c. show c (entry_at after c)) past
        ≡ (λ c. cond (has key c) (changed c (below size (λ d. show d (entry_at b d)) past c)) (below size (λ d. show d (entry_at b d)) past c))
    shows = below-changed size (has key) (has_within l z lays ranged salt key) (entry_at b) (entry_at after) told_there entries show past changed shown

  cells_told : cells_of l z t.xors t.flows after.packets ≡ (set_count has key v before.session).cells
  unfolding set_count cells_of
  cells_told = shows (λ c s. cell (key_at l t.xors c) (get_or t.flows c 0) s.packet) (empty_table l.key)
      (λ c w. cell w.flow_xor w.flow_count (w.packet_count - v)) (λ c q. refl)

  notes-told : notes_of size (with_book t after) ≡ note_told has key j before.notes
  unfolding note_told numbers_of
  notes-told = notes-path refl
      (shows (λ c s. s.unknown) (λ c. 0) (λ c u. u - 1) (λ c q. refl)) (shows (λ c s. s.position) (λ c. 0) (λ c p. bit_xor p j) (λ c q. refl))

  -- Theorem: v packets of the flow at position j taken out of the lists are taken out of the session, and the notes of its cells are renewed
  pub told_is : j < n → ◌≡◌ {A = Noted} (noted_of l z n (with_book t after) after.packets (with_count j v rs)) (record {
    session = record { cells = (set_count has key v before.session).cells; list = tell_at j v before.session.list };
    notes = note_told has key j before.notes;
  })
  told_is q = noted-path (session-path cells_told (list-told l (2 * size) n rs lent.room j v q listed)) notes-told

  pub held-told : Held l z n (with_book t after) after.packets (with_count j v rs)
  held-told = let f = fit-told l z v j t.flows salt key b fits in record {
    lent = record {
      table = record {
        lays = lays;
        ranged = ranged;
        xors-fit = xors-fit;
        flows-fit = f.flows-fit;
        unknowns-fit = f.unknowns-fit;
        positions-fit = f.positions-fit;
        marks-fit = marks-fit;
      };
      packets-fit = f.packets-fit;
      room = room-told l (2 * size) j v rs lent.room;
      words = words;
    };
    listed = listed;
    few = λ c. elim (split (has key c)) [
      | inl q ↦ rw (ap (λ s. s.unknown) (rw q at (entries c))) (omega (arith, few c))
      | inr q ↦ rw (ap (λ s. s.unknown) (rw q at (entries c))) (few c)
    ];
  }

  pub ready-told : Ready size t.flows after
  unfolding ready_at
  ready-told = record {
    ready-fit = (fit-told l z v j t.flows salt key b fits).ready-fit;
    words = words-told l z v j t.flows salt key b fits r.words;
    right = λ c q. elim (split (has key c)) [
      | inl p ↦ (let s = rw p at (entries c) in rw (ap (λ u. u.unknown) s) (ap (λ u. u.ready) s))
      | inr p ↦ (let s = rw p at (entries c) in rw (ap (λ u. u.unknown) s) (ap (λ u. u.ready) s ∙ r.right c q))
    ];
  }
