-- Counting while a cell is ready is the theory's, where marks and per-cell numbers are those that cells and list give.
use mathlib.Core.Path.{◌≡◌, refl, sym, ap, ◌∙◌}
use Prim.Native.Nat.{ℕ, zero, suc, ◌<◌}
use native.Mathlib.Omega.{arith}
use lib.ListN.{get_or}
use borrow.Author.Tests.{lt-ltb}
use Rattle.laws.proofs.Upto.{length-list}
use Rattle.layout.specs.declared.Layout.{Layout}
use Rattle.layout.specs.declared.Sizes.{Sizes}
use Rattle.layout.specs.Sizes.{table_cells}
use Rattle.hash.specs.Places.{has_cell}
use Rattle.list.specs.Records.{Records, key_at, with_count}
use Rattle.marks.specs.Marks.{first_mark}
use Rattle.table.specs.Table.{Tab, tab}
use Rattle.counting.specs.Book.{Book, ready_at, told_out}
use Rattle.counting.specs.Count.{Counted, Ended, after_count, count_of, counts_upto}
use Rattle.theory.specs.Encode.{Placement}
use Rattle.theory.specs.Session.{Session, ready, Step, quiet, damaged, next, settled, damage, after_step, repeat}
use Rattle.theory.specs.Session as theory
use Rattle.theory.specs.Notes.{Notes, Noted, positions_in, scan, noted, map_step, map_result, ready_by, count_noted}
use Rattle.theory.proofs.Single.{ready-one}
use Rattle.theory.proofs.Positions.{positions-one}
use Rattle.theory.proofs.Noted.{count-noted, distinct-count}
use Rattle.link.specs.View.{below, record_at, records_of, session_of, numbers_of, noted_of}
use Rattle.link.specs.Held.{Held, Ready, Named, Sound, with_book}
use Rattle.link.specs.Answers.{count_step, counted_as}
use Rattle.link.proofs.Told.{held-told, ready-told}
use Rattle.link.proofs.Count.{Counting, none-ready, miscounted, made-known, counting, ready-in, count-is}

-- the theory's step that a noted one is
bare : (has : Placement) (v : Step Session) → map_step (λ u. u.session) (map_step (noted has) v) ≡ v
bare has quiet = refl
bare has (damaged c) = refl
bare has (next s) = refl

module _ (l : Layout) (z : Sizes) (salt n : ℕ) (t : Tab) where
  abbrev has : Placement
  has = has_cell l z salt

  abbrev session_at : Book → Records → Session
  session_at b rs = session_of l z n (with_book t b) b.packets rs

  abbrev noted_at : Book → Records → Noted
  noted_at b rs = noted_of l z n (with_book t b) b.packets rs

  module _ (b : Book) (rs : Records) (s : Sound l z salt n t b rs) where
    noted-is : noted_at b rs ≡ noted has (session_at b rs)
    noted-is = ap (λ (m : Notes). record { session = session_at b rs; notes = m }) s.right

    -- a ready cell's one unknown flow is a listed one
    position_in : (c : ℕ) → c < table_cells l z → get_or b.positions c 0 ≡ numbers_of (table_cells l z) b.positions c
    unfolding numbers_of below
    position_in c q = rw (lt-ltb c (table_cells l z) q)

    ready-is : (c : ℕ) → c < table_cells l z → ready has (session_at b rs) c ≡ ready_at t.flows b.unknowns c
    unfolding ready ready_by scan
    ready-is c q = sym (ap (λ u. ready_by u c) noted-is) ∙ ready-in l z n t b rs c q

    scan-position : (c : ℕ) → (scan has (session_at b rs)).positions c ≡ positions_in has (records_of l n rs) c
    unfolding scan
    scan-position c = refl

    named : Named (table_cells l z) n t.flows b
    named c q p =
        let one = positions-one (λ k. has k c) 0 (records_of l n rs) (ready-one has (session_at b rs) c (ready-is c q ∙ p)) in
        omega (
          arith,
          position_in c q,
          ap (λ (m : Notes). m.positions c) s.right,
          scan-position c,
          one.1.place,
          one.1.below,
          length-list n (record_at l rs),
        )

    -- one count step is the theory's by looking through all cells
    pub step_is : let p = count_of l z salt n t.flows b rs in
        count_step p.answer (noted_at p.cells p.list) ≡ map_step (noted has) (theory.count_step (table_cells l z) has (session_at b rs))
    step_is = count-is l z salt n t b rs s.held s.is-ready named ∙ ap (count_noted (table_cells l z) has) noted-is
        ∙ count-noted (table_cells l z) has (session_at b rs) s.apart

  -- what is to be shown of at most m counts
  abbrev Counts : ℕ → Type 0
  Counts m = (b : Book) (rs : Records) → Sound l z salt n t b rs
      → counted_as l z n t (counts_upto m l z salt n t.flows b rs)
      ≡ map_result (noted has) (repeat (theory.count_step (table_cells l z) has) m (session_at b rs))

  turn : (m : ℕ) (b : Book) (rs : Records) → Sound l z salt n t b rs → Counts m → (v : Step Session)
      → theory.count_step (table_cells l z) has (session_at b rs) ≡ v → {p : Counted} → Counting l z salt n t.flows b rs p
      → count_step p.answer (noted_at p.cells p.list) ≡ map_step (noted has) v
      → counted_as l z n t (after_count (counts_upto m l z salt n t.flows) p.answer p.cells p.list)
      ≡ map_result (noted has) (after_step (repeat (theory.count_step (table_cells l z) has) m) (session_at b rs) v)
  unfolding after_count after_step
  turn m b rs s more v w (none-ready a) e =
      let is : v ≡ quiet = sym (bare has v) ∙ ap (map_step (λ u. u.session)) (sym e) in
      rw is (ap (λ u. record { state = u; stop = settled }) (noted-is b rs s))
  turn m b rs s more v w (miscounted a d) e =
      let is : v ≡ damaged (first_mark b.ready) = sym (bare has v) ∙ ap (map_step (λ u. u.session)) (sym e) in
      rw is (ap (λ u. record { state = u; stop = damage (first_mark b.ready) }) (noted-is b rs s))
  turn m b rs s more v w (made-known a d) e =
      let j = get_or b.positions (first_mark b.ready) 0 in
      let count = get_or b.packets (first_mark b.ready) 0 in
      let x = key_at l rs.keys j in
      let now = told_out l z salt x count j t.flows b in
      let list = with_count j count rs in
      let is : v ≡ next (session_at now list) = sym (bare has v) ∙ ap (map_step (λ u. u.session)) (sym e) in
      let both : next (noted_at now list) ≡ next (noted has (session_at now list)) = e ∙ ap (map_step (noted has)) is in
      let same : noted_at now list ≡ noted has (session_at now list) = cc in
      rw is (more now list (record {
        held = held-told l z salt n t b rs s.held s.is-ready x count j;
        is-ready = ready-told l z salt n t b rs s.held s.is-ready x count j;
        right = ap (λ (u : Noted). u.notes) same;
        apart = distinct-count (table_cells l z) has (session_at b rs) (session_at now list) s.apart (w ∙ is);
      }))

  -- Theorem: at most m counts on lists are at most m counts of the theory by looking through all cells
  pub counts-is : (m : ℕ) (b : Book) (rs : Records) → Sound l z salt n t b rs
      → counted_as l z n t (counts_upto m l z salt n t.flows b rs)
      ≡ map_result (noted has) (repeat (theory.count_step (table_cells l z) has) m (session_at b rs))
  unfolding counts_upto repeat
  counts-is zero b rs s = ap (λ u. record { state = u; stop = settled }) (noted-is b rs s)
  counts-is (suc m) b rs s =
      turn m b rs s (counts-is m) (theory.count_step (table_cells l z) has (session_at b rs)) refl (counting l z salt n t.flows b rs) (step_is b rs s)

  -- the lists that they leave
  abbrev HeldAt : Ended → Type 0
  HeldAt e = Held l z n (tab t.xors t.flows e.unknowns e.positions t.marks) e.packets e.list

  abbrev Holds : ℕ → Type 0
  Holds m = (b : Book) (rs : Records) → Held l z n (with_book t b) b.packets rs → Ready (table_cells l z) t.flows b
      → HeldAt (counts_upto m l z salt n t.flows b rs)

  turn-held : (m : ℕ) (b : Book) (rs : Records) → Held l z n (with_book t b) b.packets rs → Ready (table_cells l z) t.flows b → Holds m
      → {p : Counted} → Counting l z salt n t.flows b rs p
      → HeldAt (after_count (counts_upto m l z salt n t.flows) p.answer p.cells p.list)
  unfolding after_count
  turn-held m b rs h r more (none-ready a) = h
  turn-held m b rs h r more (miscounted a d) = h
  turn-held m b rs h r more (made-known a d) =
      let j = get_or b.positions (first_mark b.ready) 0 in
      let count = get_or b.packets (first_mark b.ready) 0 in
      let x = key_at l rs.keys j in
      more _ _ (held-told l z salt n t b rs h r x count j) (ready-told l z salt n t b rs h r x count j)

  pub counts-held : (m : ℕ) (b : Book) (rs : Records) → Held l z n (with_book t b) b.packets rs → Ready (table_cells l z) t.flows b
      → HeldAt (counts_upto m l z salt n t.flows b rs)
  unfolding counts_upto
  counts-held zero b rs h r = h
  counts-held (suc m) b rs h r = turn-held m b rs h r (counts-held m) (counting l z salt n t.flows b rs)
