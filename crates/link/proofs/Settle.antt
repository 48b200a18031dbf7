-- Settling lists is the theory's settling by looking through all cells, on every session that passes the test of 8.
use mathlib.Core.Path.{◌≡◌, refl, sym, ap, ap₂, ◌∙◌, subst}
use mathlib.Core.Bool.{not, ◌&&◌}
use mathlib.Core.List.{List}
use Prim.Native.Nat.{ℕ, suc, ◌-◌, ◌*◌, ◌≤◌}
use native.Mathlib.Nat.{le_refl}
use native.Mathlib.Decide.{dec_lt}
use native.Mathlib.Omega.{arith}
use borrow.Author.Tests.{lt-ltb}
use lib.Dec.{ltb}
use lib.ListN.{length, get_or, get_or-eq_default}
use Rattle.laws.proofs.Lowest.{number-max}
use Rattle.laws.proofs.Upto.{length-list}
use Rattle.layout.specs.declared.Layout.{Layout}
use Rattle.layout.specs.declared.Sizes.{Sizes}
use Rattle.layout.specs.Sizes.{table_cells}
use Rattle.layout.proofs.Ranges.{table-high}
use Rattle.hash.specs.Places.{has_cell}
use Rattle.list.specs.Records.{Records}
use Rattle.table.specs.Table.{Tab, tab}
use Rattle.std.specs.Prelude.{Ok, Err}
use Rattle.peeling.specs.Peel.{Stop, peels_of, listed_at}
use Rattle.counting.specs.Book.{Book, book, ready_upto}
use Rattle.counting.specs.Count.{Ended, counts_of}
use Rattle.counting.specs.Count as counting
use Rattle.settling.specs.Settle.{stop_after, after_counts, then_counts, settle_of}
use Rattle.theory.specs.Encode.{Distinct, Placement}
use Rattle.theory.specs.Session.{Session, keys_of, unknowns_of, unknowns_in, open_cells, Result, repeat, peel_pure, count_step, peels, settle}
use Rattle.theory.specs.Session as theory
use Rattle.theory.specs.Notes.{Notes, Noted, scan, noted, map_result, peel_noted, settle_noted}
use Rattle.theory.specs.Proper.{Proper}
use Rattle.theory.proofs.Records.{list-parts}
use Rattle.theory.proofs.Repeat.{repeat-map}
use Rattle.theory.proofs.Steps.{peel-falls, peel-idle, count-falls, count-idle}
use Rattle.theory.proofs.Settle.{peels-keep}
use Rattle.theory.proofs.Noted.{peel-noted, distinct-peel, distinct-count}
use Rattle.theory.proofs.Proper.{proper-settles, settle-proper}
use Rattle.link.specs.View.{below, record_at, records_of, session_of, numbers_of, notes_of, noted_of}
use Rattle.link.specs.Held.{Lent, Held, Clear, Ready}
use Rattle.link.specs.Answers.{stop_of, ended_as, count_stop, counted_as, settled_as, SettlesAs}
use Rattle.link.proofs.Given.{where-number, passing-number}
use Rattle.link.proofs.Peel.{HeldWell, peels-is, peels-held, peels-clear}
use Rattle.link.proofs.Test8.{proper-bounded}
use Rattle.link.proofs.Count.{ready-starts}
use Rattle.link.proofs.Counts.{counts-is, counts-held}
use Rattle.link.proofs.Fuel.{fuel-same}

-- ---- no cell has more unknown flows than are listed
pub unknowns-le : (l : Layout) (n : ℕ) (rs : Records) → length (unknowns_of (records_of l n rs)) ≤ n
unknowns-le l n rs = rw (where-number (λ r. not r.known) (record_at l rs) n) (number-max n (λ i. not (record_at l rs i).known))

module _ (l : Layout) (z : Sizes) (salt n : ℕ) (t : Tab) (packets : List ℕ) (rs : Records) (lent : Lent l z t packets rs)
    (proper : Proper (table_cells l z) (has_cell l z salt) (noted_of l z n t packets rs)) where
  few-in : (c : ℕ) → numbers_of (table_cells l z) t.unknowns c ≤ n
  unfolding scan
  few-in c =
      let r : numbers_of (table_cells l z) t.unknowns c ≡ unknowns_in (has_cell l z salt) (records_of l n rs) c =
      ap (λ (m : Notes). m.unknowns c) proper.right in
      rw (r, passing-number (λ r. not r.known) (record_at l rs) (λ k. has_cell l z salt k c) n)
      (number-max n (λ i. not (record_at l rs i).known && has_cell l z salt (record_at l rs i).key c))

  few-at : (c : ℕ) → get_or t.unknowns c 0 ≤ n
  unfolding numbers_of below
  few-at c = elim (dec_lt c (table_cells l z)) [
    | yes q ↦ rw (lt-ltb c (table_cells l z) q) at (few-in c)
    | no q ↦ rw (get_or-eq_default t.unknowns 0 {n = c} (omega (arith, lent.table.unknowns-fit))) (omega arith)
  ]

  -- a session that passes the test of 8 gives each step what it needs
  pub proper-held : Held l z n t packets rs
  proper-held = record { lent = lent; listed = omega (arith, proper.room, length-list n (record_at l rs)); few = few-at }

-- ---- counting, after peeling
stop-listed : (n : ℕ) (a : counting.Stop) → listed_at (stop_after n a) ≡ n
stop-listed n (Ok u) = refl
stop-listed n (Err c) = refl

stop-same : (n : ℕ) (a : counting.Stop) → stop_of (stop_after n a) ≡ count_stop a
stop-same n (Ok u) = refl
stop-same n (Err c) = refl

module _ (l : Layout) (z : Sizes) (salt : ℕ) (packets : List ℕ) (t : Tab) (rs : Records) (seen : List ℕ) where
  abbrev has : Placement
  has = has_cell l z salt

  abbrev pub started : Book
  started = book packets t.unknowns t.positions (ready_upto t.flows t.unknowns (table_cells l z))

  pub starts : (n : ℕ) → Held l z n t packets rs → Ready (table_cells l z) t.flows started
  starts n h = ready-starts t.flows t.unknowns (table_cells l z) packets t.positions
      (table-high l z h.lent.table.lays h.lent.table.ranged)

  counted_is : (n : ℕ) (e : Ended) → settled_as l z (after_counts n t seen e) ≡ counted_as l z n t e
  unfolding after_counts
  counted_is n e = ap₂ (λ m a. record {
    state = noted_of l z m (tab t.xors t.flows e.unknowns e.positions t.marks) e.packets e.list;
    stop = a;
  }) (stop-listed n e.answer) (stop-same n e.answer)

  abbrev stopped : ℕ → theory.Stop → Notes → Result Noted
  stopped n stop notes = record { state = record { session = session_of l z n t packets rs; notes = notes }; stop = stop }

  then_is : (a : Stop) → Held l z (listed_at a) t packets rs
      → notes_of (table_cells l z) t ≡ scan has (session_of l z (listed_at a) t packets rs) → Distinct (keys_of (records_of l (listed_at a) rs))
      → settled_as l z (then_counts l z salt packets t rs seen a)
      ≡ map_result (noted has) (theory.then_counts (table_cells l z) has (session_of l z (listed_at a) t packets rs) (stop_of a))
  unfolding then_counts theory.then_counts counts_of
  then_is (Ok n) h right apart =
      let s = session_of l z n t packets rs in
      counted_is n _ ∙ counts-is l z salt n t n started rs (record { held = h; is-ready = starts n h; right = right; apart = apart })
      ∙ ap (map_result (noted has)) (fuel-same (count_step (table_cells l z) has) (λ u. length (unknowns_of u.list))
      (count-falls (table_cells l z) has) (count-idle (table_cells l z) has) n (length (unknowns_of s.list)) s
      (unknowns-le l n rs) (le_refl _))
  then_is (Err d) h right apart = ap (stopped d.listed (theory.damage d.cell)) right

  then-held : (a : Stop) → Held l z (listed_at a) t packets rs → let e = then_counts l z salt packets t rs seen a in
      Held l z (listed_at e.answer) e.table e.packets e.list
  unfolding then_counts counts_of after_counts
  then-held (Ok n) h =
      let e = counts_of l z salt n t.flows packets t.unknowns t.positions rs in
      subst (λ m. Held l z m (tab t.xors t.flows e.unknowns e.positions t.marks) e.packets e.list)
      (sym (stop-listed n e.answer)) (counts-held l z salt n t n started rs h (starts n h))
  then-held (Err d) h = h

  -- counting leaves the marks
  then-marks : (a : Stop) → (then_counts l z salt packets t rs seen a).table.marks ≡ t.marks
  unfolding then_counts after_counts
  then-marks (Ok n) = refl
  then-marks (Err d) = refl

-- ---- settling
module _ (l : Layout) (z : Sizes) (salt n : ℕ) (t : Tab) (packets : List ℕ) (rs : Records) (seen : List ℕ) (lent : Lent l z t packets rs)
    (proper : Proper (table_cells l z) (has_cell l z salt) (noted_of l z n t packets rs)) where
  abbrev size : ℕ
  size = table_cells l z

  abbrev before : Session
  before = session_of l z n t packets rs

  held-well : HeldWell l z salt n t packets rs
  held-well = (proper-held l z salt n t packets rs lent proper, proper-bounded l z salt n t packets rs lent proper)

  -- the list's room is fuel enough: each peel closes a cell, and open cells and listed flows are no more than 2 N together
  open-room : open_cells size before.cells ≤ suc (2 * size - n)
  open-room = omega (arith, list-parts before.list, length-list n (record_at l rs), proper.fits.handed-room, proper.fits.peeled-room)

  -- peeling by the marks, with the list's room for fuel, is peeling by looking through all cells
  pub peels-scan : ended_as l z packets (peels_of l z salt n t rs seen) ≡ map_result (noted (has_cell l z salt)) (peels size (has_cell l z salt) before)
  unfolding peels_of
  peels-scan =
      let has = has_cell l z salt in
      let m = suc (2 * size - n) in
      peels-is l z salt packets m n t rs seen held-well
      ∙ ap (λ (u : Notes). repeat (peel_noted size has) m (record { session = before; notes = u })) proper.right
      ∙ repeat-map (peel_pure size has) (peel_noted size has) (noted has) (λ u. Distinct (keys_of u.list)) (distinct-peel size has)
      (λ u _. peel-noted size has u) m before proper.apart
      ∙ ap (map_result (noted has)) (fuel-same (peel_pure size has) (λ u. open_cells size u.cells) (peel-falls size has) (peel-idle size has)
      m size before open-room (unfold open_cells in number-max size (λ c. ltb 0 (before.cells c).flow_count)))

  peeled-held : let p = peels_of l z salt n t rs seen in Held l z (listed_at p.answer) p.table packets p.list
  unfolding peels_of
  peeled-held = (peels-held l z salt n t packets rs held-well seen (suc (2 * size - n))).0

  -- Theorem: what settling the lists leaves is what settling by looking through all cells leaves,
  -- and marks and per-cell numbers are those that its cells and list give
  pub settle_is : settled_as l z (settle_of l z salt n t packets rs seen) ≡ map_result (noted (has_cell l z salt)) (settle size (has_cell l z salt) before)
  unfolding settle_of settle
  settle_is =
      let has = has_cell l z salt in
      let p = peels_of l z salt n t rs seen in
      let session-is = ap (λ (r : Result Noted). r.state.session) peels-scan in
      let notes-are : notes_of size p.table ≡ scan has (session_of l z (listed_at p.answer) p.table packets p.list) =
      ap (λ (r : Result Noted). r.state.notes) peels-scan ∙ ap (scan has) (sym session-is) in
      let apart = subst (λ (s : Session). Distinct (keys_of s.list)) (sym session-is)
      (peels-keep size has (λ u. Distinct (keys_of u.list)) (distinct-peel size has) (distinct-count size has) before proper.apart) in
      then_is l z salt packets p.table p.list p.seen p.answer peeled-held notes-are apart
      ∙ ap₂ (λ s a. map_result (noted has) (theory.then_counts size has s a)) session-is (ap (λ (r : Result Noted). r.stop) peels-scan)

  -- Theorem: so it ends as that does, with the same list and cells, and with right marks and per-cell numbers
  pub settles-as : SettlesAs l z salt (settle_of l z salt n t packets rs seen) (settle size (has_cell l z salt) before)
  settles-as = record {
    answer = ap (λ (r : Result Noted). r.stop) settle_is;
    list = ap (λ (r : Result Noted). r.state.session.list) settle_is;
    cells = ap (λ (r : Result Noted). r.state.session.cells) settle_is;
    notes = ap (λ (r : Result Noted). r.state.notes) settle_is;
  }

  -- Theorem: it is also settling by the marks and per-cell numbers that stand there
  pub settle-noted : settled_as l z (settle_of l z salt n t packets rs seen) ≡ settle_noted size (has_cell l z salt) (noted_of l z n t packets rs)
  settle-noted = settle_is ∙ sym (proper-settles size (has_cell l z salt) (noted_of l z n t packets rs) proper)

  pub settle-held : let e = settle_of l z salt n t packets rs seen in Held l z (listed_at e.answer) e.table e.packets e.list
  unfolding settle_of
  settle-held = let p = peels_of l z salt n t rs seen in then-held l z salt packets p.table p.list p.seen p.answer peeled-held

  pub settle-clear : Clear size t.marks → Clear size (settle_of l z salt n t packets rs seen).table.marks
  unfolding settle_of peels_of
  settle-clear c = let p = peels_of l z salt n t rs seen in
      subst (Clear size) (sym (then-marks l z salt packets p.table p.list p.seen p.answer))
      (peels-clear l z salt n t packets rs held-well seen (suc (2 * size - n)) c)

  -- Theorem: and the session passes the test again
  pub settled-proper : let e = settle_of l z salt n t packets rs seen in
      Proper size (has_cell l z salt) (noted_of l z (listed_at e.answer) e.table e.packets e.list)
  settled-proper = subst (λ (r : Result Noted). Proper size (has_cell l z salt) r.state) (sym settle-noted)
      (settle-proper size (has_cell l z salt) (noted_of l z n t packets rs) proper)
