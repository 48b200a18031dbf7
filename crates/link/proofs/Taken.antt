-- A key taken out of the lists is the theory's taking out, for any marks and cells; the lists stay fit for the next step.
use mathlib.Core.Path.{◌≡◌, refl, ap, ◌∙◌}
use mathlib.Core.Bool.{Bool, true, false, cond}
use mathlib.Core.List.{List}
use mathlib.Core.Logic.{inl, inr}
use Prim.Native.Nat.{ℕ, ◌+◌, ◌-◌, ◌*◌, ◌<◌}
use native.Mathlib.Nat.{mod-eq_of_lt}
use native.Mathlib.Omega.{arith}
use borrow.Author.Tests.{lt-ltb}
use lib.Bits.{bit_xor}
use lib.ListN.{length, get_or}
use Rattle.laws.specs.Xor.{xor_bytes}
use Rattle.laws.proofs.Bools.{split}
use Rattle.layout.specs.declared.Layout.{Layout}
use Rattle.layout.specs.declared.Sizes.{Sizes}
use Rattle.layout.specs.Sizes.{table_cells}
use Rattle.layout.proofs.Ranges.{table-high}
use Rattle.hash.specs.Places.{has_cell}
use Rattle.hash.proofs.Apart.{has_within}
use Rattle.list.specs.Records.{Records, appended}
use Rattle.list.proofs.Laws.{room-appended}
use Rattle.table.specs.Table.{Tab, taken_out, Spot, spot_at}
use Rattle.table.proofs.Parts.{fit-out}
use Rattle.theory.specs.Encode.{Key, Placement, empty_table}
use Rattle.theory.specs.Session.{Session, pure, take_out}
use Rattle.theory.specs.Notes.{Notes, Noted, note_taken}
use Rattle.link.specs.View.{below, cell, cells_of, session_of, marks_of, numbers_of, notes_of, noted_of, flag_of}
use Rattle.link.specs.Held.{Held, Clear}
use Rattle.link.proofs.Lists.{list-appended}
use Rattle.table.proofs.Spots.{taken, taken-spots, taken-words}
use Rattle.link.proofs.Cells.{below-changed}

pub session-path : {s r : Session} → s.cells ≡ r.cells → s.list ≡ r.list → s ≡ r
session-path a b = λ i. record { cells = a i; list = b i }

pub notes-path : {m o : Notes} → m.marks ≡ o.marks → m.unknowns ≡ o.unknowns → m.positions ≡ o.positions → m ≡ o
notes-path a b c = λ i. record { marks = a i; unknowns = b i; positions = c i }

pub noted-path : {s r : Noted} → s.session ≡ r.session → s.notes ≡ r.notes → s ≡ r
noted-path a b = λ i. record { session = a i; notes = b i }

module _ (l : Layout) (z : Sizes) (salt n : ℕ) (t : Tab) (packets : List ℕ) (rs : Records) (h : Held l z n t packets rs)
    (handed : Bool) (key : Key) (e : length key ≡ l.key) where
  open h use {lent, listed, few}
  open lent use {table, packets-fit, words}
  open table use {lays, ranged}

  abbrev size : ℕ
  size = table_cells l z

  abbrev has : Placement
  has = has_cell l z salt

  abbrev before : Session
  before = session_of l z n t packets rs

  abbrev after : Tab
  after = taken_out l z salt key n t

  inside : (c : ℕ) → has key c ≡ true → c < size
  inside = has_within l z lays ranged salt key

  abbrev taken_there : ℕ → Spot → Spot
  taken_there = taken l z salt key lays ranged n e

  spots : (c : ℕ) → spot_at l after c ≡ cond (has key c) (taken_there c (spot_at l t c)) (spot_at l t c)
  spots = taken-spots l z salt key lays ranged n e t table

  -- ---- what shows of it below N
  module _ {B : Type 0} (show : ℕ → Spot → B) (past : ℕ → B) (changed : ℕ → B → B)
      (shown : (c : ℕ) → has key c ≡ true → show c (taken_there c (spot_at l t c)) ≡ changed c (show c (spot_at l t c))) where
    shows : below size (λ c. show c (spot_at l after c)) past
        ≡ (λ c. cond (has key c) (changed c (below size (λ d. show d (spot_at l t d)) past c)) (below size (λ d. show d (spot_at l t d)) past c))
    shows = below-changed size (has key) inside (spot_at l t) (spot_at l after) taken_there spots show past changed shown

  cells-taken : cells_of l z after.xors after.flows packets ≡ (take_out has handed key before).cells
  unfolding take_out cells_of
  cells-taken = shows (λ c s. cell s.xor s.flow (get_or packets c 0)) (empty_table l.key)
      (λ c w. cell (xor_bytes w.flow_xor key) (w.flow_count - 1) w.packet_count) (λ c q. refl)

  session-taken : n < 2 * size → session_of l z (n + 1) after packets (appended l n key (flag_of handed) rs) ≡ take_out has handed key before
  unfolding take_out
  session-taken room = session-path cells-taken (list-appended l (2 * size) n rs lent.room handed key e room)

  -- the cell that stands there then is pure
  mark-taken : (c : ℕ) → has key c ≡ true → (taken_there c (spot_at l t c)).mark ≡ pure has (take_out has handed key before).cells c
  unfolding take_out pure cells_of below
  mark-taken c q = rw (q, lt-ltb c size (inside c q))

  notes-taken : notes_of size after ≡ note_taken has key n (take_out has handed key before) (notes_of size t)
  unfolding note_taken marks_of numbers_of
  notes-taken = notes-path
      (shows (λ c s. s.mark) (λ c. false) (λ c _. pure has (take_out has handed key before).cells c) mark-taken)
      (shows (λ c s. s.unknown) (λ c. 0) (λ c u. u + 1) (λ c q. mod-eq_of_lt (omega (arith, few c, listed, table-high l z lays ranged))))
      (shows (λ c s. s.position) (λ c. 0) (λ c p. bit_xor p n) (λ c q. refl))

  -- a cell that the key does not have is as it was
  pub others-kept : (c : ℕ) → has key c ≡ false → spot_at l after c ≡ spot_at l t c
  others-kept c q = rw q at (spots c)

  -- bits past the table stay clear
  pub clear-taken : Clear size t.marks → Clear size after.marks
  clear-taken clear c q = elim (split (has key c)) [
    | inl p ↦ absurd (omega (arith, inside c p))
    | inr p ↦ ap (λ s. s.mark) (others-kept c p) ∙ clear c q
  ]

  module _ (room : n < 2 * size) where
    -- Theorem: a key taken out of the lists, where there is room, is taken out of the session, and the notes of its cells are renewed
    pub taken_is : ◌≡◌ {A = Noted} (noted_of l z (n + 1) after packets (appended l n key (flag_of handed) rs))
        (record { session = take_out has handed key before; notes = note_taken has key n (take_out has handed key before) (notes_of size t) })
    taken_is = noted-path (session-taken room) notes-taken

    pub held-taken : Held l z (n + 1) after packets (appended l n key (flag_of handed) rs)
    held-taken = record {
      lent = record {
        table = fit-out l z salt key n t table;
        packets-fit = packets-fit;
        room = room-appended l (2 * size) n key (flag_of handed) rs lent.room;
        words = taken-words l z salt key lays ranged n e t words;
      };
      listed = omega arith;
      few = λ c. elim (split (has key c)) [
        | inl q ↦ rw (ap (λ s. s.unknown) (rw q at (spots c))) (omega (arith, few c))
        | inr q ↦ rw (ap (λ s. s.unknown) (others-kept c q)) (omega (arith, few c))
      ];
    }
