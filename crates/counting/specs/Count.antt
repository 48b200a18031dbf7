-- One count step, and counting while a cell is ready: 01 'A session', Settle and Damage.
use Rattle.std.specs.Prelude.{Bool, true, false, cond, ◌||◌, List, ℕ, zero, suc, ◌*◌, ◌≤◌, ltb, leb, eqb, get_or, Result, Ok, Err}
use Rattle.layout.specs.declared.Layout.{Layout}
use Rattle.layout.specs.declared.Sizes.{Sizes}
use Rattle.layout.specs.Sizes.{Lays, Ranged, table_cells}
use Rattle.list.specs.Records.{Records, Room, key_at, with_count}
use Rattle.marks.specs.Marks.{first_mark}
use Rattle.counting.specs.Book.{Book, book, Spans, exceeds, told_out, ready_upto}

-- a layout and sizes, room for the cells and for 2 N records, of which n are listed
pub record Fits (l : Layout) (z : Sizes) (n : ℕ) (flows : List ℕ) (b : Book) (rs : Records) : Type 0 where
  pub lays : Lays l
  pub ranged : Ranged z
  pub cells : Spans (table_cells l z) flows b
  pub room : Room l (2 * table_cells l z) rs
  pub listed : n ≤ 2 * table_cells l z

-- ---- one count step

-- what a step says: whether a cell is ready, or 14 with the ready cell
abbrev pub Step : Type 0
Step = Result Bool ℕ

pub record Counted : Type 0 where
  pub answer : Step
  pub cells : Book
  pub list : Records

abbrev pub counted : Step → Book → Records → Counted
counted answer b rs = record { answer = answer; cells = b; list = rs }

-- 01 'A session', Damage: "a count that is 0 or exceeds PacketCount in one of the flow's cells".
-- A position past the listed flows cannot occur in a session that passes the test of 8; it counts as damage too, so that the step is total
unfoldable pub count_damaged : Layout → Sizes → ℕ → ℕ → List ℕ → List ℕ → ℕ → ℕ → Bool
count_damaged l z salt n packets keys position v = leb n position || (eqb v 0 || exceeds l z salt packets v (key_at l keys position))

-- the step from a ready cell, whose one unknown flow stands at a position and has v packets
unfoldable pub count_at : Layout → Sizes → ℕ → ℕ → List ℕ → Book → Records → ℕ → ℕ → ℕ → Counted
count_at l z salt n flows b rs c position v =
    cond (count_damaged l z salt n b.packets rs.keys position v) (counted (Err c) b rs)
    (counted (Ok true) (told_out l z salt (key_at l rs.keys position) v position flows b) (with_count position v rs))

-- 01 'A session', Settle: "the lowest ready cell's PacketCount becomes the count of its one unknown flow"
unfoldable pub count_of : Layout → Sizes → ℕ → ℕ → List ℕ → Book → Records → Counted
count_of l z salt n flows b rs =
    cond (ltb (first_mark b.ready) (table_cells l z))
    (count_at l z salt n flows b rs (first_mark b.ready) (get_or b.positions (first_mark b.ready) 0) (get_or b.packets (first_mark b.ready) 0))
    (counted (Ok false) b rs)

-- ---- counting while a cell is ready

-- how it ends: no cell is ready, or 14 with the ready cell
abbrev pub Stop : Type 0
Stop = Result (Unit {0}) ℕ

pub record Ended : Type 0 where
  pub answer : Stop
  pub packets : List ℕ
  pub unknowns : List ℕ
  pub positions : List ℕ
  pub list : Records

abbrev pub ended : Stop → List ℕ → List ℕ → List ℕ → Records → Ended
ended answer packets unknowns positions rs =
    record { answer = answer; packets = packets; unknowns = unknowns; positions = positions; list = rs }

-- how it ends where the step is not a count
abbrev pub stop_at : Step → Stop
stop_at (Ok more) = Ok tt
stop_at (Err c) = Err c

-- the words of ready cells are dropped at the end
abbrev pub ended_at : Step → Book → Records → Ended
ended_at s b rs = ended (stop_at s) b.packets b.unknowns b.positions rs

-- a count is followed by the next, any other step ends it
unfoldable pub after_count : (Book → Records → Ended) → Step → Book → Records → Ended
after_count more (Ok true) b rs = more b rs
after_count more (Ok false) b rs = ended_at (Ok false) b rs
after_count more (Err c) b rs = ended_at (Err c) b rs

-- at most so many counts
unfoldable pub counts_upto : ℕ → Layout → Sizes → ℕ → ℕ → List ℕ → Book → Records → Ended
counts_upto zero l z salt n flows b rs = ended_at (Ok false) b rs
counts_upto (suc m) l z salt n flows b rs =
    let p = count_of l z salt n flows b rs in
    after_count (counts_upto m l z salt n flows) p.answer p.cells p.list

-- 01 'A session', Settle: "while a cell is ready": each step makes a count known, so n of them are enough for n listed flows
unfoldable pub counts_of : Layout → Sizes → ℕ → ℕ → List ℕ → List ℕ → List ℕ → List ℕ → Records → Ended
counts_of l z salt n flows packets unknowns positions rs =
    counts_upto n l z salt n flows (book packets unknowns positions (ready_upto flows unknowns (table_cells l z))) rs
