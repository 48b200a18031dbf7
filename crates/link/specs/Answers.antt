-- The answers of the steps on lists as the theory has them.
use Rattle.std.specs.Prelude.{◌≡◌, true, false, List, ℕ, Ok, Err}
use Rattle.layout.specs.declared.Layout.{Layout}
use Rattle.layout.specs.declared.Sizes.{Sizes}
use Rattle.layout.specs.Sizes.{table_cells}
use Rattle.hash.specs.Places.{has_cell}
use Rattle.table.specs.Table.{Tab, tab}
use Rattle.peeling.specs.Peel.{Step as PeelStep, Stop as SettleStop, Ended as PeelEnd, listed_at}
use Rattle.counting.specs.Count.{Step as CountStep, Stop as CountStop, Ended as CountEnd}
use Rattle.settling.specs.Settle.{Settled}
use Rattle.theory.specs.Session.{Step, quiet, damaged, next, Stop, settled, damage, Result, Session}
use Rattle.theory.specs.Notes.{Noted, scan}
use Rattle.link.specs.View.{cells_of, records_of, notes_of, noted_of}

-- one peel that left s
abbrev pub peel_step : PeelStep → Noted → Step Noted
peel_step (Ok false) s = quiet
peel_step (Err c) s = damaged c
peel_step (Ok true) s = next s

-- one count step that left s
abbrev pub count_step : CountStep → Noted → Step Noted
count_step (Ok false) s = quiet
count_step (Err c) s = damaged c
count_step (Ok true) s = next s

-- how settling ended
abbrev pub stop_of : SettleStop → Stop
stop_of (Ok n) = settled
stop_of (Err d) = damage d.cell

-- what peeling leaves: how it ended, cells, list, marks and per-cell numbers
abbrev pub ended_as : Layout → Sizes → List ℕ → PeelEnd → Result Noted
ended_as l z packets e = record { state = noted_of l z (listed_at e.answer) e.table packets e.list; stop = stop_of e.answer }

-- and counting, over the table t
abbrev pub count_stop : CountStop → Stop
count_stop (Ok u) = settled
count_stop (Err c) = damage c

abbrev pub counted_as : Layout → Sizes → ℕ → Tab → CountEnd → Result Noted
counted_as l z n t e = record {
  state = noted_of l z n (tab t.xors t.flows e.unknowns e.positions t.marks) e.packets e.list;
  stop = count_stop e.answer;
}

-- and settling: how it ended, cells, list, marks and per-cell numbers
abbrev pub settled_as : Layout → Sizes → Settled → Result Noted
settled_as l z e = record { state = noted_of l z (listed_at e.answer) e.table e.packets e.list; stop = stop_of e.answer }

-- what settling leaves agrees with a result of the theory: how it ended, the list in order, the cells;
-- and each mark and per-cell number is what that list and those cells give
pub record SettlesAs (l : Layout) (z : Sizes) (salt : ℕ) (e : Settled) (r : Result Session) : Type 0 where
  pub answer : stop_of e.answer ≡ r.stop
  pub list : records_of l (listed_at e.answer) e.list ≡ r.state.list
  pub cells : cells_of l z e.table.xors e.table.flows e.packets ≡ r.state.cells
  pub notes : notes_of (table_cells l z) e.table ≡ scan (has_cell l z salt) r.state
