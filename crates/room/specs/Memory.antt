-- The room that is lent for a session: 01 'A session', "the cells and the filter", "a lent list of 2 N flow records", "lent 64-bit words",
-- and for each cell two numbers.
use Rattle.std.specs.Prelude.{◌≡◌, Bool, ◌&&◌, List, ℕ, ◌*◌, eqb, length}
use Rattle.layout.specs.declared.Layout.{Layout}
use Rattle.layout.specs.declared.Sizes.{Sizes}
use Rattle.layout.specs.Sizes.{table_cells, filter_bytes}
use Rattle.list.specs.Records.{Records, Room}
use Rattle.marks.specs.Marks.{words_for}
use Rattle.table.specs.Table.{Tab, Fit}

-- the received filter; FlowXOR and FlowCount of the cells with marks and per-cell numbers; PacketCount; the found flows
pub record Memory : Type 0 where
  pub filter : List ℕ
  pub table : Tab
  pub packets : List ℕ
  pub list : Records

abbrev pub memory : List ℕ → Tab → List ℕ → Records → Memory
memory filter t packets rs = record { filter = filter; table = t; packets = packets; list = rs }

-- the lengths that layout and sizes ask of the cells' lists
unfoldable pub table_fits : Layout → Sizes → Tab → Bool
table_fits l z t =
    eqb (length t.xors) (table_cells l z * l.key) && (eqb (length t.flows) (table_cells l z)
    && (eqb (length t.unknowns) (table_cells l z) && (eqb (length t.positions) (table_cells l z)
    && eqb (length t.marks) (words_for (table_cells l z)))))

-- 01 'A session': "a lent list of 2 N flow records"
unfoldable pub list_fits : Layout → Sizes → Records → Bool
list_fits l z rs =
    eqb (length rs.keys) (2 * table_cells l z * l.key)
    && (eqb (length rs.counts) (2 * table_cells l z) && eqb (length rs.flags) (2 * table_cells l z))

-- 01's table of numbers, 16: "lent room of the wrong length": none is
unfoldable pub room_fits : Layout → Sizes → Memory → Bool
room_fits l z m =
    eqb (length m.filter) (filter_bytes z) && (eqb (length m.packets) (table_cells l z)
    && (table_fits l z m.table && list_fits l z m.list))

-- the same, as facts
pub record Rooms (l : Layout) (z : Sizes) (m : Memory) : Type 0 where
  pub filter-fits : length m.filter ≡ filter_bytes z
  pub packets-fit : length m.packets ≡ table_cells l z
  pub table : Fit l z m.table
  pub room : Room l (2 * table_cells l z) m.list
