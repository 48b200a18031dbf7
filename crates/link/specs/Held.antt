-- What each step needs of the lists, and keeps.
use Rattle.std.specs.Prelude.{◌≡◌, true, false, List, ℕ, ◌*◌, ◌≤◌, ◌<◌, length, get_or}
use Rattle.layout.specs.declared.Layout.{Layout}
use Rattle.layout.specs.declared.Sizes.{Sizes}
use Rattle.layout.specs.Sizes.{table_cells}
use Rattle.list.specs.Records.{Records, Room}
use Rattle.marks.specs.Marks.{Words, marked}
use Rattle.table.specs.Table.{Tab, tab, Fit}
use Rattle.counting.specs.Book.{Book, ready_at}
use Rattle.hash.specs.Places.{has_cell}
use Rattle.theory.specs.Encode.{Distinct}
use Rattle.theory.specs.Session.{keys_of}
use Rattle.theory.specs.Notes.{scan}
use Rattle.link.specs.View.{records_of, session_of, notes_of}

-- lists of the lengths that layout and sizes give, with room for 2 N records, and marks in words of 64 bits
pub record Lent (l : Layout) (z : Sizes) (t : Tab) (packets : List ℕ) (rs : Records) : Type 0 where
  pub table : Fit l z t
  pub packets-fit : length packets ≡ table_cells l z
  pub room : Room l (2 * table_cells l z) rs
  pub words : Words t.marks

-- and n flows are listed, within the room; no cell has more unknown flows than are listed, so that their number, of 16 bits, never wraps
pub record Held (l : Layout) (z : Sizes) (n : ℕ) (t : Tab) (packets : List ℕ) (rs : Records) : Type 0 where
  pub lent : Lent l z t packets rs
  pub listed : n ≤ 2 * table_cells l z
  pub few : (c : ℕ) → get_or t.unknowns c 0 ≤ n

-- 01 'A session': "bits past N are 0"; no step needs it, and each keeps it
abbrev pub Clear : ℕ → List ℕ → Type 0
Clear n words = (c : ℕ) → n ≤ c → marked words c ≡ false

-- the table while counting: its two per-cell numbers are the book's
abbrev pub with_book : Tab → Book → Tab
with_book t b = tab t.xors t.flows b.unknowns b.positions t.marks

-- 24 words of 64 bits say of each cell whether it is ready
pub record Ready (n : ℕ) (flows : List ℕ) (b : Book) : Type 0 where
  pub ready-fit : length b.ready ≡ 24
  pub words : Words b.ready
  pub right : (c : ℕ) → c < n → marked b.ready c ≡ ready_at flows b.unknowns c

-- a ready cell's position is that of one of the n listed flows, as it is where list and cells give the per-cell numbers
abbrev pub Named : ℕ → ℕ → List ℕ → Book → Type 0
Named size n flows b = (c : ℕ) → c < size → ready_at flows b.unknowns c ≡ true → get_or b.positions c 0 < n

-- a session whose notes are right, while its counts are worked out
pub record Sound (l : Layout) (z : Sizes) (salt n : ℕ) (t : Tab) (b : Book) (rs : Records) : Type 0 where
  pub held : Held l z n (with_book t b) b.packets rs
  pub is-ready : Ready (table_cells l z) t.flows b
  pub right : notes_of (table_cells l z) (with_book t b) ≡ scan (has_cell l z salt) (session_of l z n (with_book t b) b.packets rs)
  pub apart : Distinct (keys_of (records_of l n rs))
