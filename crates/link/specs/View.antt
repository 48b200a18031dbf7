-- The lists of a session as values of the theory: cells, found flows, marks and per-cell numbers.
use Rattle.std.specs.Prelude.{Bool, false, cond, List, ℕ, ltb, get_or}
use Rattle.laws.specs.Upto.{list_upto}
use Rattle.layout.specs.declared.Layout.{Layout}
use Rattle.layout.specs.declared.Sizes.{Sizes}
use Rattle.layout.specs.Sizes.{table_cells}
use Rattle.list.specs.Records.{Records, key_at, is_known, is_handed}
use Rattle.marks.specs.Marks.{marked}
use Rattle.table.specs.Table.{Tab}
use Rattle.theory.specs.Encode.{Cell, Table, empty_table}
use Rattle.theory.specs.Session.{Record, Session}
use Rattle.theory.specs.Notes.{Notes, Noted}

-- one function below n, another from n on
unfoldable pub below : {A : Type 0} → ℕ → (ℕ → A) → (ℕ → A) → ℕ → A
below n f past c = cond (ltb c n) (f c) (past c)

-- 01 'Blocks of 512 bytes': "FlowXOR 13, zero 1, FlowCount 2, PacketCount 4"
abbrev pub cell : List ℕ → ℕ → ℕ → Cell
cell xor flows packets = record { flow_xor = xor; flow_count = flows; packet_count = packets }

-- 01 'Keys and hashing': "There are N = k × s cells"; past them each is empty
unfoldable pub cells_of : Layout → Sizes → List ℕ → List ℕ → List ℕ → Table
cells_of l z xors flows packets =
    below (table_cells l z) (λ c. cell (key_at l xors c) (get_or flows c 0) (get_or packets c 0)) (empty_table l.key)

-- 01 'A session': "flow records, each with key, count, known or unknown, peeled or handed"; the one at position i
unfoldable pub record_at : Layout → Records → ℕ → Record
record_at l rs i = record { key = key_at l rs.keys i; count = get_or rs.counts i 0; known = is_known rs i; handed = is_handed rs i }

-- its flags, where its count is not known: handed over, or peeled
abbrev pub flag_of : Bool → ℕ
flag_of handed = cond handed 2 0

-- the first n, which are listed
abbrev pub records_of : Layout → ℕ → Records → List Record
records_of l n rs = list_upto n (record_at l rs)

abbrev pub session_of : Layout → Sizes → ℕ → Tab → List ℕ → Records → Session
session_of l z n t packets rs = record { cells = cells_of l z t.xors t.flows packets; list = records_of l n rs }

-- 01 'A session': "one bit per cell"; no cell past the table is marked
unfoldable pub marks_of : ℕ → List ℕ → ℕ → Bool
marks_of n words = below n (marked words) (λ c. false)

-- a number per cell; past the table 0
unfoldable pub numbers_of : ℕ → List ℕ → ℕ → ℕ
numbers_of n numbers = below n (λ c. get_or numbers c 0) (λ c. 0)

abbrev pub notes_of : ℕ → Tab → Notes
notes_of n t = record { marks = marks_of n t.marks; unknowns = numbers_of n t.unknowns; positions = numbers_of n t.positions }

-- a session with n flows listed, and its marks and per-cell numbers
abbrev pub noted_of : Layout → Sizes → ℕ → Tab → List ℕ → Records → Noted
noted_of l z n t packets rs = record { session = session_of l z n t packets rs; notes = notes_of (table_cells l z) t }
