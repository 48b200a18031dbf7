-- The printing program's output as a function of its standard input: 01 'Printing program'.
use Rattle.std.specs.Prelude.{◌≡◌, cond, List, ◌++◌, ℕ, ◌+◌, ◌*◌, ltb, length, get_or, drop, Result, Ok, Err}
use Rattle.std.specs.Bool.{then_some}
use Rattle.laws.specs.Upto.{join_upto}
use Rattle.layout.specs.declared.Sizes.{Sizes}
use Rattle.layout.specs.Sizes.{ipv4_layout}
use Rattle.fields.specs.Field.{field}
use Rattle.packet.specs.Key.{key_from}
use Rattle.list.specs.Records.{Records, key_at, is_known}
use Rattle.reading.specs.declared.ReadError.{ReadError}
use Rattle.reading.specs.declared.Image.{Image}
use Rattle.reading.specs.Read.{read_of, read_number}
use Rattle.room.specs.declared.Session.{Session}
use Rattle.room.specs.Memory.{Memory}
use Rattle.opening.specs.Open.{opened_memory}
use Rattle.session.specs.declared.SettleError.{SettleError}
use Rattle.session.specs.Calls.{settle_of, settle_number}
use Rattle.summary.specs.Report.{report_of}
use Rattle.lines.specs.Text.{flow_line, head_line, refused_line}

-- the most that is written: a first line of at most 61 bytes, and at most 3,072 lines of at most 59
abbrev pub most_written : ℕ
most_written = 61 + 3072 * 59

-- the line of record i
unfoldable pub record_line : Records → ℕ → List ℕ
record_line rs i = flow_line (key_from (key_at ipv4_layout rs.keys i)) (then_some (is_known rs i) (get_or rs.counts i 0))

-- 01 'Printing program': "a line of slot, salt, listed, counted, open and state; then per listed flow, in list order: .."; n flows are listed
unfoldable pub listed_lines : ℕ → ℕ → ℕ → List ℕ → List ℕ → List ℕ → Records → List ℕ
listed_lines slot salt n xors flows packets rs =
    head_line slot salt (report_of n xors flows packets rs.flags) ++ join_upto n (record_line rs)

-- of lent room
abbrev pub room_lines : ℕ → ℕ → ℕ → Memory → List ℕ
room_lines slot salt n m = listed_lines slot salt n m.table.xors m.table.flows m.packets m.list

-- 01 'Printing program': "A refusal, 14 too, prints only `refused` and the number"; by what settling answers and leaves
unfoldable pub settled_lines : ℕ → ℕ → Memory → Result ℕ SettleError → List ℕ
settled_lines slot salt m (Ok n) = room_lines slot salt n m
settled_lines slot salt m (Err e) = refused_line (settle_number (Err e))

-- 01 'Printing program': "settles, and prints"
unfoldable pub session_lines : Session → Memory → List ℕ
session_lines s m = let e = settle_of ipv4_layout s m in settled_lines s.slot s.salt e.room e.answer

-- 01 'Printing program': "It opens"; by what reading answers
unfoldable pub read_lines : ℕ → List ℕ → Result Image ReadError → List ℕ
read_lines slot image (Ok i) =
    session_lines (record { sizes = i.sizes; salt = i.salt; slot = slot; listed = 0 }) (opened_memory ipv4_layout i.sizes i.salt image)
read_lines slot image (Err e) = refused_line (read_number (Err e))

-- the lines of an image that is wanted of a slot
unfoldable pub image_lines : ℕ → List ℕ → List ℕ
image_lines slot image = read_lines slot image (read_of ipv4_layout image slot)

-- 01 'Printing program': "standard input is the wanted slot (4 bytes; fewer is 1), then the image"
unfoldable pub printed : List ℕ → List ℕ
printed input = cond (ltb (length input) 4) (refused_line 1) (image_lines (field 4 input 0) (drop 4 input))

-- the sizes by which room is made: the image's, and the least where none is read
abbrev pub least_sizes : Sizes
least_sizes = record { kf = 1; f = 1; k = 2; q = 1 }

abbrev pub sizes_read : Result Image ReadError → Sizes
sizes_read (Ok i) = i.sizes
sizes_read (Err e) = least_sizes

-- room for an image of any sizes: 01 'Keys and hashing', "F from 1 to 16 filter blocks", "at most 1,536" cells; 'A session', 2 N records
pub record Largest (m : Memory) : Type 0 where
  pub filter : length m.filter ≡ 7680
  pub xors : length m.table.xors ≡ 19968
  pub flows : length m.table.flows ≡ 1536
  pub unknowns : length m.table.unknowns ≡ 1536
  pub positions : length m.table.positions ≡ 1536
  pub marks : length m.table.marks ≡ 24
  pub packets : length m.packets ≡ 1536
  pub keys : length m.list.keys ≡ 39936
  pub counts : length m.list.counts ≡ 3072
  pub flags : length m.list.flags ≡ 3072
