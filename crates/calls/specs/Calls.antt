-- The calls on a session whose found flows are a slice of records: 01 'A session', "a lent list of 2 N flow records". What each call does is what
-- the session's definitions say of the list taken apart, put together again.
use Rattle.std.specs.Prelude.{◌≡◌, cond, List, ◌++◌, ℕ, ◌*◌, leb, length, take, drop, Result}
use Rattle.layout.specs.Sizes.{ipv4_layout}
use Rattle.list.specs.Records.{Records, records}
use Rattle.packet.specs.declared.Key.{Key}
use Rattle.packet.specs.Key.{key_bytes}
use Rattle.table.specs.Table.{Tab}
use Rattle.room.specs.Memory.{Memory, memory}
use Rattle.opening.specs.declared.OpenError.{OpenError}
use Rattle.room.specs.declared.Session.{Session}
use Rattle.opening.specs.Open.{open_of}
use Rattle.session.specs.declared.HandOverError.{HandOverError}
use Rattle.session.specs.declared.SettleError.{SettleError}
use Rattle.session.specs.declared.SessionError.{SessionError}
use Rattle.summary.specs.declared.Report.{Report}
use Rattle.session.specs.Calls.{hand_over, settle_of, report_on}
use Rattle.records.specs.declared.Record.{Record}
use Rattle.records.specs.Record.{apart, together}

-- ---- the lent room with the found flows as records
pub record Lent : Type 0 where
  pub filter : List ℕ
  pub table : Tab
  pub packets : List ℕ
  pub list : List Record

abbrev pub lent : List ℕ → Tab → List ℕ → List Record → Lent
lent filter t packets list = record { filter = filter; table = t; packets = packets; list = list }

-- the same room with the found flows as numbers, and back
abbrev pub as_numbers : Lent → Memory
as_numbers m = memory m.filter m.table m.packets (apart m.list)

abbrev pub as_records : Memory → Lent
as_records m = lent m.filter m.table m.packets (together m.list)

-- what a call answers, and the lent room afterwards: over numbers, and over records
pub record Ran (A : Type 0) : Type 0 where
  pub answer : A
  pub room : Memory

abbrev pub ran : {A : Type 0} → A → Memory → Ran A
ran answer m = record { answer = answer; room = m }

pub record Called (A : Type 0) : Type 0 where
  pub answer : A
  pub room : Lent

abbrev pub called : {A : Type 0} → A → Lent → Called A
called answer m = record { answer = answer; room = m }

-- a call over numbers as a call over records
unfoldable pub over_records : {A : Type 0} → (Memory → Ran A) → Lent → Called A
over_records call m = let e = call (as_numbers m) in called e.answer (as_records e.room)

-- ---- the session's calls
abbrev pub settling : Session → Memory → Ran (Result ℕ SettleError)
settling s m = let e = settle_of ipv4_layout s m in ran e.answer e.room

abbrev pub handing : Session → Key → Memory → Ran (Result ℕ HandOverError)
handing s key m = let e = hand_over ipv4_layout s (key_bytes key) m in ran e.answer e.room

abbrev pub opening : List ℕ → ℕ → Memory → Ran (Result Session OpenError)
opening image slot m = let e = open_of ipv4_layout image slot m in ran e.answer e.room

abbrev pub reporting : Session → Memory → Ran (Result Report SessionError)
reporting s m = ran (report_on ipv4_layout s m) m

abbrev pub settle_records : Session → Lent → Called (Result ℕ SettleError)
settle_records s m = over_records (settling s) m

abbrev pub hand_records : Session → Key → Lent → Called (Result ℕ HandOverError)
hand_records s key m = over_records (handing s key) m

abbrev pub open_records : List ℕ → ℕ → Lent → Called (Result Session OpenError)
open_records image slot m = over_records (opening image slot) m

abbrev pub report_records : Session → Lent → Result Report SessionError
report_records s m = report_on ipv4_layout s (as_numbers m)

-- how many records of n are taken apart: all, or none where no sizes ask for so many
unfoldable pub taken : ℕ → ℕ → ℕ
taken most n = cond (leb n most) n 0

-- ---- a call over the first records of arrays
-- the number arrays of a call for at most so many records; 2 N is at most 3,072, and a key has 13 bytes
pub record Arrays (most : ℕ) (rs : Records) : Type 0 where
  pub keys-fit : length rs.keys ≡ most * 13
  pub counts-fit : length rs.counts ≡ most
  pub flags-fit : length rs.flags ≡ most

-- the first n records of the arrays, and the arrays with others written over these
unfoldable pub first : ℕ → Records → Records
first n rs = records (take (n * 13) rs.keys) (take n rs.counts) (take n rs.flags)

unfoldable pub over : ℕ → Records → Records → Records
over n new rs = records (new.keys ++ drop (n * 13) rs.keys) (new.counts ++ drop n rs.counts) (new.flags ++ drop n rs.flags)

-- a call over the first n records of the arrays
unfoldable pub over_first : {A : Type 0} → (Memory → Ran A) → ℕ → Memory → Ran A
over_first call n m =
    let e = call (memory m.filter m.table m.packets (first n m.list)) in
    ran e.answer (memory e.room.filter e.room.table e.room.packets (over n e.room.list m.list))
