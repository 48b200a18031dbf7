-- The calls on a session: 01 'A session'. Each tests the session first ('room', `tested`), and a refusal keeps all memory.
use Rattle.std.specs.Prelude.{List, ℕ, ◌+◌, replicate, Result, Ok, Err}
use Rattle.layout.specs.declared.Layout.{Layout}
use Rattle.layout.specs.Numbers.{Returned, only, with_cell}
use Rattle.test8.specs.Given.{seen_upto}
use Rattle.room.specs.declared.Session.{Session}
use Rattle.room.specs.Memory.{Memory, memory}
use Rattle.room.specs.Test.{tested}
use Rattle.peeling.specs.declared.Damage.{Damage}
use Rattle.settling.specs.Settle as settling
use Rattle.handing.specs.declared.HandError.{HandError}
use Rattle.handing.specs.Hand as handing
use Rattle.summary.specs.declared.Report.{Report}
use Rattle.summary.specs.Report.{report_of}
use Rattle.session.specs.declared.SessionError.{SessionError}
use Rattle.session.specs.declared.SessionError.TheVariants.{NotSession, BadRoom}
use Rattle.session.specs.declared.HandOverError.{HandOverError}
use Rattle.session.specs.declared.HandOverError.TheVariants as over
use Rattle.session.specs.declared.SettleError.{SettleError}
use Rattle.session.specs.declared.SettleError.TheVariants as settled
use Rattle.session.specs.Errors.{session_number, hand_over_error_number}

-- the index of the listed keys, as the test of 8 leaves it; it shortens the search for a key and decides nothing
abbrev pub index_of : Layout → Session → Memory → List ℕ
index_of l s m = seen_upto l s.sizes s.salt s.listed m.list.keys (replicate 11264 0)

-- what the tests of every call answer: 01's table of numbers, 8 and 16
abbrev pub test_of : Layout → Session → Memory → Result Unit SessionError
test_of l s m = tested l s m (Err NotSession) (Err BadRoom) (Ok tt)

-- the same of a call that gives a value where they are passed
abbrev pub told : {A : Type 0} → Result A SessionError → Result Unit SessionError
told (Ok x) = Ok tt
told (Err e) = Err e

-- ---- hand-over
-- what the call answers, and the lent room afterwards
pub record Handing : Type 0 where
  pub answer : Result ℕ HandOverError
  pub room : Memory

abbrev pub handing_to : Result ℕ HandOverError → Memory → Handing
handing_to answer m = record { answer = answer; room = m }

-- where a key is taken out, one flow more is listed
abbrev pub hand_answer : ℕ → Result Unit HandError → Result ℕ HandOverError
hand_answer n (Ok x) = Ok (n + 1)
hand_answer n (Err e) = Err (over.Hand e)

abbrev pub hand_leaves : Session → Memory → handing.Handing → Handing
hand_leaves s m h = handing_to (hand_answer s.listed h.answer) (memory m.filter h.table m.packets h.list)

-- 01 'A session': "Hand-over of a key: in order, 8 not a session; 9 ..; else take out"
unfoldable pub hand_over : Layout → Session → List ℕ → Memory → Handing
hand_over l s key m =
    tested l s m (handing_to (Err (over.Session NotSession)) m) (handing_to (Err (over.Session BadRoom)) m)
    (hand_leaves s m (handing.hand_of l s.sizes s.salt s.listed key m.filter m.table m.list (index_of l s m)))

-- 01's number and values for each answer
abbrev pub hand_over_returns : Result ℕ HandOverError → Returned
hand_over_returns (Ok n) = only 0
hand_over_returns (Err e) = only (hand_over_error_number e)

abbrev pub hand_over_number : Result ℕ HandOverError → ℕ
hand_over_number a = (hand_over_returns a).number

-- ---- settling
pub record Settling : Type 0 where
  pub answer : Result ℕ SettleError
  pub room : Memory

abbrev pub settling_to : Result ℕ SettleError → Memory → Settling
settling_to answer m = record { answer = answer; room = m }

abbrev pub settle_answer : Result ℕ Damage → Result ℕ SettleError
settle_answer (Ok n) = Ok n
settle_answer (Err d) = Err (settled.Damaged d)

abbrev pub settle_leaves : Memory → settling.Settled → Settling
settle_leaves m e = settling_to (settle_answer e.answer) (memory m.filter e.table e.packets e.list)

-- 01 'A session': "Settle: while a cell is marked, take out .. Then, while a cell is ready, .."
unfoldable pub settle_of : Layout → Session → Memory → Settling
settle_of l s m =
    tested l s m (settling_to (Err (settled.Session NotSession)) m) (settling_to (Err (settled.Session BadRoom)) m)
    (settle_leaves m (settling.settle_of l s.sizes s.salt s.listed m.table m.packets m.list (index_of l s m)))

-- 01's number and values for each answer
abbrev pub settle_returns : Result ℕ SettleError → Returned
settle_returns (Ok n) = only 0
settle_returns (Err (settled.Damaged d)) = with_cell 14 d.cell
settle_returns (Err (settled.Session e)) = only (session_number e)

abbrev pub settle_number : Result ℕ SettleError → ℕ
settle_number a = (settle_returns a).number

-- ---- the report
-- 01 'A session', Report: "worked out anew from list and cells"; n flows are listed
abbrev pub report_in : ℕ → Memory → Report
report_in n m = report_of n m.table.xors m.table.flows m.packets m.list.flags

unfoldable pub report_on : Layout → Session → Memory → Result Report SessionError
report_on l s m = tested l s m (Err NotSession) (Err BadRoom) (Ok (report_in s.listed m))

-- 01's number and values for each answer; the report's own numbers stand in it
abbrev pub report_returns : Result Report SessionError → Returned
report_returns (Ok r) = only 0
report_returns (Err e) = only (session_number e)

abbrev pub report_number : Result Report SessionError → ℕ
report_number a = (report_returns a).number
