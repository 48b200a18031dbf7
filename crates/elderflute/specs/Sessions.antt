-- The calls on a session, hand-over, settle and report, and printing.
use Rattle.std.specs.Prelude.{cond, not, List, ℕ, eqb, length, Result, Ok, Err}
use Rattle.std.proofs.lemmas.List.Edits.{sets}
use Rattle.layout.specs.Sizes.{in_range, ipv4_layout}
use Rattle.room.specs.declared.Session.{Session}
use Rattle.room.specs.Memory.{Memory}
use Rattle.session.specs.declared.HandOverError.{HandOverError}
use Rattle.session.specs.declared.SettleError.{SettleError}
use Rattle.session.specs.declared.SettleError.TheVariants as settled
use Rattle.session.specs.declared.SessionError.{SessionError}
use Rattle.summary.specs.declared.Report.{Report}
use Rattle.session.specs.Calls.{hand_over, hand_over_number, settle_of, settle_number, report_on, report_number}
use Rattle.printing.specs.Print.{most_written, room_lines, printed}
use Rattle.elderflute.specs.Numbers.{session_of, figures_of}

-- ---- hand-over: 01's number, how many flows are then listed, and the lent room
pub record HandLeft : Type 0 where
  pub number : ℕ
  pub listed : ℕ

abbrev pub hand_left : ℕ → ℕ → HandLeft
hand_left number listed = record { number = number; listed = listed }

pub record Handing : Type 0 where
  pub left : HandLeft
  pub room : Memory

abbrev pub handing : HandLeft → Memory → Handing
handing left room = record { left = left; room = room }

abbrev pub listed_handed : Result ℕ HandOverError → ℕ → ℕ
listed_handed (Ok n) listed = n
listed_handed (Err e) listed = listed

abbrev pub hand_leaves : Result ℕ HandOverError → ℕ → HandLeft
hand_leaves a listed = hand_left (hand_over_number a) (listed_handed a listed)

unfoldable pub hand_over_call : List ℕ → ℕ → List ℕ → Memory → Handing
hand_over_call numbers listed key m =
    let x = hand_over ipv4_layout (session_of numbers listed) key m in handing (hand_leaves x.answer listed) x.room

-- ---- settle: 01's number and cell, how many flows are then listed, and the lent room
pub record SettleLeft : Type 0 where
  pub number : ℕ
  pub listed : ℕ
  pub cell : ℕ

abbrev pub settle_left : ℕ → ℕ → ℕ → SettleLeft
settle_left number listed cell = record { number = number; listed = listed; cell = cell }

pub record Settling : Type 0 where
  pub left : SettleLeft
  pub room : Memory

abbrev pub settling : SettleLeft → Memory → Settling
settling left room = record { left = left; room = room }

-- 8 and 16 keep both numbers; 14 names a cell, and the earlier steps stand
abbrev pub settle_leaves : Result ℕ SettleError → ℕ → ℕ → SettleLeft
settle_leaves (Ok n) listed cell = settle_left (settle_number (Ok n)) n cell
settle_leaves (Err (settled.Damaged d)) listed cell = settle_left (settle_number (Err (settled.Damaged d))) d.listed d.cell
settle_leaves (Err (settled.Session e)) listed cell = settle_left (settle_number (Err (settled.Session e))) listed cell

unfoldable pub settle_call : List ℕ → ℕ → ℕ → Memory → Settling
settle_call numbers listed cell m =
    let x = settle_of ipv4_layout (session_of numbers listed) m in settling (settle_leaves x.answer listed cell) x.room

-- ---- report: 01's number, and what then stands in the figures
pub record Reporting : Type 0 where
  pub number : ℕ
  pub figures : List ℕ

abbrev pub reporting : ℕ → List ℕ → Reporting
reporting number figures = record { number = number; figures = figures }

abbrev pub report_leaves : Result Report SessionError → List ℕ → Reporting
report_leaves (Ok t) figures = reporting (report_number (Ok t)) (figures_of t)
report_leaves (Err e) figures = reporting (report_number (Err e)) figures

unfoldable pub report_call : List ℕ → ℕ → List ℕ → Memory → Reporting
report_call numbers listed figures m = report_leaves (report_on ipv4_layout (session_of numbers listed) m) figures

-- ---- printing: 01's number, the lent bytes, and how many of them are the program's lines
pub record Printing : Type 0 where
  pub number : ℕ
  pub lines : List ℕ
  pub written : ℕ

abbrev pub printing : ℕ → List ℕ → ℕ → Printing
printing number lines written = record { number = number; lines = lines; written = written }

-- 16 where the room for the lines is not the greatest length that they can have
unfoldable pub print_call : List ℕ → List ℕ → ℕ → Printing
print_call input lines written =
    cond (not (eqb (length lines) most_written)) (printing 16 lines written)
    (printing 0 (sets lines 0 (printed input)) (length (printed input)))

-- ---- the lines of a session as it stands: the same, by what the report answers and the text of its lines
abbrev pub lines_leave : Result Report SessionError → List ℕ → List ℕ → ℕ → Printing
lines_leave (Ok t) text lines written = printing (report_number (Ok t)) (sets lines 0 text) (length text)
lines_leave (Err e) text lines written = printing (report_number (Err e)) lines written

-- in 01's order: sizes (8), room (16: that for the lines, then the session's), the rest of the test of 8; else what 01's printing program prints of a
-- session: "a line of slot, salt, listed, counted, open and state; then per listed flow, in list order: .."
unfoldable pub lines_of : Session → List ℕ → ℕ → Memory → Printing
lines_of s lines written m =
    cond (not (in_range s.sizes)) (printing 8 lines written)
    (cond (not (eqb (length lines) most_written)) (printing 16 lines written)
    (lines_leave (report_on ipv4_layout s m) (room_lines s.slot s.salt s.listed m) lines written))

abbrev pub lines_call : List ℕ → ℕ → List ℕ → ℕ → Memory → Printing
lines_call numbers listed lines written m = lines_of (session_of numbers listed) lines written m
