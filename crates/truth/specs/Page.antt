-- The text of a report and a list: 01 'Printing program'.
use Rattle.std.specs.Prelude.{List, [], ◌∷◌, ◌++◌, ℕ}
use Rattle.std.specs.Bool.{then_some}
use Rattle.packet.specs.Key.{key_from}
use Rattle.summary.specs.declared.Report.{Report}
use Rattle.summary.specs.declared.State.{State}
use Rattle.summary.specs.declared.State.TheVariants as state
use Rattle.lines.specs.Text.{head_line, flow_line}
use Rattle.theory.specs.Session.{Record}
use Rattle.theory.specs.Report as theory

-- "per listed flow, in list order: .., count or `?`"
abbrev pub line_of : Record → List ℕ
line_of r = flow_line (key_from r.key) (then_some r.known r.count)

unfoldable pub lines_of : List Record → List ℕ
lines_of [] = []
lines_of (r ∷ rs) = line_of r ++ lines_of rs

-- the theory's report as the head line has it
abbrev pub state_from : theory.State → State
state_from theory.stuck = state.Stuck
state_from theory.short = state.Short
state_from theory.stray = state.Stray
state_from theory.whole = state.Whole

abbrev pub report_from : theory.Report → Report
report_from r = record { listed = r.listed; counted = r.counted; opens = r.opens; state = state_from r.state }

-- "a line of slot, salt, listed, counted, open and state; then per listed flow .."
unfoldable pub text_of : ℕ → ℕ → theory.Report → List Record → List ℕ
text_of slot salt r list = head_line slot salt (report_from r) ++ lines_of list
