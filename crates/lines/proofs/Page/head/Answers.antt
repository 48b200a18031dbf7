-- Slot, salt and report, one after the other.
use Rattle.lines.specs.Text.{head_line}
use Rattle.lines.proofs.Lines.{holds-first, holds-next, adds-then}
use Rattle.lines.proofs.Page.head.Goals as goal

pub followed-requires : goal.followed-requires
unfolding head_line
followed-requires c = holds-first _ _ c.requires

pub followed-requires-2 : goal.followed-requires-2
unfolding head_line
followed-requires-2 c = holds-first _ _ (holds-next _ _ c.followed.ensures c.requires)

pub report-requires : goal.report-requires
unfolding head_line
report-requires c = holds-next _ _ c.followed-2.ensures (holds-next _ _ c.followed.ensures c.requires)

pub returns : goal.returns
unfolding head_line
returns c = adds-then c.followed.ensures (adds-then c.followed-2.ensures c.report.ensures)
