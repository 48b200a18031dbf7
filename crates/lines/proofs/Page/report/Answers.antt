-- Three numbers, the word for the state, and the end of the line.
use Rattle.lines.specs.Text.{report_text}
use Rattle.lines.proofs.Lines.{holds-first, holds-next, adds-then}
use Rattle.lines.proofs.Page.report.Goals as goal

pub followed-requires : goal.followed-requires
unfolding report_text
followed-requires c = holds-first _ _ c.requires

pub followed-requires-2 : goal.followed-requires-2
unfolding report_text
followed-requires-2 c = holds-first _ _ (holds-next _ _ c.followed.ensures c.requires)

pub followed-requires-3 : goal.followed-requires-3
unfolding report_text
followed-requires-3 c = holds-first _ _ (holds-next _ _ c.followed-2.ensures (holds-next _ _ c.followed.ensures c.requires))

pub bytes-requires : goal.bytes-requires
unfolding report_text
bytes-requires c =
    rw c.word_of.ensures
    (holds-first _ _ (holds-next _ _ c.followed-3.ensures (holds-next _ _ c.followed-2.ensures (holds-next _ _ c.followed.ensures c.requires))))

pub byte-requires : goal.byte-requires
unfolding report_text
byte-requires c =
    holds-next _ _ (rw c.word_of.ensures at c.bytes.ensures)
    (holds-next _ _ c.followed-3.ensures (holds-next _ _ c.followed-2.ensures (holds-next _ _ c.followed.ensures c.requires)))

pub returns : goal.returns
unfolding report_text
returns c =
    adds-then c.followed.ensures
    (adds-then c.followed-2.ensures (adds-then c.followed-3.ensures (adds-then (rw c.word_of.ensures at c.bytes.ensures) c.byte.ensures)))
