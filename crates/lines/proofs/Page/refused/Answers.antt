-- The word, and the number.
use Rattle.lines.specs.Text.{refused_line}
use Rattle.lines.proofs.Lines.{holds-first, holds-next, adds-then}
use Rattle.lines.proofs.Page.refused.Goals as goal

pub bytes-requires : goal.bytes-requires
unfolding refused_line
bytes-requires c = holds-first _ _ c.requires

pub followed-requires : goal.followed-requires
unfolding refused_line
followed-requires c = holds-next _ _ c.bytes.ensures c.requires

pub returns : goal.returns
unfolding refused_line
returns c = adds-then c.bytes.ensures c.followed.ensures
