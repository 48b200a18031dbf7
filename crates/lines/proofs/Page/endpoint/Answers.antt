-- An address, a space, and a port.
use Rattle.lines.specs.Text.{endpoint}
use Rattle.lines.proofs.Lines.{holds-first, holds-next, adds-then}
use Rattle.lines.proofs.Page.endpoint.Goals as goal

pub dotted-requires : goal.dotted-requires
unfolding endpoint
dotted-requires c = holds-first _ _ c.requires

pub byte-requires : goal.byte-requires
unfolding endpoint
byte-requires c = holds-first _ _ (holds-next _ _ c.dotted.ensures c.requires)

pub followed-requires : goal.followed-requires
unfolding endpoint
followed-requires c = holds-next _ _ c.byte.ensures (holds-next _ _ c.dotted.ensures c.requires)

pub returns : goal.returns
unfolding endpoint
returns c = adds-then c.dotted.ensures (adds-then c.byte.ensures c.followed.ensures)
