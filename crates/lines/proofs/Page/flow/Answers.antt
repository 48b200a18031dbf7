-- Five texts, one after the other.
use Rattle.lines.specs.Text.{flow_line}
use Rattle.lines.proofs.Lines.{holds-first, holds-next, adds-then}
use Rattle.lines.proofs.Page.flow.Goals as goal

pub endpoint-requires : goal.endpoint-requires
unfolding flow_line
endpoint-requires c = holds-first _ _ c.requires

pub endpoint-requires-2 : goal.endpoint-requires-2
unfolding flow_line
endpoint-requires-2 c = holds-first _ _ (holds-next _ _ c.endpoint.ensures c.requires)

pub followed-requires : goal.followed-requires
unfolding flow_line
followed-requires c = holds-first _ _ (holds-next _ _ c.endpoint-2.ensures (holds-next _ _ c.endpoint.ensures c.requires))

pub count-requires : goal.count-requires
unfolding flow_line
count-requires c =
    holds-first _ _ (holds-next _ _ c.followed.ensures (holds-next _ _ c.endpoint-2.ensures (holds-next _ _ c.endpoint.ensures c.requires)))

pub byte-requires : goal.byte-requires
unfolding flow_line
byte-requires c =
    holds-next _ _ c.count.ensures (holds-next _ _ c.followed.ensures (holds-next _ _ c.endpoint-2.ensures (holds-next _ _ c.endpoint.ensures c.requires)))

pub returns : goal.returns
unfolding flow_line
returns c =
    adds-then c.endpoint.ensures (adds-then c.endpoint-2.ensures (adds-then c.followed.ensures (adds-then c.count.ensures c.byte.ensures)))
