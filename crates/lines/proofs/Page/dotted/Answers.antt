-- Four numbers, one after the other.
use native.Mathlib.Omega.{arith}
use Rattle.lines.proofs.Lines.{holds-first, holds-next, adds-then, dotted-bytes}
use Rattle.lines.proofs.Page.dotted.Goals as goal

pub followed-requires : goal.followed-requires
followed-requires c =
    holds-first _ _ (rw (dotted-bytes c.args.address c.to_be_bytes.result (omega arith) c.to_be_bytes.ensures) at c.requires)

pub followed-requires-2 : goal.followed-requires-2
followed-requires-2 c =
    let h = rw (dotted-bytes c.args.address c.to_be_bytes.result (omega arith) c.to_be_bytes.ensures) at c.requires in
    holds-first _ _ (holds-next _ _ c.followed.ensures h)

pub followed-requires-3 : goal.followed-requires-3
followed-requires-3 c =
    let h = rw (dotted-bytes c.args.address c.to_be_bytes.result (omega arith) c.to_be_bytes.ensures) at c.requires in
    holds-first _ _ (holds-next _ _ c.followed-2.ensures (holds-next _ _ c.followed.ensures h))

pub decimal-requires : goal.decimal-requires
decimal-requires c =
    let h = rw (dotted-bytes c.args.address c.to_be_bytes.result (omega arith) c.to_be_bytes.ensures) at c.requires in
    holds-next _ _ c.followed-3.ensures (holds-next _ _ c.followed-2.ensures (holds-next _ _ c.followed.ensures h))

pub returns : goal.returns
returns c =
    rw (dotted-bytes c.args.address c.to_be_bytes.result (omega arith) c.to_be_bytes.ensures)
    (adds-then c.followed.ensures (adds-then c.followed-2.ensures (adds-then c.followed-3.ensures c.decimal.ensures)))
