-- `session::open` meets its contract.
use mathlib.Core.Path.{sym, ap, subst, ◌∙◌}
use Rattle.layout.specs.Sizes.{Lays}
use Rattle.layout.proofs.Ranges.{lays-ipv4}
use Rattle.list.specs.Records.{records}
use Rattle.table.specs.Table.{tab}
use Rattle.room.specs.Memory.{memory}
use Rattle.opening.specs.Open.{open_of}
use Rattle.session.proofs.open.Goals as goal

pub open_in-requires : goal.open_in-requires
open_in-requires c = subst Lays (sym c.ipv4.ensures) lays-ipv4

pub returns : goal.returns
returns c =
    let M = memory c.args.filter.now (tab c.args.xors.now c.args.flows.now c.args.unknowns.now c.args.positions.now c.args.marks.now) c.args.packets.now (records c.args.keys.now c.args.counts.now c.args.flags.now) in
    c.open_in.ensures ∙ ap (λ l. open_of l c.args.image.now c.args.slot M) c.ipv4.ensures
