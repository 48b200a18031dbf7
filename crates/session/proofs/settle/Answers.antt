-- `session::settle` meets its contract.
use mathlib.Core.Path.{sym, ap, subst, ◌∙◌}
use Rattle.layout.specs.Sizes.{Lays}
use Rattle.layout.proofs.Ranges.{lays-ipv4}
use Rattle.list.specs.Records.{records}
use Rattle.table.specs.Table.{tab}
use Rattle.room.specs.Memory.{memory}
use Rattle.session.specs.Calls.{settle_of}
use Rattle.session.proofs.settle.Goals as goal

pub settle_in-requires : goal.settle_in-requires
settle_in-requires c = subst Lays (sym c.ipv4.ensures) lays-ipv4

pub returns : goal.returns
returns c =
    let M = memory c.args.filter.now (tab c.args.xors.now c.args.flows.now c.args.unknowns.now c.args.positions.now c.args.marks.now) c.args.packets.now (records c.args.keys.now c.args.counts.now c.args.flags.now) in
    c.settle_in.ensures ∙ ap (λ l. settle_of l c.args.s M) c.ipv4.ensures
