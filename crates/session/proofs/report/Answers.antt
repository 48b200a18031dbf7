-- `session::report` meets its contract.
use mathlib.Core.Path.{sym, ap, subst, ◌∙◌}
use Rattle.layout.specs.Sizes.{Lays}
use Rattle.layout.proofs.Ranges.{lays-ipv4}
use Rattle.list.specs.Records.{records}
use Rattle.table.specs.Table.{tab}
use Rattle.room.specs.Memory.{memory}
use Rattle.session.specs.Calls.{report_on}
use Rattle.session.proofs.report.Goals as goal

pub report_in-requires : goal.report_in-requires
report_in-requires c = subst Lays (sym c.ipv4.ensures) lays-ipv4

pub returns : goal.returns
returns c =
    let M = memory c.args.filter.now (tab c.args.xors.now c.args.flows.now c.args.unknowns.now c.args.positions.now c.args.marks.now) c.args.packets.now (records c.args.keys.now c.args.counts.now c.args.flags.now) in
    c.report_in.ensures ∙ ap (λ l. report_on l c.args.s M) c.ipv4.ensures
