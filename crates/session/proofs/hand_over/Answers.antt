-- `session::hand_over` meets its contract.
use mathlib.Core.Path.{sym, ap, subst, ◌∙◌}
use Rattle.layout.specs.Sizes.{Lays}
use Rattle.layout.proofs.Ranges.{lays-ipv4}
use Rattle.list.specs.Records.{records}
use Rattle.table.specs.Table.{tab}
use Rattle.room.specs.Memory.{memory}
use mathlib.Core.Path.{ap₂}
use lib.ListN.{length}
use Rattle.layout.specs.declared.Layout.{Layout}
use Rattle.packet.proofs.KeyBytes.{length-key}
use Rattle.session.specs.Calls.{hand_over}
use Rattle.session.proofs.hand_over.Goals as goal

pub hand_over_in-requires : goal.hand_over_in-requires
hand_over_in-requires c =
    let s = c in (
      subst Lays (sym c.ipv4.ensures) lays-ipv4,
      ap length
          c.from-bytes.ensures ∙ length-key s.args.key ∙ ap
          (λ (x : Layout). x.key) (sym c.ipv4.ensures),
    )

pub returns : goal.returns
returns c =
    let M = memory c.args.filter.now (tab c.args.xors.now c.args.flows.now c.args.unknowns.now c.args.positions.now c.args.marks.now) c.args.packets.now (records c.args.keys.now c.args.counts.now c.args.flags.now) in
    c.hand_over_in.ensures ∙ ap₂ (λ l k. hand_over l c.args.s k M) c.ipv4.ensures c.from-bytes.ensures
