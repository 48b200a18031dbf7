-- `cell::add_packet` meets its contract.
use Rattle.std.proofs.Common.{refl, ◌∙◌}
use Rattle.cell.proofs.Steps.{packet-counted}
use Rattle.cell.proofs.add_packet.Goals as goal

pub returns : goal.returns
returns c =
    c.put_long.ensures
    ∙ packet-counted c.args.l c.args.cells.now c.args.c c.long_at-packets.ensures refl
