-- `opening::copy_cell` meets its contract.
use Rattle.std.proofs.Common.{arith}
use Rattle.opening.specs.Blocks.{fields}
use Rattle.opening.proofs.Copies.{cell-copied}
use Rattle.opening.proofs.copy_cell.Goals as goal

pub returns : goal.returns
returns c =
    let a = c.args in
    cell-copied a.shape.layout a.payload.now a.first a.d (fields a.xors.now a.flows.now a.packets.now)
    (omega (arith, a.shape.lays.key_fits, c.requires.1)) c.requires.2 c.copy_in.ensures c.flow_count.ensures c.packet_count.ensures
