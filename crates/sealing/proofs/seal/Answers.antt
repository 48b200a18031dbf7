-- `sealing::seal` meets its contract: the layout of IPv4 is one.
use Rattle.layout.proofs.Ranges.{lays-ipv4}
use Rattle.sealing.proofs.seal.Goals as goal

pub seal_in-requires : goal.seal_in-requires
seal_in-requires c = rw c.ipv4.ensures lays-ipv4

pub returns : goal.returns
returns c = rw c.ipv4.ensures at c.seal_in.ensures
