-- `reading::read` meets its contract: the layout of IPv4 is one.
use Rattle.layout.proofs.Ranges.{lays-ipv4}
use Rattle.reading.proofs.read.Goals as goal

pub read_in-requires : goal.read_in-requires
read_in-requires c = rw c.ipv4.ensures lays-ipv4

pub returns : goal.returns
returns c = rw c.ipv4.ensures at c.read_in.ensures
