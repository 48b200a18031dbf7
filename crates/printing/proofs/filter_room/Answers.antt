-- The sizes in their ranges make so many bytes at most.
use Rattle.std.proofs.Common.{arith}
use Rattle.layout.specs.Sizes.{filter_bytes}
use Rattle.printing.proofs.filter_room.Goals as goal

pub returns : goal.returns
unfolding filter_bytes
returns c = (c.filter_bytes.ensures, omega (arith, c.args.shape.ranged))
