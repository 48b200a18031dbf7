-- `sealing::seal_rooms` meets its contract: an image is short enough for its length to be a number.
use native.Mathlib.Omega.{arith}
use Rattle.layout.proofs.Ranges.{blocks-high}
use Rattle.sealing.proofs.seal_rooms.Goals as goal

pub overflow_mul-result : goal.overflow_mul-result
overflow_mul-result c = omega (arith, c.block_count.ensures, blocks-high c.args.shape.sizes c.args.shape.ranged)
