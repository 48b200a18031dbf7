-- `reading::right_blocks` meets its contract: the loop holds that the blocks before have the right check.
use Prim.Native.Nat.{◌*◌}
use Rattle.reading.proofs.Right.{Right}
use Rattle.reading.proofs.right_blocks.Given as goal

abbrev pub invariant-loop-i : goal.invariant-loop-i
invariant-loop-i l = Right (l.i * 4) l.blocks
