-- `reading::right_from` meets its contract: the loop holds that the blocks before have the right check.
use Rattle.reading.proofs.Right.{Right}
use Rattle.reading.proofs.right_from.Given as goal

abbrev pub invariant-loop-m : goal.invariant-loop-m
invariant-loop-m l = Right l.m l.blocks
