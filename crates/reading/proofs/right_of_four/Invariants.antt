-- `reading::right_of_four` meets its contract: the loop holds that the blocks before have the right check.
use Rattle.reading.proofs.Right.{Right}
use Rattle.reading.proofs.right_of_four.Given as goal

abbrev pub invariant-loop-n : goal.invariant-loop-n
invariant-loop-n l = Right l.n l.four
