use Prim.Native.Nat.{◌%◌}
use native.Mathlib.Omega.{arith}
use Rattle.marks.specs.Marks.{put_mark}
use Rattle.marks.proofs.Laws.{mask_is}
use Rattle.marks.proofs.put_mark.Goals as goal

pub returns-then-on : goal.returns-then-on
unfolding put_mark
returns-then-on c = rw (mask_is (c.args.c % 64) (omega arith), c.if-on.true)

pub returns-else-on : goal.returns-else-on
unfolding put_mark
returns-else-on c = rw (mask_is (c.args.c % 64) (omega arith), c.if-on.false)
