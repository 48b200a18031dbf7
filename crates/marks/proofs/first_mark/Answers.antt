use Prim.Native.Nat.{◌^◌, ◌<◌}
use native.Mathlib.Omega.{arith}
use lib.ListN.{get_or}
use borrow.Author.Rules.{rules}
use Rattle.marks.proofs.Laws.{first-none, first-here}
use Rattle.marks.proofs.first_mark.Goals as goal

pub returns-then-w-ne0 : goal.returns-then-w-ne0
returns-then-w-ne0 c =
    let word : get_or c.args.words.now c.loop-i.i 0 < 2 ^ 64 = search rules in
    first-here c.args.words.now c.loop-i.i (omega arith) c.loop-i.invariant c.if-w-ne0.true word

pub loop-i-preserved : goal.loop-i-preserved
loop-i-preserved c = omega
    (arith, first-none c.args.words.now c.loop-i.i (omega arith) c.if-w-ne0.false)
