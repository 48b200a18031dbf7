-- `reading::right_of_four` meets its contract: the loop holds that the blocks before have the right check.
use mathlib.Core.Path.{◌≡◌}
use native.Mathlib.Omega.{arith}
use Rattle.reading.proofs.Right.{right_is, right-more, four-checks, compared-right, compared-wrong}
use Rattle.reading.proofs.right_of_four.Goals as goal

pub returns-then-long_at-checks : goal.returns-then-long_at-checks
returns-then-long_at-checks c =
    let s = c.args.four.now in
    let n = c.loop-n.n in
    right_is 4 s n (omega arith) c.loop-n.invariant
    (λ _. compared-wrong s n c.long_at.ensures (four-checks s c.fnv_of_four-checks.ensures n (omega arith)) c.if-long_at-checks.true)

pub loop-n-preserved : goal.loop-n-preserved
loop-n-preserved c =
    let s = c.args.four.now in
    let n = c.loop-n.n in
    right-more n s c.loop-n.invariant
    (compared-right s n c.long_at.ensures (four-checks s c.fnv_of_four-checks.ensures n (omega arith)) c.if-long_at-checks.false)

pub returns : goal.returns
returns c =
    let e : c.loop-n.n ≡ 4 = omega arith in
    right_is 4 c.args.four.now 4 (omega arith) (rw e at c.loop-n.invariant) (λ l. absurd (omega arith))
