-- `reading::right_blocks` meets its contract: the loop holds that the blocks before have the right check.
use mathlib.Core.Path.{◌≡◌, subst}
use Prim.Native.Nat.{◌+◌, ◌*◌, ◌/◌}
use native.Mathlib.Omega.{arith}
use Rattle.reading.proofs.Right.{Right, right_is, right_so, four-max, four-right, four-wrong}
use Rattle.reading.proofs.right_blocks.Goals as goal

pub returns-then-right-lt4 : goal.returns-then-right-lt4
returns-then-right-lt4 c =
    let s = c.args.blocks.now in
    let n = c.loop-i.i * 4 in
    let r = c.right_of_four-right.ensures in
    right_is c.args.count s (n + c.right_of_four-right.result) (omega (arith, four-max s n r)) (four-right s n r c.loop-i.invariant)
    (λ _. four-wrong s n r c.if-right-lt4.true)

pub loop-i-preserved : goal.loop-i-preserved
loop-i-preserved c =
    let s = c.args.blocks.now in
    let n = c.loop-i.i * 4 in
    let r = c.right_of_four-right.ensures in
    let e : n + c.right_of_four-right.result ≡ (c.loop-i.i + 1) * 4 = omega (arith, four-max s n r) in
    subst (λ k. Right k s) e (four-right s n r c.loop-i.invariant)

pub right_from-requires : goal.right_from-requires
right_from-requires c =
    let e : c.loop-i.i ≡ c.args.count / 4 = omega arith in
    (omega arith, c.requires.0, c.requires.1, right_so (c.args.count / 4 * 4) c.args.blocks.now (rw e at c.loop-i.invariant))
