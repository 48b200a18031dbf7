-- `reading::right_from` meets its contract: the loop holds that the blocks before have the right check.
use mathlib.Core.Path.{◌≡◌, sym, ap, ◌∙◌}
use native.Mathlib.Omega.{arith}
use Rattle.laws.proofs.Bools.{failed, held}
use Rattle.reading.specs.Read.{checks}
use Rattle.reading.proofs.Returns.{block-is}
use Rattle.reading.proofs.Right.{right_is, right-these, right-more}
use Rattle.reading.proofs.right_from.Goals as goal

pub loop-m-init : goal.loop-m-init
loop-m-init c = right-these c.args.n c.args.blocks.now c.requires.3

pub returns-then-not-checks : goal.returns-then-not-checks
returns-then-not-checks c =
    let s = c.args.blocks.now in
    let l = c.loop-m in
    right_is c.args.count s l.m (omega arith) l.invariant (λ _. ap checks (sym (block-is l.m s)) ∙ failed c.checks.ensures c.if-not-checks.true)

pub loop-m-preserved : goal.loop-m-preserved
loop-m-preserved c =
    let s = c.args.blocks.now in
    let l = c.loop-m in
    right-more l.m s l.invariant (ap checks (sym (block-is l.m s)) ∙ held c.checks.ensures c.if-not-checks.false)

pub returns : goal.returns
returns c =
    let e : c.loop-m.m ≡ c.args.count = omega arith in
    right_is c.args.count c.args.blocks.now c.args.count (omega arith) (rw e at c.loop-m.invariant) (λ l. absurd (omega arith))
