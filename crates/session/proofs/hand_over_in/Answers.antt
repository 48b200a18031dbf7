-- `session::hand_over_in` meets its contract.
use mathlib.Core.Path.{refl, ap, ◌∙◌}
use Prim.Native.Nat.{◌+◌}
use native.Mathlib.Omega.{arith}
use borrow.Author.Rules.{rules}
use Rattle.std.specs.Prelude.{Ok, Err}
use Rattle.std.proofs.lemmas.Result.{err_from_is_err_and}
use Rattle.index.proofs.Index.{empty-zeros}
use Rattle.opening.proofs.Returns.{lent-room}
use Rattle.room.specs.Seen.{memory_seen}
use Rattle.session.proofs.Answers.{passes, flags-reach, listed_small, passes-hands, hand-refused, hand-passed, tests-of, index-is}
use Rattle.session.specs.declared.HandOverError.TheVariants as over
use Rattle.session.specs.Calls.{handing_to}
use Rattle.session.proofs.hand_over_in.Goals as goal

pub tested-requires : goal.tested-requires
tested-requires c = (c.requires.0, empty-zeros)

pub returns-in_err-p : goal.returns-in_err-p
returns-in_err-p c =
    let p = err_from_is_err_and c.from_residual.result c.from_residual.ensures.1 in
    let e = tests-of c.args.l c.args.s _ c.tested.ensures.test (ap memory_seen c.new-room.ensures) in
    rw (p.1, p.2) (hand-refused c.args.l c.args.s _ _ e c.args.key.now _ c.in_err-p.was)

pub flagged_in-handed-requires : goal.flagged_in-handed-requires
flagged_in-handed-requires c =
    let e = tests-of c.args.l c.args.s _ c.tested.ensures.test (ap memory_seen c.new-room.ensures) in
    (flags-reach c.args.l c.args.s _ c.requires.0 (passes c.args.l c.args.s _ _ e c.in_ok-p.was), omega arith)

pub hand-requires : goal.hand-requires
hand-requires c =
    let e = tests-of c.args.l c.args.s _ c.tested.ensures.test (ap memory_seen c.new-room.ensures) in
    let p = passes c.args.l c.args.s _ _ e c.in_ok-p.was in
    let k = c.in_ok-p.ensures.placing in
    let q = index-is c.args.l c.args.s c.in_ok-p.ensures.seen (ap memory_seen c.new-room.ensures) in
    rw (k.0, k.1, k.2) (passes-hands c.args.l c.args.s _ c.requires.0 p (λ i. search rules) c.args.key.now c.requires.1 c.flagged_in-handed.ensures.0 q)

pub returns-in_err-hand : goal.returns-in_err-hand
returns-in_err-hand c =
    let e = tests-of c.args.l c.args.s _ c.tested.ensures.test (ap memory_seen c.new-room.ensures) in
    let k = c.in_ok-p.ensures.placing in
    let q = index-is c.args.l c.args.s c.in_ok-p.ensures.seen (ap memory_seen c.new-room.ensures) in
    let h = rw (c.in_err-hand.was, k.0, k.1, k.2) at c.hand.ensures.value in
    let p = err_from_is_err_and c.from_residual-in_err-hand.result c.from_residual-in_err-hand.ensures.1 in
    rw (p.1, p.2)
    (ap (handing_to (Err (over.Hand c.in_err-hand.field-0.0)))
    (lent-room c.hand.new.table c.hand.new.found refl (search rules) (search rules) (search rules) (search rules) (search rules) (search rules)
    (search rules) (search rules))
    ∙ hand-passed c.args.l c.args.s _ _ e c.args.key.now c.in_ok-p.was q h)

pub overflow_add-result : goal.overflow_add-result
overflow_add-result c =
    let e = tests-of c.args.l c.args.s _ c.tested.ensures.test (ap memory_seen c.new-room.ensures) in
    omega (arith, listed_small c.args.l c.args.s _ c.requires.0 (passes c.args.l c.args.s _ _ e c.in_ok-p.was))

pub returns : goal.returns
returns c =
    let e = tests-of c.args.l c.args.s _ c.tested.ensures.test (ap memory_seen c.new-room.ensures) in
    let k = c.in_ok-p.ensures.placing in
    let q = index-is c.args.l c.args.s c.in_ok-p.ensures.seen (ap memory_seen c.new-room.ensures) in
    let h = rw (c.in_ok-hand.was, k.0, k.1, k.2) at c.hand.ensures.value in
    ap (handing_to (Ok (c.args.s.listed + 1)))
    (lent-room c.hand.new.table c.hand.new.found refl (search rules) (search rules) (search rules) (search rules) (search rules) (search rules)
    (search rules) (search rules))
    ∙ hand-passed c.args.l c.args.s _ _ e c.args.key.now c.in_ok-p.was q h
