-- `session::settle_in` meets its contract.
use mathlib.Core.Path.{refl, ap, ◌∙◌}
use borrow.Author.Rules.{rules}
use Rattle.std.specs.Prelude.{Ok, Err}
use Rattle.std.proofs.lemmas.Result.{err_from_is_err_and}
use Rattle.index.proofs.Index.{empty-zeros}
use Rattle.opening.proofs.Returns.{lent-room}
use Rattle.room.specs.Seen.{memory_seen}
use Rattle.session.proofs.Answers.{passes, rooms, passes-steady, settle-refused, settle-passed, tests-of, index-is}
use Rattle.session.specs.declared.SettleError.TheVariants as settled
use Rattle.session.specs.Calls.{settling_to}
use Rattle.session.proofs.settle_in.Goals as goal

pub tested-requires : goal.tested-requires
tested-requires c = (c.requires, empty-zeros)

pub returns-in_err-p : goal.returns-in_err-p
returns-in_err-p c =
    let p = err_from_is_err_and c.from_residual.result c.from_residual.ensures.1 in
    let e = tests-of c.args.l c.args.s _ c.tested.ensures.test (ap memory_seen c.new-room.ensures) in
    rw (p.1, p.2) (settle-refused c.args.l c.args.s _ _ e _ c.in_err-p.was)

pub settle_all-requires : goal.settle_all-requires
settle_all-requires c =
    let e = tests-of c.args.l c.args.s _ c.tested.ensures.test (ap memory_seen c.new-room.ensures) in
    let p = passes c.args.l c.args.s _ _ e c.in_ok-p.was in
    let k = c.in_ok-p.ensures.placing in
    let q = index-is c.args.l c.args.s c.in_ok-p.ensures.seen (ap memory_seen c.new-room.ensures) in
    rw (k.0, k.1, k.2) (passes-steady c.args.l c.args.s _ c.requires p (λ i. search rules) q, (rooms c.args.l c.args.s _ c.requires p).packets-fit)

pub returns-in_err-listed : goal.returns-in_err-listed
returns-in_err-listed c =
    let e = tests-of c.args.l c.args.s _ c.tested.ensures.test (ap memory_seen c.new-room.ensures) in
    let k = c.in_ok-p.ensures.placing in
    let q = index-is c.args.l c.args.s c.in_ok-p.ensures.seen (ap memory_seen c.new-room.ensures) in
    let h = rw (c.in_err-listed.was, k.0, k.1, k.2) at c.settle_all.ensures.value in
    let p = err_from_is_err_and c.from_residual-in_err-listed.result c.from_residual-in_err-listed.ensures.1 in
    rw (p.1, p.2)
    (ap (settling_to (Err (settled.Damaged c.in_err-listed.field-0.0)))
    (lent-room c.settle_all.new.table c.settle_all.new.list refl (search rules) (search rules) (search rules) (search rules) (search rules)
    (search rules) (search rules) (search rules))
    ∙ settle-passed c.args.l c.args.s _ _ e c.in_ok-p.was q h)

pub returns : goal.returns
returns c =
    let e = tests-of c.args.l c.args.s _ c.tested.ensures.test (ap memory_seen c.new-room.ensures) in
    let k = c.in_ok-p.ensures.placing in
    let q = index-is c.args.l c.args.s c.in_ok-p.ensures.seen (ap memory_seen c.new-room.ensures) in
    let h = rw (c.in_ok-listed.was, k.0, k.1, k.2) at c.settle_all.ensures.value in
    ap (settling_to (Ok c.in_ok-listed.listed))
    (lent-room c.settle_all.new.table c.settle_all.new.list refl (search rules) (search rules) (search rules) (search rules) (search rules)
    (search rules) (search rules) (search rules))
    ∙ settle-passed c.args.l c.args.s _ _ e c.in_ok-p.was q h
