use Rattle.std.proofs.Common.{◌+◌, ◌-◌, refl, sym, ap, ◌∙◌, Ok, Err, arith, rules}
use Rattle.list.specs.Records.{records}
use Rattle.counting.proofs.Loop.{going, going_done, going_on, going-stop, quiet-is, damaged-is}
use Rattle.std.proofs.lemmas.Result.{err_from_is_err_and}
use Rattle.counting.proofs.count_all.Goals as goal

pub loop-init : goal.loop-init
loop-init c =
    let a = c.args in
    let s = a.p.shape in
    record {
      going = going s.layout s.sizes a.p.salt a.n a.flows.now a.packets.now a.unknowns.now a.positions.now (records a.keys.now a.counts.now a.flags.now) c.requires
          c.requires.cells.flows-fit c.find_ready.ensures.value (omega arith);
      tally = (refl, refl, refl, refl, refl, refl, refl, refl);
    }

pub count_step-requires : goal.count_step-requires
count_step-requires c = c.loop.invariant.going.fits

pub loop-preserved : goal.loop-preserved
loop-preserved c = record {
  going = going_on c.loop.invariant.going (c.args.n - (c.loop.counter + 1)) (omega arith) c.count_step.ensures.value (c.in_ok-count_step.was ∙ ap Ok c.if-not-branch.false);
  tally = (cc, cc, cc, cc, cc, cc, cc, cc);
}

pub returns-after-loop : goal.returns-after-loop
returns-after-loop c =
    let k = c.find_ready.ensures.kept in
    let v = c.loop.invariant.tally in
    let packets = sym (v.0 ∙ k.0) in
    let unknowns = sym (v.1 ∙ k.1) in
    let positions = sym (v.2 ∙ k.2) in
    going_done c.loop.invariant.going (omega arith) (search rules) (search rules) (search rules)

pub returns-then-not-branch : goal.returns-then-not-branch
returns-then-not-branch c =
    let k = c.find_ready.ensures.kept in
    let v = c.loop.invariant.tally in
    let s = c.count_step.ensures.kept in
    let packets = sym (s.0 ∙ v.0 ∙ k.0) in
    let unknowns = sym (s.1 ∙ v.1 ∙ k.1) in
    let positions = sym (s.2 ∙ v.2 ∙ k.2) in
    let quiet = c.in_ok-count_step.was ∙ ap Ok c.if-not-branch.true in
    going-stop c.loop.invariant.going (c.args.n - (c.loop.counter + 1)) (omega arith) c.count_step.ensures.value (quiet-is quiet).0 (quiet-is quiet).1
    (search rules) (search rules) (search rules)

pub returns-in_err-count_step : goal.returns-in_err-count_step
returns-in_err-count_step c =
    let k = c.find_ready.ensures.kept in
    let v = c.loop.invariant.tally in
    let s = c.count_step.ensures.kept in
    let packets = sym (s.0 ∙ v.0 ∙ k.0) in
    let unknowns = sym (s.1 ∙ v.1 ∙ k.1) in
    let positions = sym (s.2 ∙ v.2 ∙ k.2) in
    let p = err_from_is_err_and c.from_residual.result c.from_residual.ensures.1 in
    going-stop c.loop.invariant.going (c.args.n - (c.loop.counter + 1)) (omega arith) c.count_step.ensures.value (damaged-is c.in_err-count_step.was).0
    (p.1 ∙ ap Err p.2 ∙ (damaged-is c.in_err-count_step.was).1)
    (search rules) (search rules) (search rules)
