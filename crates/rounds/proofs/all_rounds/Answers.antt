-- `rounds::all_rounds` meets its contract: each turn goes through a round.
use Rattle.std.proofs.Common.{◌≡◌, refl, sym, ap, ◌∙◌, Err, arith, rules}
use Rattle.ending.specs.Over.{is_over}
use Rattle.rounds.specs.Rounds.{ended}
use Rattle.rounds.specs.Meets.{pair_in}
use Rattle.rounds.proofs.Rounds.{going-done, going-over, going-on}
use Rattle.rounds.proofs.all_rounds.Goals as goal

pub returns-in_err-one_round-clause-value : goal.returns-in_err-one_round-clause-value
unfolding is_over
returns-in_err-one_round-clause-value c =
    let a = c.one_round.new.a in
    let b = c.one_round.new.b in
    let is : c.from_residual.result ≡ Err c.in_err-one_round.field-0.0 = search rules in
    ap (λ o. ended o (pair_in a b c.one_round.new.twelves)) is
    ∙ going-over c.args.a.now c.args.b.now c.args.twelves.now c.args.most c.requires.0 c.loop.invariant c.loop-test.true a b c.one_round.new.twelves c.one_round.ensures.kept_a c.one_round.ensures.kept_b
    c.in_err-one_round.ensures.value refl

pub returns-then-is_over-clause-value : goal.returns-then-is_over-clause-value
returns-then-is_over-clause-value c =
    going-over c.args.a.now c.args.b.now c.args.twelves.now c.args.most c.requires.0 c.loop.invariant c.loop-test.true c.one_round.new.a c.one_round.new.b c.one_round.new.twelves
    c.one_round.ensures.kept_a c.one_round.ensures.kept_b c.in_ok-one_round.ensures.value (sym c.if-is_over.true ∙ c.is_over.ensures)

pub loop-preserved : goal.loop-preserved
loop-preserved c =
    going-on c.args.a.now c.args.b.now c.args.twelves.now c.args.most c.requires.0 c.loop.invariant c.loop-test.true c.one_round.new.a c.one_round.new.b c.one_round.new.twelves
    c.one_round.ensures.kept_a c.one_round.ensures.kept_b c.in_ok-one_round.ensures.value (sym c.if-is_over.false ∙ c.is_over.ensures) c.one_round.ensures.few

pub returns-clause-value : goal.returns-clause-value
returns-clause-value c =
    going-done c.args.a.now c.args.b.now c.args.twelves.now c.args.most c.requires.0 c.loop.invariant (omega arith)
