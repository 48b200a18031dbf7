use Rattle.std.proofs.Common.{◌≡◌, ap, ◌∙◌, Err, rules}
use Rattle.parts.specs.Sides.{settle_side}
use Rattle.parts.specs.Parts.{switch_in, side_in}
use Rattle.rounds.specs.Rounds.{pair, ended}
use Rattle.rounds.specs.Meets.{pair_in}
use Rattle.rounds.proofs.Steps.{both-stopped, both-settled}
use Rattle.rounds.proofs.settle_both.Goals as goal

pub returns-in_err-ending_of-clause-value : goal.returns-in_err-ending_of-clause-value
returns-in_err-ending_of-clause-value c twelves =
    let a = c.args.a.now in
    let b = c.args.b.now in
    let is : c.from_residual.result ≡ Err c.in_err-ending_of.field-0.0 = search rules in
    ap (λ o. ended o (pair (side_in c.settle.new.self) (side_in b) twelves)) is
    ∙ both-stopped a.placing.shape.layout (switch_in a) (switch_in b) (pair_in a b twelves) c.settle.ensures.value c.in_err-ending_of.ensures

pub returns-clause-value : goal.returns-clause-value
returns-clause-value c twelves =
    let a = c.args.a.now in
    let b = c.args.b.now in
    let settled = c.settle-2.ensures.value ∙ ap (λ l. settle_side l (switch_in b) (side_in b)) c.requires.layout-is in
    both-settled a.placing.shape.layout (switch_in a) (switch_in b) (pair_in a b twelves) c.settle.ensures.value c.in_ok-ending_of.ensures settled c.ending_of-2.ensures
