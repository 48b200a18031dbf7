use Rattle.std.proofs.Common.{ap, ◌∙◌, ◌+◌}
use native.Mathlib.Omega.{arith}
use Rattle.parts.specs.Parts.{switch_in}
use Rattle.rounds.specs.Rounds.{settle_both, round}
use Rattle.rounds.specs.Meets.{pair_in}
use Rattle.rounds.proofs.Handed.{few-b, few-a, takes-b, takes-a, handed-is, handed-meets, both-kept}
use Rattle.rounds.proofs.one_round.Goals as goal

pub take_from-requires : goal.take_from-requires
take_from-requires c = takes-b c.args.a.now c.args.b.now c.requires.0

pub take_from-requires-2 : goal.take_from-requires-2
take_from-requires-2 c =
    takes-a c.args.a.now c.args.b.now c.requires.0 c.take_from.new.self c.take_from.result c.take_from.ensures.value c.take_from.ensures.packets

pub settle_both-requires : goal.settle_both-requires
settle_both-requires c =
    handed-meets c.args.a.now c.args.b.now c.requires.0 c.take_from.new.self c.take_from.result c.take_from.ensures.value c.take_from.ensures.packets
    c.take_from-2.new.self c.take_from-2.result c.take_from-2.ensures.value c.take_from-2.ensures.packets c.take_from-2.ensures.kept c.take_from.ensures.kept

pub returns-clause-value : goal.returns-clause-value
unfolding round
returns-clause-value c =
    let a = c.args.a.now in
    let b = c.args.b.now in
    let n = c.args.twelves.now in
    let x = c.take_from.result in
    let y = c.take_from-2.result in
    c.settle_both.ensures.value (n + x + y)
    ∙ both-kept a b c.take_from-2.new.self c.take_from.new.self c.take_from-2.ensures.kept c.take_from.ensures.kept
    (pair_in c.take_from-2.new.self c.take_from.new.self (n + x + y))
    ∙ ap (settle_both a.placing.shape.layout (switch_in a) (switch_in b))
    (handed-is a b c.requires.0 c.take_from.new.self x c.take_from.ensures.value c.take_from.ensures.packets
    c.take_from-2.new.self y c.take_from-2.ensures.value c.take_from-2.ensures.packets n)

pub overflow_add-twelves-2 : goal.overflow_add-twelves-2
overflow_add-twelves-2 c =
    omega (
      arith,
      c.take_from.ensures.few,
      c.take_from-2.ensures.few,
      few-b c.args.a.now c.args.b.now c.requires.0,
      few-a c.args.a.now c.args.b.now c.requires.0 c.take_from.new.self c.take_from.result c.take_from.ensures.value c.take_from.ensures.packets,
      c.requires.1,
    )

pub returns-clause-few : goal.returns-clause-few
returns-clause-few c =
    omega (
      arith,
      c.take_from.ensures.few,
      c.take_from-2.ensures.few,
      few-b c.args.a.now c.args.b.now c.requires.0,
      few-a c.args.a.now c.args.b.now c.requires.0 c.take_from.new.self c.take_from.result c.take_from.ensures.value c.take_from.ensures.packets,
    )
