use Rattle.rounds.proofs.Rounds.{Going}
use Rattle.rounds.proofs.all_rounds.Given as goal

abbrev pub invariant-loop : goal.invariant-loop
invariant-loop l = Going l.initial.a l.initial.b l.initial.twelves l.most l.counter l.a l.b l.twelves
