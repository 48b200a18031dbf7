-- `telling::fill_random`: the bytes so far are the generator's.
use Rattle.telling.proofs.Filling.{Filled}
use Rattle.telling.proofs.fill_random.Given as goal

abbrev pub invariant-loop-b : goal.invariant-loop-b
invariant-loop-b l = Filled l.initial.s l.seed l.s l.x l.b-index
