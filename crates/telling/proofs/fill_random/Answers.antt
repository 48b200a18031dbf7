-- `telling::fill_random` meets its contract: one byte more is the generator's.
use native.Mathlib.Omega.{arith}
use Rattle.telling.proofs.Filling.{filled_none, filled-turn, filled-all}
use Rattle.telling.proofs.fill_random.Goals as goal

pub loop-b-init : goal.loop-b-init
loop-b-init c = filled_none c.args.s.now c.args.seed

pub loop-b-preserved : goal.loop-b-preserved
loop-b-preserved c =
    let start = c.args in
    filled-turn start.s.now start.seed (omega arith) c.loop-b.invariant c.next_number-x.ensures

pub returns : goal.returns
returns c =
    let start = c.args in
    filled-all start.s.now start.seed (omega arith) c.loop-b.invariant
