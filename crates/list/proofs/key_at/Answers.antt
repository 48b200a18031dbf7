use native.Mathlib.Omega.{arith}
use Rattle.list.proofs.Laws.{key-part}
use Rattle.list.proofs.key_at.Goals as goal

pub returns : goal.returns
returns c = key-part c.args.l c.args.keys.now c.args.i (omega arith)
