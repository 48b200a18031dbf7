-- `fields::copy_in` meets its contract.
use mathlib.Core.Path.{refl, ◌∙◌}
use native.Mathlib.Omega.{arith}
use native.Mathlib.Numerals.{add-one}
use Rattle.fields.proofs.Runs.{copy-turn, copy-whole}
use Rattle.fields.proofs.copy_in.Goals as goal

pub loop-i-init : goal.loop-i-init
loop-i-init c = refl

pub loop-i-preserved : goal.loop-i-preserved
loop-i-preserved c =
    rw (add-one, c.loop-i.invariant)
    (copy-turn c.loop-i.i c.args.s.now c.args.bytes.now (omega arith) (omega arith))

pub returns : goal.returns
returns c = c.loop-i.invariant ∙ copy-whole c.loop-i.i c.args.s.now c.args.bytes.now (omega arith) (omega arith)
