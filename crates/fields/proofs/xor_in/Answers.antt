-- `fields::xor_in` meets its contract.
use mathlib.Core.Path.{sym, ◌∙◌}
use native.Mathlib.Omega.{arith}
use native.Mathlib.Numerals.{add-one}
use Rattle.fields.proofs.Runs.{xor-none, xor-turn, xor-whole}
use Rattle.fields.proofs.xor_in.Goals as goal

pub loop-i-init : goal.loop-i-init
loop-i-init c = sym (xor-none c.args.s.now c.args.bytes.now)

pub loop-i-preserved : goal.loop-i-preserved
loop-i-preserved c =
    rw (add-one, c.loop-i.invariant)
    (xor-turn c.loop-i.i c.args.s.now c.args.bytes.now (omega arith) (omega arith))

pub returns : goal.returns
returns c = c.loop-i.invariant ∙ xor-whole c.loop-i.i c.args.s.now c.args.bytes.now (omega arith) (omega arith)
