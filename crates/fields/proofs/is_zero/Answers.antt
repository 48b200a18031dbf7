-- `fields::is_zero` meets its contract.
use mathlib.Core.Path.{refl}
use native.Mathlib.Omega.{arith}
use Rattle.laws.specs.Upto.{all_upto}
use Rattle.laws.proofs.Zeros.{zero_turn, zero-end}
use Rattle.fields.proofs.is_zero.Goals as goal

pub loop-byte-init : goal.loop-byte-init
unfolding all_upto
loop-byte-init c = refl

pub loop-byte-preserved : goal.loop-byte-preserved
loop-byte-preserved c =
    let q = c.loop-byte in
    zero_turn c.args.s.now q.byte-index q.any q.invariant

pub returns : goal.returns
returns c =
    let q = c.loop-byte in
    zero-end c.args.s.now q.any (omega arith) q.invariant refl
