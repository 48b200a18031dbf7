-- `hash::fnv_of_four` meets its contract.
use mathlib.Core.Path.{refl}
use native.Mathlib.Omega.{arith}
use Rattle.hash.specs.Fnv.{absorb}
use Rattle.hash.proofs.Chain.{four-on, four-whole}
use Rattle.hash.proofs.fnv_of_four.Goals as goal

pub loop-i-init : goal.loop-i-init
unfolding absorb
loop-i-init c = refl

pub loop-i-preserved : goal.loop-i-preserved
loop-i-preserved c =
    let s = c.args in
    four-on s.a.now s.b.now s.c.now s.d.now c.loop-i.i (omega arith) (omega arith) (omega arith) (omega arith) c.loop-i.invariant
    c.step_each-next.ensures

pub returns : goal.returns
returns c =
    let s = c.args in
    four-whole s.a.now s.b.now s.c.now s.d.now c.loop-i.i (omega arith) (omega arith) (omega arith) (omega arith) c.loop-i.invariant
