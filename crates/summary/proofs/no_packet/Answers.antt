-- `summary::no_packet` meets its contract.
use mathlib.Core.Path.{refl}
use native.Mathlib.Omega.{arith}
use Rattle.laws.specs.Upto.{all_upto}
use Rattle.laws.proofs.Zeros.{zero_turn, zero-end}
use Rattle.summary.proofs.no_packet.Goals as goal

pub loop-count-init : goal.loop-count-init
unfolding all_upto
loop-count-init c = refl

pub loop-count-preserved : goal.loop-count-preserved
loop-count-preserved c =
    let q = c.loop-count in zero_turn c.args.packets.now q.count-index q.any q.invariant

pub returns : goal.returns
returns c =
    let q = c.loop-count in zero-end c.args.packets.now q.any (omega arith) q.invariant refl
