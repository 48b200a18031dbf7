-- `hash::Fnv::bytes` meets its contract.
use mathlib.Core.Path.{refl, ◌∙◌}
use Rattle.hash.specs.Fnv.{absorb}
use Rattle.hash.proofs.Chain.{absorb-next, absorb-whole}
use Rattle.hash.proofs.Fnv.bytes.Goals as goal

pub loop-b-init : goal.loop-b-init
unfolding absorb
loop-b-init c = refl

pub loop-b-preserved : goal.loop-b-preserved
loop-b-preserved c =
    rw (c.byte-f.ensures, c.loop-b.invariant) (absorb-next c.args.self.state c.args.s.now c.loop-b.b-index c.loop-b-test.true)

pub returns : goal.returns
returns c = c.loop-b.invariant ∙ absorb-whole c.args.self.state c.args.s.now c.loop-b.b-index c.loop-b-test.false
