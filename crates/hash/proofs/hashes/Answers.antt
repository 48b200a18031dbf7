-- `hash::hashes` meets its contract.
use Rattle.hash.specs.Fnv.{step}
use Rattle.hash.proofs.Chain.{absorbed-begin, absorbed-on, absorbed-end}
use Rattle.hash.proofs.hashes.Goals as goal

pub loop-b-init : goal.loop-b-init
loop-b-init g c = absorbed-begin g.row.N (step c.args.f.state) c.args.key.now c.indexed-states.ensures

pub loop-b-preserved : goal.loop-b-preserved
loop-b-preserved g c =
    absorbed-on g.row.N (step c.args.f.state) c.args.key.now c.loop-b.b-index c.loop-b-test.true c.loop-b.invariant c.step_all-next.ensures

pub returns : goal.returns
returns g c = absorbed-end g.row.N c.args.f.state c.args.key.now c.loop-b.b-index c.loop-b-test.false c.loop-b.invariant
