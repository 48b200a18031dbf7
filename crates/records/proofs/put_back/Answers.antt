-- A turn puts record i in its place.
use Rattle.std.proofs.Common.{◌∙◌, arith, set}
use Rattle.list.specs.Records.{records}
use Rattle.records.proofs.Laws.{together-none, together-turn}
use Rattle.records.proofs.put_back.Goals as goal

pub loop-i-init : goal.loop-i-init
loop-i-init c = together-none (records c.args.keys.now c.args.counts.now c.args.flags.now) c.args.list.now

pub loop-i-preserved : goal.loop-i-preserved
loop-i-preserved c =
    let rs = records c.args.keys.now c.args.counts.now c.args.flags.now in
    c.put.ensures ∙ (λ j. set (c.loop-i.invariant j) c.loop-i.i (c.load.ensures j))
    ∙ together-turn c.loop-i.i rs c.args.list.now (omega arith)
