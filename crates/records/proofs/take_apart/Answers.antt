-- A turn stores record i.
use Rattle.std.proofs.Common.{refl, ◌∙◌}
use Rattle.list.specs.Records.{records}
use Rattle.list.specs.Found.{list_of}
use Rattle.records.specs.Record.{stored}
use Rattle.records.proofs.Laws.{apart_none, apart-turn, apart-inside}
use Rattle.records.proofs.take_apart.Goals as goal

pub loop-i-init : goal.loop-i-init
loop-i-init c = record {
  apart = apart_none c.args.list.now (records c.args.keys.now c.args.counts.now c.args.flags.now);
  kept = (refl, refl, refl, refl, refl, refl);
}

pub store-requires : goal.store-requires
store-requires c =
    apart-inside c.args.n c.loop-i.i c.args.list.now (records c.args.keys.now c.args.counts.now c.args.flags.now) (list_of c.loop-i.found)
    c.requires.1 c.loop-i-test.true c.loop-i.invariant.apart

pub loop-i-preserved : goal.loop-i-preserved
loop-i-preserved c =
    let rs = records c.args.keys.now c.args.counts.now c.args.flags.now in record {
      apart = c.store.ensures.value ∙ (λ j. stored c.loop-i.i (c.read.ensures j) (c.loop-i.invariant.apart j))
          ∙ apart-turn c.args.n c.loop-i.i c.args.list.now rs c.requires.1 c.loop-i-test.true;
      kept =
          let p = c.store.ensures.kept in
          let q = c.loop-i.invariant.kept in
          (p.0 ∙ q.0, p.1 ∙ q.1, p.2 ∙ q.2, p.3 ∙ q.3, p.4 ∙ q.4, p.5 ∙ q.5);
    }
