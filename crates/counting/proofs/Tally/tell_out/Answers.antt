use Rattle.std.proofs.Common.{refl, ap, ◌∙◌, arith}
use Rattle.laws.specs.Upto.{each_upto}
use Rattle.laws.proofs.Fronts.{front_at, front_end}
use Rattle.counting.specs.Book.{book_of, told_at, told_each}
use Rattle.counting.proofs.Book.{spans-next, told-turn}
use Rattle.counting.proofs.Tally.tell_out.Goals as goal

pub loop-c-init : goal.loop-c-init
unfolding told_each each_upto
loop-c-init c = record {
  spans = c.requires.2;
  told = refl;
  kept = (refl, refl, refl, refl, refl, refl, refl, refl);
}

pub tell_one-requires : goal.tell_one-requires
tell_one-requires c =
    let a = c.args in
    let f = front_at a.at.at a.k c.loop-c.c-index (omega arith) c.loop-c-test.true in
    let w = c.requires.1 c.loop-c.c-index f.0 in
    let s = c.loop-c.invariant.spans in
    rw f.1 (w, omega (arith, s.packets-fit), omega (arith, s.unknowns-fit), omega (arith, s.positions-fit), omega (arith, s.ready-fit, s.few))

pub loop-c-preserved : goal.loop-c-preserved
loop-c-preserved c =
    let a = c.args in
    let i = c.loop-c.c-index in
    let f = front_at a.at.at a.k i (omega arith) c.loop-c-test.true in
    record {
      spans = spans-next a.v a.position a.flows.now _ c.tell_one.ensures.value c.loop-c.invariant.spans;
      told = told-turn a.v a.position a.flows.now a.at.at i (book_of a.self.now) c.loop-c.invariant.told
          (c.tell_one.ensures.value ∙ ap (λ m. told_at a.v a.position a.flows.now m (book_of c.loop-c.self)) f.1);
      kept = (cc, cc, cc, cc, cc, cc, cc, cc);
    }

pub returns-clause-value : goal.returns-clause-value
returns-clause-value c =
    let a = c.args in
    c.loop-c.invariant.told
    ∙ ap (λ m. told_each a.v a.position a.flows.now a.at.at m (book_of a.self.now)) (front_end a.at.at a.k c.loop-c.c-index (omega arith) c.loop-c.auto.c-index-end c.loop-c-test.false)
