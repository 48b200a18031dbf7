use Rattle.std.proofs.Common.{◌≡◌, refl, arith, ap, ◌∙◌, length}
use Rattle.laws.specs.Upto.{each_upto}
use Rattle.counting.specs.Book.{ready_upto}
use Rattle.counting.proofs.Book.{ready-on, ready-off}
use Rattle.counting.proofs.Tally.find_ready.Goals.{then-is_ready, else-is_ready}
use Rattle.counting.proofs.Tally.find_ready.Goals as goal

pub loop-c-init : goal.loop-c-init
unfolding ready_upto each_upto
loop-c-init c = record {
  packets = refl;
  unknowns = refl;
  positions = refl;
  ready = c.requires.0;
  kept = (refl, refl, refl, refl, refl, refl, refl, refl);
}

pub loop-c-preserved : goal.loop-c-preserved
loop-c-preserved c =
    let a = c.args in
    let v = c.loop-c.invariant in
    elim c.if-is_ready.branch [
      | then-is_ready w ↦ rw w.self-is (record {
        packets = v.packets;
        unknowns = v.unknowns;
        positions = v.positions;
        ready = ready-on a.flows.now a.self.now.unknowns.now c.loop-c.c v.unknowns v.ready c.is_ready.ensures w.if-is_ready.true w.put_mark.ensures;
        kept = v.kept;
      })
      | else-is_ready w ↦ rw w.self-is (record {
        packets = v.packets;
        unknowns = v.unknowns;
        positions = v.positions;
        ready = ready-off a.flows.now a.self.now.unknowns.now c.loop-c.c v.unknowns v.ready c.is_ready.ensures w.if-is_ready.false;
        kept = v.kept;
      })
    ]

pub returns-clause-value : goal.returns-clause-value
returns-clause-value c =
    let a = c.args in
    let v = c.loop-c.invariant in
    let end : c.loop-c.c ≡ length a.flows.now = omega arith in
    let ready = v.ready ∙ ap (ready_upto a.flows.now a.self.now.unknowns.now) end in
    cc
