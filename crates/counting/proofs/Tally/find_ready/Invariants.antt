use Rattle.std.proofs.Common.{◌≡◌}
use Rattle.counting.specs.Book.{TallyKept, ready_upto}
use Rattle.counting.proofs.Tally.find_ready.Given as goal

abbrev pub invariant-loop-c : goal.invariant-loop-c
invariant-loop-c l = record {
  packets : l.self.packets.now ≡ l.fn.self.packets.now;
  unknowns : l.self.unknowns.now ≡ l.fn.self.unknowns.now;
  positions : l.self.positions.now ≡ l.fn.self.positions.now;
  ready : l.self.ready.now ≡ ready_upto l.flows l.fn.self.unknowns.now l.c;
  kept : TallyKept l.self l.fn.self;
}
