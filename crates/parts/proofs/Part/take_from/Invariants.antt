use Rattle.std.proofs.Common.{◌≡◌}
use Rattle.parts.specs.Parts.{given_in, PartKept}
use Rattle.parts.proofs.Taking.{Taking}
use Rattle.parts.proofs.Part.take_from.Given as goal

abbrev pub invariant-loop-i : goal.invariant-loop-i
invariant-loop-i l =
    let p = l.initial.self in
    record {
      taking : Taking p.placing.shape.layout p.placing.shape.sizes p.placing.salt p.filter.now l.other.keys.now l.other.listed
          (given_in p 0) l.i l.handed (given_in l.self l.twelves);
      packets : l.self.packets.now ≡ p.packets.now;
      kept : PartKept l.self p;
    }
