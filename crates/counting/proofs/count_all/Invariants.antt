use Rattle.std.proofs.Common.{◌-◌}
use Rattle.list.specs.Records.{records}
use Rattle.counting.specs.Book.{book_of, TallyKept}
use Rattle.counting.specs.Count.{counts_of}
use Rattle.counting.proofs.Loop.{Going}
use Rattle.counting.proofs.count_all.Given as goal

abbrev pub invariant-loop : goal.invariant-loop
invariant-loop l = record {
  going : Going l.p.shape.layout l.p.shape.sizes l.p.salt l.n l.flows (l.n - l.counter) (book_of l.tally) (records l.keys l.counts l.flags)
      (counts_of l.p.shape.layout l.p.shape.sizes l.p.salt l.n l.flows l.fn.packets l.fn.unknowns l.fn.positions (records l.fn.keys l.fn.counts l.fn.flags));
  tally : TallyKept l.tally l.initial.tally;
}
