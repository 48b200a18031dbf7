use Rattle.std.proofs.Common.{◌≡◌, length}
use Rattle.counting.specs.Book.{book_of, TallyKept, Spans, told_each}
use Rattle.counting.proofs.Tally.tell_out.Given as goal

abbrev pub invariant-loop-c : goal.invariant-loop-c
invariant-loop-c l = record {
  spans : Spans (length l.flows) l.flows (book_of l.self);
  told : book_of l.self ≡ told_each l.v l.position l.flows l.fn.at.at l.c-index (book_of l.fn.self);
  kept : TallyKept l.self l.fn.self;
}
