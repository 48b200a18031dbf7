use Rattle.counting.specs.Book.{book_of}
use Rattle.counting.proofs.Book.{told_is}
use Rattle.counting.proofs.Tally.tell_one.Goals as goal

pub returns-clause-value : goal.returns-clause-value
returns-clause-value c =
    let a = c.args in
    told_is a.v a.position a.flows.now a.c (book_of a.self.now) c.saturating_sub.ensures c.saturating_sub-2.ensures c.is_ready-on.ensures c.put_mark.ensures
