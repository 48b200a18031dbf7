-- `source::read_full` meets its contract: one read more keeps what the loop keeps.
use Rattle.std.proofs.Common.{rules}
use Rattle.source.proofs.Turn.{read-more}
use Rattle.source.proofs.read_full.Goals as goal

pub loop-done-preserved : goal.loop-done-preserved
loop-done-preserved g c =
    let before = c.loop-done.invariant in
    let read = c.in_ok-n.ensures in
    (search rules, read-more _ _ _ c.loop-done.done c.in_ok-n.n c.loop-done.buffer c.read.new.buf _ before.0 read.bound.0 before.1 read.bytes.0)
