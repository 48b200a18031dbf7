-- The first i records are put together again, over what stood there.
use Rattle.std.proofs.Common.{◌≡◌}
use Rattle.list.specs.Seen.{list_seen}
use Rattle.records.specs.Record.{together_upto}
use Rattle.records.proofs.put_back.Given as goal

abbrev pub invariant-loop-i : goal.invariant-loop-i
invariant-loop-i l = l.list ≡ together_upto l.i (list_seen l.found) l.fn.list
