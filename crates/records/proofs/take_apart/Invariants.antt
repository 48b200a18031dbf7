-- The first i records are taken apart, over what stood there.
use Rattle.std.proofs.Common.{◌≡◌}
use Rattle.list.specs.Records.{records}
use Rattle.list.specs.Found.{list_of, FoundKept}
use Rattle.records.specs.Record.{apart_upto}
use Rattle.records.proofs.take_apart.Given as goal

abbrev pub invariant-loop-i : goal.invariant-loop-i
invariant-loop-i l = record {
  apart : list_of l.found ≡ apart_upto l.i l.list (records l.fn.keys l.fn.counts l.fn.flags);
  kept : FoundKept l.found l.initial.found;
}
