-- The lines of the first i records are added.
use Rattle.laws.specs.Upto.{join_upto}
use Rattle.lines.specs.Page.{Adds}
use Rattle.list.specs.Seen.{list_seen}
use Rattle.printing.specs.Print.{record_line}
use Rattle.printing.proofs.put_records.Given as goal

abbrev pub invariant-loop-i : goal.invariant-loop-i
invariant-loop-i l = Adds l.initial.page l.page (join_upto l.i (record_line (list_seen l.found)))
