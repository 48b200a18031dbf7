-- A line a turn.
use native.Mathlib.Omega.{arith}
use Rattle.list.specs.Seen.{list_seen}
use Rattle.printing.proofs.Records.{record-room, none-added, one-added}
use Rattle.printing.proofs.put_records.Goals as goal

pub loop-i-init : goal.loop-i-init
loop-i-init c = none-added (list_seen c.args.found) c.requires.0

pub put_record-requires : goal.put_record-requires
put_record-requires c = (
  record-room (list_seen c.args.found) c.args.n c.loop-i.i c.requires.0 c.loop-i.invariant c.loop-i-test.true,
  omega arith,
  omega arith,
  omega arith,
)

pub loop-i-preserved : goal.loop-i-preserved
loop-i-preserved c = one-added (list_seen c.args.found) c.loop-i.i c.loop-i.invariant c.put_record.ensures
