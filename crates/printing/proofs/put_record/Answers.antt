-- The line that is written is the record's.
use Rattle.list.specs.Seen.{list_seen}
use Rattle.printing.proofs.Records.{record_is}
use Rattle.printing.proofs.put_record.Goals as goal

pub flow-requires : goal.flow-requires
flow-requires c = rw (record_is (list_seen c.args.found) c.args.i c.key_at.ensures c.then_some-count.ensures) c.requires.0

pub returns : goal.returns
returns c = rw (record_is (list_seen c.args.found) c.args.i c.key_at.ensures c.then_some-count.ensures) at c.flow.ensures
