-- The numbers at a position are a record.
use Rattle.list.specs.Seen.{list_seen}
use Rattle.records.proofs.Laws.{loads}
use Rattle.records.proofs.load.Goals as goal

pub returns : goal.returns
returns c = loads (list_seen c.args.found) c.args.i c.key_at.ensures
