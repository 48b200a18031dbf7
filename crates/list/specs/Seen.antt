-- The found flows as one value, lent to be read.
use Rattle.list.specs.declared.FoundRef.{FoundRef}
use Rattle.list.specs.Records.{Records, records}

-- the records that the slices hold
abbrev pub list_seen : FoundRef → Records
list_seen f = records f.keys.now f.counts.now f.flags.now
