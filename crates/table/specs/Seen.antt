-- The cells of a session as one value, lent to be read.
use Rattle.table.specs.declared.TableRef.{TableRef}
use Rattle.table.specs.Table.{Tab, tab}

-- the cells that the slices hold
abbrev pub tab_seen : TableRef → Tab
tab_seen t = tab t.xors.now t.flows.now t.unknowns.now t.positions.now t.marks.now
