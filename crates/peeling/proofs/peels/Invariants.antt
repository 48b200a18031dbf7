use Prim.Native.Nat.{◌*◌, ◌-◌}
use Rattle.layout.specs.Sizes.{table_cells}
use Rattle.list.specs.Found.{list_of, FoundKept}
use Rattle.table.specs.Table.{tab_of, TableKept}
use Rattle.peeling.specs.Peel.{peels_of}
use Rattle.peeling.proofs.Loop.{Going}
use Rattle.peeling.proofs.peels.Given as goal

abbrev pub invariant-loop-listed : goal.invariant-loop-listed
invariant-loop-listed l = record {
  going : Going l.p.shape.layout l.p.shape.sizes l.p.salt l.listed (tab_of l.table) (list_of l.found) l.seen
      (peels_of l.p.shape.layout l.p.shape.sizes l.p.salt l.n (tab_of l.initial.table) (list_of l.initial.found) l.initial.seen);
  table-kept : TableKept l.table l.initial.table;
  found-kept : FoundKept l.found l.initial.found;
}

abbrev pub decreases-loop-listed : goal.decreases-loop-listed
decreases-loop-listed l = 2 * table_cells l.p.shape.layout l.p.shape.sizes - l.listed
