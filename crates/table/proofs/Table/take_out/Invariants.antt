use Rattle.std.proofs.Common.{◌≡◌}
use Rattle.table.specs.Table.{tab_of, TableKept, Fit}
use Rattle.table.proofs.Parts.{taken_upto}
use Rattle.table.proofs.Table.take_out.Given as goal

abbrev pub invariant-loop-i : goal.invariant-loop-i
invariant-loop-i l = record {
  fit : Fit l.p.shape.layout l.p.shape.sizes (tab_of l.self);
  taken : tab_of l.self ≡ taken_upto l.p.shape.layout l.p.shape.sizes l.p.salt l.key l.position l.i (tab_of l.initial.self);
  kept : TableKept l.self l.initial.self;
}
