-- `test8::mark_right` meets its contract.
use Rattle.std.proofs.Common.{arith}
use Rattle.laws.proofs.Rows.{row_within}
use Rattle.layout.specs.Sizes.{table_cells}
use Rattle.layout.proofs.Ranges.{part_low}
use Rattle.test8.proofs.Notes.{part_of}
use Rattle.test8.proofs.mark_right.Goals as goal

pub nonzero_div-part : goal.nonzero_div-part
nonzero_div-part c =
    let s = c.args.p.shape in
    omega (arith, part_low s.layout s.sizes s.lays s.ranged, c.part_cells.ensures)

pub is_pure-requires : goal.is_pure-requires
is_pure-requires c =
    let a = c.args in
    let s = a.p.shape in
    let inside = row_within a.c (table_cells s.layout s.sizes) s.layout.key (omega arith) in
    (part_of s.layout s.sizes s.lays s.ranged a.p.salt a.c c.part_cells.ensures (omega arith), omega arith, omega arith)
