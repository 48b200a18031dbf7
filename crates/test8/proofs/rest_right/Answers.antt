-- `test8::rest_right` meets its contract.
use Rattle.std.proofs.Common.{◌∙◌, sym, ap, arith}
use Rattle.layout.proofs.Ranges.{table-high}
use Rattle.marks.specs.Marks.{words_for}
use Rattle.test8.proofs.rest_right.Goals as goal

pub numbers_in-requires : goal.numbers_in-requires
numbers_in-requires c =
    let s = c.args.p.shape in
    let high = table-high s.layout s.sizes s.lays s.ranged in
    (omega (arith, c.requires.1.flags-fit), omega arith, omega (arith, c.requires.0.flows-fit))

pub rest_clear-requires : goal.rest_clear-requires
rest_clear-requires c =
    let s = c.args.p.shape in
    (c.requires.0.marks-fit ∙ ap words_for (sym c.table_cells-cells.ensures), omega (arith, c.table_cells-cells.ensures, table-high s.layout s.sizes s.lays s.ranged))

pub are_kept-requires : goal.are_kept-requires
are_kept-requires c =
    let s = c.args.p.shape in
    let e = c.table_cells-cells.ensures in
    (omega (arith, e, table-high s.layout s.sizes s.lays s.ranged), c.requires.0.unknowns-fit ∙ sym e, c.requires.0.positions-fit ∙ sym e)
