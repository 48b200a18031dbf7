-- `peeling::peel` meets its contract.
use mathlib.Core.Path.{sym, ap, ◌∙◌}
use native.Mathlib.Omega.{arith}
use lib.ListN.{length}
use Rattle.laws.specs.Upto.{list_upto}
use Rattle.layout.proofs.Ranges.{table-high}
use Rattle.hash.specs.Places.{cell_of}
use Rattle.list.proofs.Laws.{key-inside, keys-inside}
use Rattle.peeling.proofs.Answers.{key_back, back_inside, first_two, all-places, listed-few, leads-to, marked-length, marked-room}
use Rattle.peeling.proofs.Answers.{peel-none, peel-quiet, peel-damaged, peel-taken}
use Rattle.peeling.proofs.peel.Goals as goal

pub first_mark-requires : goal.first_mark-requires
first_mark-requires c =
    let p = c.args.p.shape in
    omega (arith, c.requires.0.table.marks-fit, table-high p.layout p.sizes p.lays p.ranged)

pub returns-in_default-clause-value : goal.returns-in_default-clause-value
returns-in_default-clause-value c = peel-none _ _ _ _ _ _ _ c.requires.0 c.in_default.ensures

pub returns-then-c-table_cells-clause-value : goal.returns-then-c-table_cells-clause-value
returns-then-c-table_cells-clause-value c =
    peel-quiet _ _ _ _ _ _ _ c.requires.0 c.table_cells.ensures c.in-Some.ensures c.if-c-table_cells.true

pub is_damaged-requires : goal.is_damaged-requires
is_damaged-requires c =
    let f = c.requires.0 in (
      first_two _ _ _ _ _ _ _ f c.key-key.result.now c.cells_of-at.ensures,
      listed-few _ _ _ _ _ _ _ f,
      keys-inside c.args.n f.room f.listed,
      marked-length _ _ _ _ _ _ _ f c.table_cells.ensures c.in-Some.ensures c.if-c-table_cells.false c.key-key.ensures,
      leads-to _ _ _ _ _ _ _ f c.key-key.result.now c.cells_of-at.ensures,
      all-places _ _ _ _ _ _ _ f c.key-key.result.now c.cells_of-at.ensures,
    )

pub returns-then-is_damaged-clause-value : goal.returns-then-is_damaged-clause-value
returns-then-is_damaged-clause-value c =
    peel-damaged _ _ _ _ _ _ _ c.requires.0 c.table_cells.ensures c.in-Some.ensures c.if-c-table_cells.false c.key-key.ensures
    c.cells_of-at.ensures c.is_damaged.ensures c.if-is_damaged.true

pub append-requires : goal.append-requires
append-requires c =
    let f = c.requires.0 in
    let room = marked-room _ _ _ _ _ _ _ f c.table_cells.ensures c.in-Some.ensures c.if-c-table_cells.false c.requires.1 in (
      marked-length _ _ _ _ _ _ _ f c.table_cells.ensures c.in-Some.ensures c.if-c-table_cells.false c.key-key.ensures,
      key-inside c.args.n f.room room,
      omega (arith, f.room.counts-fit, room),
      omega (arith, f.room.flags-fit, room),
    )

pub bucket-requires : goal.bucket-requires
bucket-requires c = first_two _ _ _ _ _ _ _ c.requires.0 c.key-key.result.now c.cells_of-at.ensures

pub link-requires : goal.link-requires
link-requires c =
    let f = c.requires.0 in
    let p = c.args.p.shape in
    let room = marked-room _ _ _ _ _ _ _ f c.table_cells.ensures c.in-Some.ensures c.if-c-table_cells.false c.requires.1 in
    (f.covers.sized, omega (arith, c.bucket.ensures), omega (arith, table-high p.layout p.sizes p.lays p.ranged, room))

pub key-requires : goal.key-requires
key-requires c =
    let f = c.requires.0 in
    let room = marked-room _ _ _ _ _ _ _ f c.table_cells.ensures c.in-Some.ensures c.if-c-table_cells.false c.requires.1 in
    back_inside c.args.p.shape.layout c.args.n _ 0 _ f.room room c.append.ensures.value

pub overflow_cast-n : goal.overflow_cast-n
overflow_cast-n c =
    let p = c.args.p.shape in
    omega (arith, c.requires.0.listed, table-high p.layout p.sizes p.lays p.ranged)

pub take_out-requires : goal.take_out-requires
take_out-requires c =
    let f = c.requires.0 in
    let p = c.args.p.shape in
    let room = marked-room _ _ _ _ _ _ _ f c.table_cells.ensures c.in-Some.ensures c.if-c-table_cells.false c.requires.1 in
    let long = marked-length _ _ _ _ _ _ _ f c.table_cells.ensures c.in-Some.ensures c.if-c-table_cells.false c.key-key.ensures in
    let back = c.key.ensures ∙ key_back p.layout c.args.n c.key-key.result.now 0 _ f.room room long c.append.ensures.value in
    (f.table, c.cells_of-at.ensures ∙ ap (λ k. list_upto 4 (cell_of p.layout p.sizes c.args.p.salt k)) (sym back), ap length back ∙ long)

pub returns-clause-value : goal.returns-clause-value
returns-clause-value c =
    let f = c.requires.0 in
    let p = c.args.p.shape in
    let room = marked-room _ _ _ _ _ _ _ f c.table_cells.ensures c.in-Some.ensures c.if-c-table_cells.false c.requires.1 in
    let long = marked-length _ _ _ _ _ _ _ f c.table_cells.ensures c.in-Some.ensures c.if-c-table_cells.false c.key-key.ensures in
    let back = c.key.ensures ∙ key_back p.layout c.args.n c.key-key.result.now 0 _ f.room room long c.append.ensures.value in
    peel-taken _ _ _ _ _ _ _ f c.table_cells.ensures c.in-Some.ensures c.if-c-table_cells.false c.key-key.ensures
    c.cells_of-at.ensures c.is_damaged.ensures c.if-is_damaged.false
    c.append.ensures.value c.bucket.ensures c.link.ensures back c.take_out.ensures.value
