-- `handing::hand` meets its contract.
use native.Mathlib.Omega.{arith}
use Rattle.std.proofs.lemmas.Result.{err_from_is_err_and}
use Rattle.layout.proofs.Ranges.{table-high}
use Rattle.list.specs.Found.{list_of}
use Rattle.list.proofs.Laws.{key-inside, keys-inside}
use Rattle.table.specs.Table.{tab_of}
use Rattle.peeling.proofs.Answers.{first_two, listed-few}
use Rattle.handing.proofs.Answers.{hand-other, hand-taken, taken-room}
use Rattle.handing.proofs.hand.Goals as goal

pub answer-requires : goal.answer-requires
answer-requires c =
    let f = c.requires.steady.fits in
    (c.cells_of-at.ensures, c.requires.key_fits, c.requires.filter-fits, f.table.flows-fit, keys-inside c.args.n f.room f.listed, listed-few _ _ _ _ _ _ _ f, f.covers)

pub returns-in_err-answer-clause-value : goal.returns-in_err-answer-clause-value
returns-in_err-answer-clause-value c =
    let a = c.args in
    let s = a.p.shape in
    let q = err_from_is_err_and c.from_residual.result c.from_residual.ensures.1 in
    rw (q.1, q.2)
    (hand-other s.layout s.sizes a.p.salt a.n a.key.now a.filter.now (tab_of a.table.now) (list_of a.found.now) a.seen.now c.requires.handed-is
    c.answer.ensures c.in_err-answer.was)

pub append-requires : goal.append-requires
append-requires c =
    let h = c.requires in
    let r = h.steady.fits.room in
    let room = taken-room _ _ _ _ _ _ _ _ _ _ h c.answer.ensures c.in_ok-answer.was in
    (h.key_fits, key-inside c.args.n r room, omega (arith, r.counts-fit, room), omega (arith, r.flags-fit, room))

pub bucket-requires : goal.bucket-requires
bucket-requires c = first_two _ _ _ _ _ _ _ c.requires.steady.fits c.args.key.now c.cells_of-at.ensures

pub link-requires : goal.link-requires
link-requires c =
    let h = c.requires in
    let s = c.args.p.shape in
    let room = taken-room _ _ _ _ _ _ _ _ _ _ h c.answer.ensures c.in_ok-answer.was in
    (h.steady.fits.covers.sized, omega (arith, c.bucket.ensures), omega (arith, room, table-high s.layout s.sizes s.lays s.ranged))

pub overflow_cast-n : goal.overflow_cast-n
overflow_cast-n c =
    let s = c.args.p.shape in
    omega (arith, c.requires.steady.fits.listed, table-high s.layout s.sizes s.lays s.ranged)

pub take_out-requires : goal.take_out-requires
take_out-requires c = (c.requires.steady.fits.table, c.cells_of-at.ensures, c.requires.key_fits)

pub returns-clause-value : goal.returns-clause-value
returns-clause-value c =
    let a = c.args in
    let s = a.p.shape in
    hand-taken s.layout s.sizes a.p.salt a.n a.key.now a.filter.now (tab_of a.table.now) (list_of a.found.now) a.seen.now c.requires.handed-is
    c.answer.ensures c.in_ok-answer.was c.cells_of-at.ensures c.append.ensures.value c.bucket.ensures c.link.ensures c.take_out.ensures.value
