-- `session::tested` meets its contract.
use mathlib.Core.Path.{sym}
use Rattle.std.proofs.lemmas.Result.{err_from_is_err_and}
use Rattle.laws.proofs.Bools.{held, failed}
use Rattle.layout.proofs.Ranges.{shape-made, shape-refused}
use Rattle.list.specs.Seen.{list_seen}
use Rattle.table.specs.Seen.{tab_seen}
use Rattle.room.specs.Seen.{memory_seen}
use Rattle.room.proofs.Laws.{rooms-told, tested-sizes, tested-room, tested-rest, tested-passed}
use Rattle.session.proofs.Answers.{seen_all}
use Rattle.session.proofs.tested.Goals as goal

pub returns-in_err-shape-clause-test : goal.returns-in_err-shape-clause-test
returns-in_err-shape-clause-test c =
    let r = shape-refused _ _ _ c.ok_or.ensures.value c.new.ensures.test c.in_err-shape.was in
    let p = err_from_is_err_and c.from_residual.result c.from_residual.ensures.1 in
    rw (p.1, p.2, ← r.1) (sym (tested-sizes _ _ _ _ _ _ r.0))

pub returns-then-not-fits-clause-test : goal.returns-then-not-fits-clause-test
returns-then-not-fits-clause-test c =
    let m = shape-made _ _ _ _ c.ok_or.ensures.value c.new.ensures.test c.new.ensures.parts c.in_ok-shape.was in
    sym (tested-room _ _ _ _ _ _ m.0 (failed (rw (m.1, m.2) at c.fits.ensures) c.if-not-fits.true))

pub is_session_seen-requires : goal.is_session_seen-requires
is_session_seen-requires c =
    let z = c.in_ok-shape.shape in
    let r = rooms-told z.layout z.sizes z.lays z.ranged (memory_seen c.args.room) (held c.fits.ensures c.if-not-fits.false) in
    rw c.new-p.ensures.0 (r.table, r.room, c.requires.1)

pub returns-then-not-is_session_seen-clause-test : goal.returns-then-not-is_session_seen-clause-test
returns-then-not-is_session_seen-clause-test c =
    let m = shape-made _ _ _ _ c.ok_or.ensures.value c.new.ensures.test c.new.ensures.parts c.in_ok-shape.was in
    let e = rw (c.new-p.ensures.0, c.new-p.ensures.1, m.1, m.2) at c.is_session_seen.ensures.0 in
    sym (tested-rest _ _ _ _ _ _ m.0 (held (rw (m.1, m.2) at c.fits.ensures) c.if-not-fits.false) (failed e c.if-not-is_session_seen.true))

pub returns-clause-test : goal.returns-clause-test
returns-clause-test c =
    let m = shape-made _ _ _ _ c.ok_or.ensures.value c.new.ensures.test c.new.ensures.parts c.in_ok-shape.was in
    let e = rw (c.new-p.ensures.0, c.new-p.ensures.1, m.1, m.2) at c.is_session_seen.ensures.0 in
    sym (tested-passed _ _ _ _ _ _ m.0 (held (rw (m.1, m.2) at c.fits.ensures) c.if-not-fits.false) (held e c.if-not-is_session_seen.false))

pub returns-clause-seen : goal.returns-clause-seen
returns-clause-seen c =
    let m = shape-made _ _ _ _ c.ok_or.ensures.value c.new.ensures.test c.new.ensures.parts c.in_ok-shape.was in
    let e = rw (c.new-p.ensures.0, c.new-p.ensures.1, m.1, m.2) at c.is_session_seen.ensures.0 in
    let f = rw (c.new-p.ensures.0, c.new-p.ensures.1, m.1, m.2) at c.is_session_seen.ensures.1 in
    seen_all c.args.l c.args.s.sizes c.args.s.salt c.args.s.listed (tab_seen c.args.room.table) (list_seen c.args.room.list) c.args.seen.now
    (held e c.if-not-is_session_seen.false) f
