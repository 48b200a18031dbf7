-- `sealing::seal_in` meets its contract: each refusal leaves the image as it was.
use mathlib.Core.Path.{ap}
use native.Mathlib.Omega.{arith}
use Rattle.std.proofs.Common.{Ok}
use Rattle.std.proofs.lemmas.Result.{err_from_is_err_and}
use Rattle.laws.proofs.Bools.{failed, held}
use Rattle.layout.specs.Sizes.{cell_bytes}
use Rattle.layout.proofs.Ranges.{shape-made, shape-refused}
use Rattle.sealing.specs.Seal.{seal_of, sealing}
use Rattle.sealing.proofs.Stores.{rooms}
use Rattle.sealing.proofs.seal_in.Goals as goal

pub returns-in_err-shape : goal.returns-in_err-shape
unfolding seal_of
returns-in_err-shape c =
    let r = shape-refused _ _ _ c.ok_or.ensures.value c.new.ensures.test c.in_err-shape.was in
    let p = err_from_is_err_and c.from_residual.result c.from_residual.ensures.1 in
    rw (p.1, p.2, r.0, r.1)

pub returns-then-not-seal_rooms : goal.returns-then-not-seal_rooms
unfolding seal_of
returns-then-not-seal_rooms c =
    let m = shape-made _ _ _ _ c.ok_or.ensures.value c.new.ensures.test c.new.ensures.parts c.in_ok-shape.was in
    let f = failed (rw (m.1, m.2) at c.seal_rooms.ensures) c.if-not-seal_rooms.true in
    rw (m.0, f)

pub zero_bytes-requires : goal.zero_bytes-requires
unfolding cell_bytes
zero_bytes-requires c =
    let s = c.in_ok-shape.shape in
    let r = rooms s.layout s.sizes _ _ _ (held c.seal_rooms.ensures c.if-not-seal_rooms.false) in
    rw c.table_cells.ensures (omega (arith, r.1))

pub returns-then-not-zero_bytes : goal.returns-then-not-zero_bytes
unfolding seal_of
returns-then-not-zero_bytes c =
    let m = shape-made _ _ _ _ c.ok_or.ensures.value c.new.ensures.test c.new.ensures.parts c.in_ok-shape.was in
    let f = held (rw (m.1, m.2) at c.seal_rooms.ensures) c.if-not-seal_rooms.false in
    let n = failed (rw (c.table_cells.ensures, m.1, m.2) at c.zero_bytes.ensures) c.if-not-zero_bytes.true in
    rw (m.0, f, n)

pub returns : goal.returns
unfolding seal_of
returns c =
    let m = shape-made _ _ _ _ c.ok_or.ensures.value c.new.ensures.test c.new.ensures.parts c.in_ok-shape.was in
    let f = held (rw (m.1, m.2) at c.seal_rooms.ensures) c.if-not-seal_rooms.false in
    let n = held (rw (c.table_cells.ensures, m.1, m.2) at c.zero_bytes.ensures) c.if-not-zero_bytes.false in
    rw (m.0, f, n) (ap (sealing (Ok tt)) (rw (m.1, m.2) at c.put_image.ensures))
