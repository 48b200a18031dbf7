-- `reading::read_in` meets its contract: one law for each return.
use mathlib.Core.Path.{sym, ap, ◌∙◌}
use Prim.Native.Nat.{◌*◌, ◌-◌}
use native.Mathlib.Omega.{arith}
use Rattle.std.proofs.lemmas.Result.{err_from_is_err_and}
use Rattle.laws.proofs.Bools.{failed, held}
use Rattle.layout.specs.Sizes.{in_range, blocks}
use Rattle.layout.proofs.Ranges.{shape-made, shape-refused, blocks-high}
use Rattle.reading.specs.Read.{read_later}
use Rattle.reading.proofs.Returns.{one_block, read_length, read-check, read-range, read-form, read_short, read-stale, read-on}
use Rattle.reading.proofs.read_in.Goals as goal

pub returns-then-bad_length : goal.returns-then-bad_length
returns-then-bad_length c =
    read_length c.args.l c.args.image.now c.args.slot (held c.bad_length.ensures c.if-bad_length.true)

pub slice_bounds-b-end : goal.slice_bounds-b-end
slice_bounds-b-end c = omega (arith, one_block _ (failed c.bad_length.ensures c.if-bad_length.false))

pub returns-then-not-checks : goal.returns-then-not-checks
returns-then-not-checks c =
    read-check c.args.l c.args.image.now c.args.slot
    (failed c.bad_length.ensures c.if-bad_length.false)
    (failed c.checks.ensures c.if-not-checks.true)

pub returns-in_err-shape : goal.returns-in_err-shape
returns-in_err-shape c =
    let r = shape-refused _ _ _ c.ok_or.ensures.value c.new.ensures.test c.in_err-shape.was in
    let p = err_from_is_err_and c.from_residual.result c.from_residual.ensures.1 in
    rw (p.1, p.2, ← r.1)
    (read-range c.args.l c.args.image.now c.args.slot
    (failed c.bad_length.ensures c.if-bad_length.false)
    (held c.checks.ensures c.if-not-checks.false)
    c.sizes_in.ensures r.0)

pub returns-then-not-formed : goal.returns-then-not-formed
returns-then-not-formed c =
    let m = shape-made _ _ _ _ c.ok_or.ensures.value c.new.ensures.test c.new.ensures.parts c.in_ok-shape.was in
    read-form c.args.l c.args.image.now c.args.slot
    (failed c.bad_length.ensures c.if-bad_length.false)
    (held c.checks.ensures c.if-not-checks.false)
    (m.2 ∙ c.sizes_in.ensures) (ap in_range m.2 ∙ m.0)
    (failed (rw m.1 at c.formed.ensures) c.if-not-formed.true)

pub overflow_mul-block_count : goal.overflow_mul-block_count
overflow_mul-block_count c =
    let s = c.in_ok-shape.shape in
    omega (arith, c.block_count.ensures, blocks-high s.sizes s.ranged)

pub returns-then-image-block_count : goal.returns-then-image-block_count
returns-then-image-block_count c =
    let m = shape-made _ _ _ _ c.ok_or.ensures.value c.new.ensures.test c.new.ensures.parts c.in_ok-shape.was in
    read_short c.args.l c.args.image.now c.args.slot
    (failed c.bad_length.ensures c.if-bad_length.false)
    (held c.checks.ensures c.if-not-checks.false)
    (m.2 ∙ c.sizes_in.ensures) (ap in_range m.2 ∙ m.0)
    (held (rw m.1 at c.formed.ensures) c.if-not-formed.false)
    (λ q. c.if-image-block_count.true (q ∙ ap (λ n. n * 512) (sym c.block_count.ensures)))

pub returns-then-long_at-slot : goal.returns-then-long_at-slot
returns-then-long_at-slot c =
    let m = shape-made _ _ _ _ c.ok_or.ensures.value c.new.ensures.test c.new.ensures.parts c.in_ok-shape.was in
    read-stale c.args.l c.args.image.now c.args.slot
    (failed c.bad_length.ensures c.if-bad_length.false)
    (held c.checks.ensures c.if-not-checks.false)
    (m.2 ∙ c.sizes_in.ensures) (ap in_range m.2 ∙ m.0)
    (held (rw m.1 at c.formed.ensures) c.if-not-formed.false)
    (c.if-image-block_count.false ∙ ap (λ n. n * 512) c.block_count.ensures)
    (λ q. c.if-long_at-slot.true (c.long_at.ensures ∙ q))

pub returns : goal.returns
returns c =
    let a = c.args in
    let m = shape-made _ _ _ _ c.ok_or.ensures.value c.new.ensures.test c.new.ensures.parts c.in_ok-shape.was in
    let z = c.in_ok-shape.shape.sizes in
    (rw m.1 at c.read_later.ensures)
    ∙ ap (λ x. read_later a.l z x a.slot a.image.now 1 (blocks z - 1)) c.long_at-2.ensures
    ∙ read-on a.l a.image.now a.slot
    (failed c.bad_length.ensures c.if-bad_length.false)
    (held c.checks.ensures c.if-not-checks.false)
    (m.2 ∙ c.sizes_in.ensures) (ap in_range m.2 ∙ m.0)
    (held (rw m.1 at c.formed.ensures) c.if-not-formed.false)
    (c.if-image-block_count.false ∙ ap (λ n. n * 512) c.block_count.ensures)
    (sym c.long_at.ensures ∙ c.if-long_at-slot.false)
