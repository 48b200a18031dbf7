-- `reading::read_later` meets its contract: the loop holds that what is left to read answers for all.
use mathlib.Core.Path.{◌≡◌, sym, ap, ◌∙◌}
use Prim.Native.Nat.{◌*◌, ◌-◌, ◌<◌}
use lib.ListN.{length, take, drop}
use native.Mathlib.Omega.{arith}
use Rattle.laws.proofs.Bools.{failed, held}
use Rattle.laws.proofs.Lists.{length_part}
use Rattle.layout.specs.Sizes.{blocks}
use Rattle.layout.proofs.Ranges.{blocks-high}
use Rattle.reading.specs.Read.{read_later}
use Rattle.reading.proofs.Returns.{block-is, later-check, later-form, later-salt, later-slot, later-on, later-end}
use Rattle.reading.proofs.Right.{right-max, later-right, later-wrong}
use Rattle.reading.proofs.read_later.Goals as goal
use Rattle.reading.proofs.read_later.Goals.{then-long_at-salt-via-then-long_at-salt, then-long_at-salt-via-else-long_at-salt+then-long_at-slot}

pub overflow_sub-count : goal.overflow_sub-count
unfolding blocks
overflow_sub-count c = omega (arith, c.args.shape.ranged)

pub slice_bounds-right_blocks-count : goal.slice_bounds-right_blocks-count
unfolding blocks
slice_bounds-right_blocks-count c = omega (arith, c.args.shape.ranged)

pub slice_bounds-right_blocks-start : goal.slice_bounds-right_blocks-start
unfolding blocks
slice_bounds-right_blocks-start c = omega (arith, c.args.shape.ranged)

pub right_blocks-right-requires : goal.right_blocks-right-requires
unfolding blocks
right_blocks-right-requires c =
    let low = c.args.shape.ranged in
    let s = c.args.image.now in
    let e : length s - 512 ≡ (c.block_count-count.result - 1) * 512 = omega (arith, low) in
    (omega (arith, blocks-high c.args.shape.sizes low), length_part s 512 (length s - 512) (omega (arith, low)) ∙ e)

pub loop-n-init : goal.loop-n-init
unfolding blocks
loop-n-init c =
    let a = c.args in
    let h = a.shape in
    let e = c.block_count-count.ensures in
    record {
      counted = e;
      left = ap (λ m. read_later h.layout h.sizes a.salt a.slot a.image.now 1 (m - 1)) e;
      right_so_far = omega arith;
    }

pub overflow_add-right : goal.overflow_add-right
overflow_add-right c =
    let h = c.args.shape in
    let s = c.args.image.now in
    let most = right-max (c.block_count-count.result - 1) (take (length s - 512) (drop 512 s)) in
    omega (arith, blocks-high h.sizes h.ranged, most)

pub returns-then-n-right : goal.returns-then-n-right
returns-then-n-right c =
    let a = c.args in
    let h = a.shape in
    let n = c.loop-n.n in
    let b = block-is n a.image.now in
    later-check h.layout h.sizes a.salt a.slot a.image.now n c.block_count-count.result (omega arith) b
    (later-wrong a.image.now (c.block_count-count.result - 1) n b c.right_blocks-right.ensures c.if-n-right.true (omega arith))
    ∙ c.loop-n.invariant.left

pub returns-then-not-formed : goal.returns-then-not-formed
returns-then-not-formed c =
    let a = c.args in
    let h = a.shape in
    let n = c.loop-n.n in
    let b = block-is n a.image.now in
    later-form h.layout h.sizes a.salt a.slot a.image.now n c.block_count-count.result (omega arith) b
    (later-right a.image.now (c.block_count-count.result - 1) n b c.right_blocks-right.ensures (omega arith) (omega arith))
    (failed c.formed.ensures c.if-not-formed.true)
    ∙ c.loop-n.invariant.left

pub returns-then-long_at-salt : goal.returns-then-long_at-salt
returns-then-long_at-salt c =
    let a = c.args in
    let h = a.shape in
    let n = c.loop-n.n in
    let b = block-is n a.image.now in
    let more : n < c.block_count-count.result = omega arith in
    let right = later-right a.image.now (c.block_count-count.result - 1) n b c.right_blocks-right.ensures (omega arith) (omega arith) in
    let form = held c.formed.ensures c.if-not-formed.false in
    elim c.then-long_at-salt.branch [
      | then-long_at-salt-via-then-long_at-salt w ↦
          later-salt h.layout h.sizes a.salt a.slot a.image.now n c.block_count-count.result more b right form
          (λ q. w.if-long_at-salt.true (c.long_at.ensures ∙ q))
          ∙ c.loop-n.invariant.left
      | then-long_at-salt-via-else-long_at-salt+then-long_at-slot w ↦
          later-slot h.layout h.sizes a.salt a.slot a.image.now n c.block_count-count.result more b right form
          (sym c.long_at.ensures ∙ w.if-long_at-salt.false) (λ q. w.if-long_at-slot.true (w.long_at-else-long_at-salt.ensures ∙ q))
          ∙ c.loop-n.invariant.left
    ]

pub loop-n-preserved : goal.loop-n-preserved
loop-n-preserved c =
    let a = c.args in
    let h = a.shape in
    let n = c.loop-n.n in
    let b = block-is n a.image.now in
    let on = later-on h.layout h.sizes a.salt a.slot a.image.now n c.block_count-count.result (omega arith) b
    (later-right a.image.now (c.block_count-count.result - 1) n b c.right_blocks-right.ensures (omega arith) (omega arith))
    (held c.formed.ensures c.if-not-formed.false) (sym c.long_at.ensures ∙ c.if-long_at-salt.false)
    (sym c.long_at-else-long_at-salt.ensures ∙ c.if-long_at-slot.false) in
    record { counted = c.loop-n.invariant.counted; left = on ∙ c.loop-n.invariant.left; right_so_far = omega arith }

pub returns : goal.returns
returns c =
    let a = c.args in
    let h = a.shape in
    later-end h.layout h.sizes a.salt a.slot a.image.now c.loop-n.n c.block_count-count.result (omega arith) ∙ c.loop-n.invariant.left
