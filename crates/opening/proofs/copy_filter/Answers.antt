-- `opening::copy_filter` meets its contract.
use Rattle.std.proofs.Common.{refl, ◌∙◌, arith}
use Rattle.laws.specs.Upto.{join_upto}
use Rattle.layout.specs.Sizes.{blocks, filter_bytes}
use Rattle.opening.proofs.Copies.{filter-turn, filter-all}
use Rattle.opening.proofs.copy_filter.Goals as goal

pub loop-n-init : goal.loop-n-init
unfolding join_upto
loop-n-init c = refl

pub slice_bounds-copy_in-end : goal.slice_bounds-copy_in-end
unfolding filter_bytes
slice_bounds-copy_in-end c = omega arith

pub slice_bounds-copy_in-end-in-loop-n : goal.slice_bounds-copy_in-end-in-loop-n
unfolding blocks
slice_bounds-copy_in-end-in-loop-n c = omega arith

pub loop-n-preserved : goal.loop-n-preserved
loop-n-preserved c =
    let a = c.args in
    filter-turn a.shape.sizes a.image.now c.requires.0 a.filter.now c.loop-n.n (omega arith) c.loop-n.invariant c.copy_in.ensures

pub returns : goal.returns
returns c =
    let a = c.args in
    c.loop-n.invariant ∙ filter-all a.shape.sizes a.image.now c.requires.0 a.filter.now c.loop-n.n (omega arith) c.requires.1
