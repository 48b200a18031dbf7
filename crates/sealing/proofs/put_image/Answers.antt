-- `sealing::put_image` meets its contract: two parts of the image, each of its own kind.
use mathlib.Core.Path.{ap₂, ◌∙◌}
use mathlib.Core.List.{◌++◌}
use Prim.Native.Nat.{◌*◌}
use native.Mathlib.Nat.{add-mul}
use native.Mathlib.Omega.{arith}
use Rattle.layout.specs.Sizes.{blocks, filter_bytes}
use Rattle.layout.proofs.Ranges.{blocks-high}
use Rattle.block.specs.Block.{image_of}
use Rattle.block.proofs.Cells.{cells-fill}
use Rattle.sealing.proofs.Stores.{rooms}
use Rattle.sealing.proofs.put_image.Goals as goal

pub split_at_mut-front-requires : goal.split_at_mut-front-requires
unfolding blocks
split_at_mut-front-requires c =
    let s = c.args.shape in
    omega (arith, rooms s.layout s.sizes _ _ _ c.requires)

pub put_blocks-requires : goal.put_blocks-requires
unfolding filter_bytes
put_blocks-requires c =
    let s = c.args.shape in
    let r = rooms s.layout s.sizes _ _ _ c.requires in
    (omega (arith, s.ranged), omega arith, omega (arith, r.0), omega arith)

pub put_blocks-requires-2 : goal.put_blocks-requires-2
unfolding blocks
put_blocks-requires-2 c =
    let s = c.args.shape in
    let z = s.sizes in
    let r = rooms s.layout z _ _ _ c.requires in
    let whole = r.2 ∙ add-mul z.f (z.k * z.q) 512 in
    (blocks-high z s.ranged, s.lays.payload-fits, r.1 ∙ cells-fill s.layout z, omega arith)

pub returns : goal.returns
unfolding image_of
returns c = ap₂ ◌++◌ c.put_blocks.ensures c.put_blocks-2.ensures
