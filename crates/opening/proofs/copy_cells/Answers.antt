-- `opening::copy_cells` meets its contract.
use Rattle.std.proofs.Common.{◌≡◌, ◌+◌, ◌*◌, ◌-◌, ◌∙◌, arith}
use Rattle.laws.proofs.Lists.{length_part}
use Rattle.layout.proofs.Ranges.{table-high}
use Rattle.reading.specs.Read.{cells_in}
use Rattle.opening.specs.Blocks.{fields}
use Rattle.opening.proofs.Copies.{written_none, block_within, cells-turn, cells-all}
use Rattle.opening.proofs.copy_cells.Goals as goal

pub loop-n-init : goal.loop-n-init
loop-n-init c =
    let a = c.args in
    let s = a.shape in
    written_none s.layout (cells_in s.layout s.sizes a.image.now) (fields a.xors.now a.flows.now a.packets.now)

pub slice_bounds-copy_block-end : goal.slice_bounds-copy_block-end
slice_bounds-copy_block-end c =
    let s = c.args.shape in
    omega (arith, c.requires.0, block_within s.layout s.sizes c.loop-n.n (omega arith))

pub copy_block-requires : goal.copy_block-requires
copy_block-requires c =
    let a = c.args in
    let s = a.shape in
    let n = c.loop-n.n in
    let h = block_within s.layout s.sizes n (omega arith) in
    let k : (s.sizes.f + n) * 512 + 16 + 480 - ((s.sizes.f + n) * 512 + 16) ≡ 480 = omega arith in (
      rw k (length_part a.image.now ((s.sizes.f + n) * 512 + 16) 480 (omega (arith, c.requires.0))),
      omega (arith, table-high s.layout s.sizes s.lays s.ranged),
      omega arith,
      omega arith,
      omega arith,
    )

pub loop-n-preserved : goal.loop-n-preserved
loop-n-preserved c =
    let a = c.args in
    let s = a.shape in
    cells-turn s.layout s.lays s.sizes a.image.now c.requires.0 (fields a.xors.now a.flows.now a.packets.now) c.requires.1 c.requires.2 c.requires.3
    c.loop-n.n (omega arith) c.loop-n.invariant c.copy_block.ensures

pub returns : goal.returns
returns c =
    let a = c.args in
    let s = a.shape in
    c.loop-n.invariant ∙ cells-all s.layout s.lays s.sizes a.image.now c.requires.0
    (fields a.xors.now a.flows.now a.packets.now) c.requires.1 c.requires.2 c.requires.3 c.loop-n.n (omega arith)
