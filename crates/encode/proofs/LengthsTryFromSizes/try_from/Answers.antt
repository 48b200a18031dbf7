-- `encode::Lengths::try_from`: what a shape with the layout of IPv4 gives fits the program's buffers.
use Rattle.std.proofs.Common.{arith}
use Rattle.layout.proofs.Ranges.{blocks-high}
use Rattle.encode.proofs.Longest.{filter-most, cells-most}
use Rattle.encode.proofs.LengthsTryFromSizes.try_from.Goals as goal

pub overflow_mul-image : goal.overflow_mul-image
overflow_mul-image c =
    let shape = c.in_ok-shape.shape in
    omega (arith, c.block_count-image.ensures, blocks-high shape.sizes shape.ranged)

pub invariant_of-result : goal.invariant_of-result
invariant_of-result c =
    let shape = c.in_ok-shape.shape in
    let parts = rw c.in_ok-shape.ensures.ok_part at c.new.ensures.parts in
    record {
      within = (
        rw c.filter_bytes-filter.ensures (filter-most shape.sizes shape.ranged),
        rw (c.cell_bytes-cells.ensures, parts.0, c.ipv4.ensures) (cells-most shape.sizes shape.ranged),
        omega (arith, c.block_count-image.ensures, blocks-high shape.sizes shape.ranged),
      );
    }
