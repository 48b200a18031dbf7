-- `opening::copy_cells` meets its contract.
use Rattle.std.proofs.Common.{◌≡◌, ◌*◌}
use Rattle.reading.specs.Read.{cells_in}
use Rattle.opening.specs.Blocks.{fields}
use Rattle.opening.proofs.Copies.{written_to}
use Rattle.opening.proofs.copy_cells.Given as goal

abbrev pub invariant-loop-n : goal.invariant-loop-n
invariant-loop-n l =
    let s = l.shape in
    fields l.xors l.flows l.packets
    ≡ written_to s.layout (cells_in s.layout s.sizes l.image) (fields l.initial.xors l.initial.flows l.initial.packets) (l.n * s.layout.cells)
