-- The packet is in the cells below the index.
use Rattle.std.proofs.Common.{◌≡◌}
use Rattle.encoder.specs.Loops.{take_each}
use Rattle.encoder.proofs.take_each.Given as goal

abbrev pub invariant-loop-c : goal.invariant-loop-c
invariant-loop-c l = l.cells ≡ take_each l.fn.shape.layout l.fn.new l.fn.key l.fn.at.at l.c-index l.fn.cells
