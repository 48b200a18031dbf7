-- `opening::copy_block` meets its contract.
use Rattle.std.proofs.Common.{◌≡◌}
use Rattle.laws.specs.Upto.{each_upto}
use Rattle.opening.specs.Blocks.{fields, copied_cell}
use Rattle.opening.proofs.copy_block.Given as goal

abbrev pub invariant-loop-d : goal.invariant-loop-d
invariant-loop-d l =
    fields l.xors l.flows l.packets ≡ each_upto l.d (copied_cell l.shape.layout l.payload l.first) (fields l.initial.xors l.initial.flows l.initial.packets)
