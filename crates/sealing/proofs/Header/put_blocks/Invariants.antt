-- `sealing::Header::put_blocks` meets its contract: the loop holds the blocks so far, and behind them what stood there.
use mathlib.Core.Path.{◌≡◌}
use mathlib.Core.List.{◌++◌}
use Prim.Native.Nat.{◌*◌}
use lib.ListN.{drop}
use Rattle.laws.specs.Upto.{join_upto}
use Rattle.block.specs.Block.{block_of}
use Rattle.sealing.proofs.Header.put_blocks.Given as goal

abbrev pub invariant-loop-n : goal.invariant-loop-n
invariant-loop-n l =
    let h = l.self in
    l.part ≡ join_upto l.n (block_of h.kind h.shape.sizes h.salt h.slot l.first l.width l.bytes) ++ drop (l.n * 512) l.initial.part
