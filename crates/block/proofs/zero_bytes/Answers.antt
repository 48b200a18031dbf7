-- `block::zero_bytes` meets its contract: the closure's test is the definition's.
use mathlib.Core.Path.{refl}
use Prim.Native.Nat.{◌+◌, ◌*◌}
use borrow.Author.Rules.{rules}
use borrow.Author.Tests.{tests}
use lib.Dec.{eqb}
use lib.ListN.{get_or}
use Rattle.laws.proofs.Ranges.{all_range}
use Rattle.block.specs.Block.{zero_bytes}
use Rattle.block.proofs.zero_bytes.Goals as goal

pub returns : goal.returns
unfolding zero_bytes
returns c =
    let a = c.args in
    all_range a.n (λ i. eqb (get_or a.cells.now (i * a.l.cell + a.l.key) 0) 0) _ _ _ _ refl (λ x b q k. search (rules, tests)) c.all.ensures.ran
