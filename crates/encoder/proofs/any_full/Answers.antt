-- `encoder::any_full` meets its contract: the closure is asked of the first k cells.
use mathlib.Core.Path.{◌∙◌}
use native.Mathlib.Omega.{arith}
use borrow.Author.Rules.{rules}
use borrow.Author.Tests.{tests}
use lib.ListN.{length, take}
use Rattle.std.proofs.lemmas.Iterator.{YieldsList-from_slice}
use Rattle.std.proofs.lemmas.Iterator.Adapters.{serves_from_places}
use Rattle.std.proofs.lemmas.Iterator.Search.{any_from_yields_List}
use Rattle.laws.proofs.Fronts.{any_front, first_within}
use Rattle.cell.specs.Cell.{InTable}
use Rattle.encoder.specs.Encoder.{full_at}
use Rattle.encoder.specs.Loops.{any_full}
use Rattle.encoder.proofs.any_full.Goals as goal

pub any-requires-clause-callable : goal.any-requires-clause-callable
any-requires-clause-callable c =
    let a = c.args in
    let s = a.shape in
    serves_from_places (YieldsList-from_slice (take s.sizes.k a.at.at) cc) (λ x q h. search rules)
    (λ x k l e. let within = first_within (InTable s.layout (length a.cells.now)) a.at.at s.sizes.k c.requires x.now k l e in search rules)

pub returns : goal.returns
unfolding any_full
returns c =
    let a = c.args in
    let s = a.shape in
    any_from_yields_List (full_at s.layout a.new a.cells.now) _ _ _ c.any.ensures.ran (YieldsList-from_slice (take s.sizes.k a.at.at) cc)
    (λ x b q k. search (rules, tests))
    ∙ any_front (full_at s.layout a.new a.cells.now) a.at.at s.sizes.k (omega arith)
