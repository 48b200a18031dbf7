use Rattle.std.proofs.Common.{◌<◌, arith, rules, ◌∙◌, ltb, length, get_or, take}
use Rattle.std.proofs.lemmas.Iterator.{YieldsList-from_slice}
use Rattle.std.proofs.lemmas.Iterator.Adapters.{serves_from_places}
use Rattle.std.proofs.lemmas.Iterator.Search.{any_from_yields_List}
use borrow.Author.Tests.{tests}
use Rattle.laws.proofs.Fronts.{any_front, front_is}
use Rattle.counting.specs.Book.{any_less}
use Rattle.counting.proofs.Tally.any_less.Goals as goal

pub any-requires-clause-callable : goal.any-requires-clause-callable
any-requires-clause-callable c =
    let a = c.args in
    serves_from_places (YieldsList-from_slice (take a.k a.at.at) cc) (λ x q k. search rules)
    (λ x k h e.
    let f = front_is a.at.at a.k k (omega arith) h e in
    let inside : x.now < length a.self.now.packets.now = omega (arith, c.requires.1 k f.0) in
    search rules)

pub returns : goal.returns
unfolding any_less
returns c =
    let a = c.args in
    any_from_yields_List (λ x. ltb (get_or a.self.now.packets.now x 0) a.v) _ _ _ c.any.ensures.ran (YieldsList-from_slice (take a.k a.at.at) cc) (λ x b q k. search (rules, tests))
    ∙ any_front (λ x. ltb (get_or a.self.now.packets.now x 0) a.v) a.at.at a.k (omega arith)
