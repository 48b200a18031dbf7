-- `filter::any_clear` meets its contract: the closure is asked of the first kf bits.
use mathlib.Core.Bool.{not}
use Prim.Native.Nat.{◌/◌, ◌<◌}
use native.Mathlib.Omega.{arith}
use borrow.Author.Rules.{rules}
use borrow.Author.Tests.{tests}
use lib.ListN.{length, take}
use Rattle.std.proofs.lemmas.Iterator.{YieldsList-from_slice}
use Rattle.std.proofs.lemmas.Iterator.Adapters.{serves_from_places}
use Rattle.std.proofs.lemmas.Iterator.Search.{any_from_yields_List}
use mathlib.Core.Path.{◌∙◌}
use Rattle.laws.proofs.Fronts.{any_front, first_within}
use Rattle.filter.specs.Filter.{is_set, any_clear}
use Rattle.filter.proofs.any_clear.Goals as goal

pub any-requires-clause-callable : goal.any-requires-clause-callable
any-requires-clause-callable c =
    let a = c.args in
    serves_from_places (YieldsList-from_slice (take a.kf a.bits.at) cc) (λ x q h. search rules)
    (λ x k l e. let within = first_within (λ n. n / 8 < length a.filter.now) a.bits.at a.kf c.requires.1 x.now k l e in search rules)

pub returns : goal.returns
unfolding any_clear
returns c =
    let a = c.args in
    any_from_yields_List (λ n. not (is_set a.filter.now n)) _ _ _ c.any.ensures.ran (YieldsList-from_slice (take a.kf a.bits.at) cc) (λ x b q k. search (rules, tests))
    ∙ any_front (λ n. not (is_set a.filter.now n)) a.bits.at a.kf (omega arith)
