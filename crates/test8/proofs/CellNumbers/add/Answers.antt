-- `test8::CellNumbers::add` meets its contract.
use Rattle.std.proofs.Common.{◌≡◌, ℕ, get_or, take, refl, arith}
use Rattle.std.proofs.lemmas.List.{get_or-take, length-take-le}
use Rattle.laws.specs.Upto.{each_upto}
use Rattle.test8.specs.Given.{renewed, one_more, mixed_in}
use Rattle.test8.proofs.Notes.{renewed-turn}
use Rattle.test8.proofs.CellNumbers.add.Goals as goal

pub loop-c-init : goal.loop-c-init
unfolding renewed each_upto
loop-c-init c = (refl, refl)

pub loop-c-preserved : goal.loop-c-preserved
loop-c-preserved c =
    let a = c.args in
    let i = c.loop-c.c-index in
    let places : ℕ → ℕ = λ j. get_or a.at.at j 0 in
    let e : get_or (take a.k a.at.at) i 0 ≡ get_or a.at.at i 0 = get_or-take a.k a.at.at i 0 (omega (arith, length-take-le a.k a.at.at (omega arith))) in (
      rw e (renewed-turn (one_more a.position) places i a.self.now.unknowns c.loop-c.invariant.0),
      rw e (renewed-turn (mixed_in a.position) places i a.self.now.positions c.loop-c.invariant.1),
    )
