use Rattle.std.proofs.Common.{◌≡◌, get_or, refl, ap, ◌∙◌, arith}
use Rattle.laws.specs.Upto.{each_upto}
use Rattle.table.specs.Table.{tab_of, taken_out}
use Rattle.table.proofs.Parts.{taken_upto, place-part, taken-turn, fit_next, table-self, table-on}
use Rattle.table.proofs.Table.take_out.Goals as goal

pub loop-i-init : goal.loop-i-init
unfolding each_upto
loop-i-init c = record { fit = c.requires.0; taken = refl; kept = table-self c.args.self.now }

pub take_one-requires : goal.take_one-requires
take_one-requires c =
    let a = c.args in
    let p = a.p.shape in
    (c.loop-i.invariant.fit, place-part p.layout p.sizes p.lays p.ranged a.p.salt a.key.now c.requires.1 c.loop-i.i c.loop-i-test.true, c.requires.2)

pub loop-i-preserved : goal.loop-i-preserved
loop-i-preserved c =
    let a = c.args in
    let p = a.p.shape in
    let i = c.loop-i.i in
    record {
      fit = fit_next p.layout p.sizes a.p.salt a.key.now a.position (get_or a.at.at i 0) c.take_one.ensures.value c.loop-i.invariant.fit;
      taken = taken-turn p.layout p.sizes a.p.salt a.key.now a.position i (tab_of a.self.now) (omega (arith, c.loop-i-test.true, p.ranged.k-high))
          c.requires.1 c.loop-i.invariant.taken c.take_one.ensures.value;
      kept = table-on c.take_one.new.self c.loop-i.self a.self.now c.take_one.ensures.kept c.loop-i.invariant.kept;
    }

pub returns-clause-value : goal.returns-clause-value
unfolding taken_out
returns-clause-value c =
    let a = c.args in
    let p = a.p.shape in
    let e : c.loop-i.i ≡ p.sizes.k = omega arith in
    c.loop-i.invariant.taken ∙ ap (λ m. taken_upto p.layout p.sizes a.p.salt a.key.now a.position m (tab_of a.self.now)) e
