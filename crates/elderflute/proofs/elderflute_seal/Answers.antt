-- What is sealed is put into the call's record.
use mathlib.Core.Path.{ap, ◌∙◌}
use Rattle.layout.specs.declared.Sizes.{Sizes}
use Rattle.sealing.specs.Seal as below
use Rattle.elderflute.specs.Flowset.{sealing, seal_call}
use Rattle.elderflute.proofs.elderflute_seal.Goals as goal

pub returns-in-Ok : goal.returns-in-Ok
unfolding seal_call
returns-in-Ok c =
    let a = c.args in
    ap (λ (x : below.Sealing). sealing (below.seal_number x.answer) x.image) c.in-Ok.ensures
    ∙ ap (λ (z : Sizes). seal_call z a.salt a.slot a.filter.now a.cells.now a.image.now) c.sizes_of.ensures

pub returns-in-Err : goal.returns-in-Err
unfolding seal_call
returns-in-Err c =
    let a = c.args in
    ap (λ n. sealing n c.seal.new.image) c.number.ensures
    ∙ ap (λ (x : below.Sealing). sealing (below.seal_number x.answer) x.image) c.in-Err.ensures
    ∙ ap (λ (z : Sizes). seal_call z a.salt a.slot a.filter.now a.cells.now a.image.now) c.sizes_of.ensures
