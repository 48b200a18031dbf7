-- `elderflute::elderflute_start` meets its contract.
use mathlib.Core.Path.{ap, ◌∙◌}
use Rattle.layout.specs.declared.Sizes.{Sizes}
use Rattle.encoder.specs.Encoder.{Starting, start_number}
use Rattle.elderflute.specs.Flowset.{working, start_call}
use Rattle.elderflute.proofs.elderflute_start.Goals as goal

pub returns-in-Ok : goal.returns-in-Ok
unfolding start_call
returns-in-Ok c =
    let a = c.args in
    ap (λ (x : Starting). working (start_number x.answer) x.filter x.cells) c.in-Ok.ensures
    ∙ ap (λ (z : Sizes). start_call z a.filter.now a.cells.now) c.sizes_of.ensures

pub returns-in-Err : goal.returns-in-Err
unfolding start_call
returns-in-Err c =
    let a = c.args in
    ap (λ n. working n c.start.new.filter c.start.new.cells) c.number.ensures
    ∙ ap (λ (x : Starting). working (start_number x.answer) x.filter x.cells) c.in-Err.ensures
    ∙ ap (λ (z : Sizes). start_call z a.filter.now a.cells.now) c.sizes_of.ensures
