-- `elderflute::elderflute_packet` meets its contract.
use mathlib.Core.Path.{ap, ◌∙◌}
use Rattle.layout.specs.declared.Sizes.{Sizes}
use Rattle.encoder.specs.Encoder.{Taking, take_number}
use Rattle.elderflute.specs.Flowset.{working, packet_call}
use Rattle.elderflute.proofs.elderflute_packet.Goals as goal

pub returns-in-Ok : goal.returns-in-Ok
unfolding packet_call
returns-in-Ok c =
    let a = c.args in
    ap (λ (x : Taking). working (take_number x.answer) x.filter x.cells) c.in-Ok.ensures
    ∙ ap (λ (z : Sizes). packet_call z a.salt a.packet.now a.filter.now a.cells.now) c.sizes_of.ensures

pub returns-in-Err : goal.returns-in-Err
unfolding packet_call
returns-in-Err c =
    let a = c.args in
    ap (λ n. working n c.packet.new.filter c.packet.new.cells) c.number.ensures
    ∙ ap (λ (x : Taking). working (take_number x.answer) x.filter x.cells) c.in-Err.ensures
    ∙ ap (λ (z : Sizes). packet_call z a.salt a.packet.now a.filter.now a.cells.now) c.sizes_of.ensures
