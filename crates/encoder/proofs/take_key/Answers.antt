-- `encoder::take_key` meets its contract.
use mathlib.Core.Path.{ap₂, ◌∙◌}
use Rattle.layout.specs.declared.Shape.{Shape}
use Rattle.encoder.specs.Encoder.{offer_key}
use Rattle.encoder.proofs.take_key.Goals as goal

pub take_placed-requires : goal.take_placed-requires
take_placed-requires c = rw (c.new.ensures.0) (c.requires.2, c.requires.3)

pub returns : goal.returns
returns c =
    let a = c.args in
    c.take_placed.ensures ∙ ap₂ (λ (s : Shape) salt. offer_key s.layout s.sizes salt a.key.now a.filter.now a.cells.now) c.new.ensures.0 c.new.ensures.1
