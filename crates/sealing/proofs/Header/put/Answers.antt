-- `sealing::Header::put` meets its contract: the stores and fields are one run of stores.
use mathlib.Core.Path.{◌∙◌, ap}
use Rattle.fields.specs.Field.{with_field}
use Rattle.sealing.proofs.Stores.{header-put}
use Rattle.sealing.proofs.Header.put.Goals as goal

pub returns : goal.returns
returns c =
    let a = c.args in
    c.put_long-2.ensures
    ∙ ap (λ b. with_field 4 b 12 a.self.slot) (c.put_long.ensures ∙ ap (λ b. with_field 4 b 8 a.self.salt) c.put_short.ensures)
    ∙ header-put a.b.now a.self.kind a.self.shape.sizes a.n a.self.salt a.self.slot c.requires.1
