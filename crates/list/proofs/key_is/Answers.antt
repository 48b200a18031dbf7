use mathlib.Core.Path.{sym, ap, ◌∙◌}
use lib.Dec.{eqb}
use Rattle.std.specs.Cmp.Lexicographic.{pointwise}
use Rattle.list.specs.Records.{key_at}
use Rattle.list.proofs.Laws.{length-key, same-decided}
use Rattle.list.proofs.key_is.Goals as goal

pub returns : goal.returns
returns c =
    let a = c.args in
    c.eq.ensures ∙ ap (λ x. pointwise eqb x a.key.now) c.key_at.ensures
    ∙ same-decided (key_at a.l a.keys.now a.i) a.key.now (length-key a.l a.keys.now a.i c.requires.0 ∙ sym c.requires.1)
