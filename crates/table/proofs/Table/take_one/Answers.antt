use Rattle.std.proofs.Common.{refl, ◌∙◌}
use Rattle.table.specs.Table.{tab_of}
use Rattle.table.proofs.Parts.{key-mixed, taken_is}
use Rattle.table.proofs.Table.take_one.Goals as goal

pub returns-clause-value : goal.returns-clause-value
returns-clause-value c =
    let a = c.args in
    let p = a.p.shape in
    taken_is p.layout p.sizes a.p.salt a.key.now a.position a.c (tab_of a.self.now)
    (c.xor_at.ensures ∙ key-mixed p.layout a.self.now.xors.now a.c a.key.now c.requires.2)
    c.saturating_sub.ensures
    refl
    c.is_pure-pure.ensures c.put_mark.ensures
