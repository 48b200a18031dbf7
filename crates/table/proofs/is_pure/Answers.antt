use Rattle.std.proofs.Common.{eqb, ap, ◌∙◌, ne_eqb}
use Rattle.hash.specs.Places.{cell_of}
use Rattle.table.proofs.Parts.{part-below, pure-no, pure-yes}
use Rattle.table.proofs.is_pure.Goals as goal

pub cell_of-requires : goal.cell_of-requires
cell_of-requires c =
    let p = c.args.p.shape in
    part-below p.layout p.sizes p.lays p.ranged c.requires.0

pub returns-then-flows-c-eq1 : goal.returns-then-flows-c-eq1
returns-then-flows-c-eq1 c =
    let a = c.args in
    let p = a.p.shape in
    pure-yes p.layout p.sizes p.lays p.ranged a.p.salt a.xors.now a.flows.now c.requires.0
    c.if-flows-c-eq1.true
    (ap (λ x. eqb x a.c) (c.cell_of.ensures ∙ ap (λ k. cell_of p.layout p.sizes a.p.salt k a.i) c.key_at.ensures))

pub returns-else-flows-c-eq1 : goal.returns-else-flows-c-eq1
returns-else-flows-c-eq1 c =
    let a = c.args in
    ne_eqb _ _ c.if-flows-c-eq1.false ∙ pure-no a.p.shape.layout a.p.shape.sizes a.p.salt a.xors.now a.flows.now a.c c.if-flows-c-eq1.false
