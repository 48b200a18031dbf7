-- `cell::add_flow` meets its contract.
use Rattle.std.proofs.Common.{refl, ap, ◌∙◌}
use Rattle.cell.specs.Cell.{add_flow}
use Rattle.cell.proofs.Steps.{flow-counted, key-mixed}
use Rattle.cell.proofs.add_flow.Goals as goal

pub returns : goal.returns
returns c =
    let a = c.args in
    let l = a.l in
    c.put_short.ensures ∙ flow-counted l _ a.c c.short_at-flows.ensures refl
    ∙ ap (λ t. add_flow l t a.c) (c.xor_at.ensures ∙ key-mixed l a.cells.now a.c a.key.now c.requires.2)
