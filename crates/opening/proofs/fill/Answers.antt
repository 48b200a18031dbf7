-- `opening::fill` meets its contract.
use Rattle.list.specs.Found.{list_of}
use Rattle.table.specs.Table.{tab_of}
use Rattle.room.specs.Memory.{memory}
use Rattle.opening.proofs.Returns.{filled}
use Rattle.opening.proofs.fill.Goals as goal

pub returns-clause-value : goal.returns-clause-value
returns-clause-value c =
    let a = c.args in
    let m = memory a.filter.now (tab_of a.table.now) a.packets.now (list_of a.list.now) in
    filled a.p.shape.layout a.p.shape.sizes a.p.salt a.image.now m c.requires.1 c.copy_filter.ensures c.copy_cells.ensures (c.fill.ensures.after (λ y e. e))
    (c.fill-2.ensures.after (λ y e. e)) (c.fill-3.ensures.after (λ y e. e)) (c.fill-4.ensures.after (λ y e. e)) (c.fill-5.ensures.after (λ y e. e)) c.mark_pure.ensures.value
