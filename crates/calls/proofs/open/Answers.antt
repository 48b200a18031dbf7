-- `calls::open` meets its contract: the list is taken apart, the session's call runs over the numbers, and the list is put together.
use mathlib.Core.Path.{ap}
use borrow.Author.Rules.{rules}
use Rattle.list.specs.Records.{records}
use Rattle.table.specs.Table.{tab}
use Rattle.room.specs.Memory.{memory}
use Rattle.layout.specs.Sizes.{ipv4_layout}
use Rattle.reading.specs.Read.{read_of}
use Rattle.opening.specs.Open.{Opening, refused}
use Rattle.calls.specs.Calls.{lent, ran, opening, first, over}
use Rattle.calls.proofs.Misfit.{open-misfit}
use Rattle.calls.proofs.Rebuilt.{calls-records}
use Rattle.calls.proofs.open.Goals as goal

pub returns : goal.returns
unfolding first over
returns c =
    let a = c.args in
    let b = c.open-answer.new in
    let now = c.take_apart.new in
    calls-records 3072 (opening a.image.now a.slot) (refused (read_of ipv4_layout a.image.now a.slot)) (open-misfit a.image.now a.slot)
    (lent a.filter.now (tab a.xors.now a.flows.now a.unknowns.now a.positions.now a.marks.now) a.packets.now a.list.now)
    c.length_of.ensures c.taken_of-n.ensures.value (records now.keys now.counts now.flags) c.take_apart.ensures c.open-answer.result
    (memory b.filter (tab b.xors b.flows b.unknowns b.positions b.marks) b.packets (records b.keys b.counts b.flags)) c.put_back.new.list
    (search rules)
    (ap (λ (x : Opening). ran x.answer x.room) c.open-answer.ensures) c.put_back.ensures
