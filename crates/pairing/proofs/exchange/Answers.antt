-- `pairing::exchange` meets its contract: the list is taken apart, the call runs over the numbers, and the list is put together.
use mathlib.Core.Path.{ap}
use borrow.Author.Rules.{rules}
use Rattle.list.specs.Records.{records}
use Rattle.table.specs.Table.{tab}
use Rattle.room.specs.Memory.{memory}
use Rattle.exchange.specs.Exchange.{Exchanging}
use Rattle.calls.specs.Calls.{lent, ran}
use Rattle.pairing.specs.Pairing.{exchanging}
use Rattle.calls.proofs.Laws.{first, over}
use Rattle.pairing.proofs.Misfit.{refusal, exchange-misfit}
use Rattle.calls.proofs.Rebuilt.{calls-records}
use Rattle.pairing.proofs.exchange.Goals as goal

pub returns : goal.returns
unfolding first over
returns c =
    let a = c.args in
    let b = c.exchange-answer.new in
    let now = c.take_apart.new in
    calls-records 6144 (exchanging a.s a.t) (refusal a.s a.t) (exchange-misfit a.s a.t)
    (lent a.filter.now (tab a.xors.now a.flows.now a.unknowns.now a.positions.now a.marks.now) a.packets.now a.list.now)
    c.length_of.ensures c.taken_of-n.ensures.value (records now.keys now.counts now.flags) c.take_apart.ensures c.exchange-answer.result
    (memory a.filter.now (tab b.xors b.flows b.unknowns b.positions b.marks) b.packets (records b.keys b.counts b.flags)) c.put_back.new.list
    (search rules)
    (ap (λ (x : Exchanging). ran x.answer x.room) c.exchange-answer.ensures) c.put_back.ensures
