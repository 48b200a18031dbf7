-- `calls::hand_over` meets its contract: the list is taken apart, the session's call runs over the numbers, and the list is put together.
use mathlib.Core.Path.{ap}
use borrow.Author.Rules.{rules}
use Rattle.std.specs.Prelude.{Err}
use Rattle.list.specs.Records.{records}
use Rattle.table.specs.Table.{tab}
use Rattle.room.specs.Memory.{memory}
use Rattle.session.specs.declared.SessionError.TheVariants.{NotSession, BadRoom}
use Rattle.session.specs.declared.HandOverError.TheVariants as over
use Rattle.session.specs.Calls.{Handing}
use Rattle.calls.specs.Calls.{lent, ran, handing, first, over}
use Rattle.calls.proofs.Misfit.{refusal, hand-misfit}
use Rattle.calls.proofs.Rebuilt.{calls-records}
use Rattle.calls.proofs.hand_over.Goals as goal

pub returns : goal.returns
unfolding first over
returns c =
    let a = c.args in
    let b = c.hand_over-answer.new in
    let now = c.take_apart.new in
    calls-records 3072 (handing a.s a.key) (refusal a.s (Err (over.Session NotSession)) (Err (over.Session BadRoom))) (hand-misfit a.s a.key)
    (lent a.filter.now (tab a.xors.now a.flows.now a.unknowns.now a.positions.now a.marks.now) a.packets.now a.list.now)
    c.length_of.ensures c.taken_of-n.ensures.value (records now.keys now.counts now.flags) c.take_apart.ensures c.hand_over-answer.result
    (memory a.filter.now (tab b.xors b.flows b.unknowns b.positions b.marks) a.packets.now (records b.keys b.counts b.flags)) c.put_back.new.list
    (search rules)
    (ap (λ (x : Handing). ran x.answer x.room) c.hand_over-answer.ensures) c.put_back.ensures
