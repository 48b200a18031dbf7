-- The session that the numbers are is handed the key.
use mathlib.Core.Path.{ap, ◌∙◌}
use Rattle.list.specs.Records.{records}
use Rattle.table.specs.Table.{tab}
use Rattle.room.specs.Memory.{memory}
use Rattle.session.specs.Calls.{hand_over}
use Rattle.elderflute.proofs.Answers.{hand-call}
use Rattle.elderflute.proofs.elderflute_hand_over.Goals as goal

pub returns : goal.returns
returns c =
    let a = c.args in
    let m = memory a.filter.now (tab a.xors.now a.flows.now a.unknowns.now a.positions.now a.marks.now) a.packets.now
    (records a.keys.now a.counts.now a.flags.now) in
    hand-call a.numbers.now a.listed.now m c.session_of-s.ensures a.key.now
    (c.hand_over_in-a.ensures ∙ ap (λ l. hand_over l c.session_of-s.result a.key.now m) c.ipv4.ensures) c.put_handed.ensures
