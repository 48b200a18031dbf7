-- `test8::note_list` meets its contract.
use Rattle.std.proofs.Common.{◌≡◌}
use Rattle.test8.specs.Given.{one_more, mixed_in, noted, seen_upto}
use Rattle.test8.specs.Test8.{keys_repeat}
use Rattle.test8.proofs.note_list.Given as goal

abbrev pub invariant-loop-i : goal.invariant-loop-i
invariant-loop-i l =
    let s = l.p.shape in
    (l.repeat ≡ keys_repeat s.layout l.i l.list.keys.now) × (l.seen ≡ seen_upto s.layout s.sizes l.p.salt l.i l.list.keys.now l.initial.seen)
    × (l.numbers.unknowns ≡ noted s.layout s.sizes l.p.salt one_more l.i l.list.keys.now l.list.flags.now l.initial.numbers.unknowns)
    × (l.numbers.positions ≡ noted s.layout s.sizes l.p.salt mixed_in l.i l.list.keys.now l.list.flags.now l.initial.numbers.positions)
