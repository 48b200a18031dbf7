-- `exchange::test` meets its contract.
use Rattle.std.proofs.Common.{refl, sym, subst, eq-eqb, ne_eqb}
use Rattle.laws.proofs.Bools.{held, failed}
use Rattle.room.specs.Seen.{memory_seen}
use Rattle.parts.specs.Places.{Near}
use Rattle.exchange.proofs.Passed.{seam-at}
use Rattle.exchange.proofs.Testing.{near-seam, room-bad, reaches, need-a, need-b, not_a, not-b, other-slot, all-passed, index-a, index-b}
use Rattle.exchange.proofs.test.Goals as goal

pub after-requires : goal.after-requires
after-requires c =
    let p = c.args.p.shape in
    subst Near (sym (seam-at p.layout p.sizes c.after-seam.ensures c.origin.ensures)) (near-seam p.layout p.sizes p.lays p.ranged)

pub returns-then-not-areas_fit-clause-answer : goal.returns-then-not-areas_fit-clause-answer
returns-then-not-areas_fit-clause-answer c =
    let a = c.args in
    room-bad a.p a.q a.s a.t (memory_seen a.room) c.requires.0 c.requires.1 c.origin.ensures c.after-seam.ensures c.after.ensures (failed c.areas_fit.ensures c.if-not-areas_fit.true)

pub split_room-requires : goal.split_room-requires
split_room-requires c =
    let a = c.args in
    reaches a.p a.q a.s a.t (memory_seen a.room) c.requires.0 c.requires.1 c.origin.ensures c.after-seam.ensures c.after.ensures (held c.areas_fit.ensures c.if-not-areas_fit.false)

pub is_session_seen-requires : goal.is_session_seen-requires
is_session_seen-requires c =
    let a = c.args in
    need-a a.p a.q a.s a.t (memory_seen a.room) c.requires.0 c.requires.1 c.origin.ensures c.after-seam.ensures c.after.ensures (held c.areas_fit.ensures c.if-not-areas_fit.false)
    c.split_room.ensures.first c.split_room.ensures.second c.requires.2

pub is_session_seen-requires-2 : goal.is_session_seen-requires-2
is_session_seen-requires-2 c =
    let a = c.args in
    need-b a.p a.q a.s a.t (memory_seen a.room) c.requires.0 c.requires.1 c.origin.ensures c.after-seam.ensures c.after.ensures (held c.areas_fit.ensures c.if-not-areas_fit.false)
    c.split_room.ensures.first c.split_room.ensures.second c.requires.3

pub returns-then-not-is_session_seen-clause-answer : goal.returns-then-not-is_session_seen-clause-answer
returns-then-not-is_session_seen-clause-answer c =
    let a = c.args in
    not_a a.p a.q a.s a.t (memory_seen a.room) c.requires.0 c.requires.1 c.origin.ensures c.after-seam.ensures c.after.ensures (held c.areas_fit.ensures c.if-not-areas_fit.false)
    c.split_room.ensures.first c.split_room.ensures.second c.is_session_seen.ensures.0 (failed refl c.if-not-is_session_seen.true)

pub returns-then-not-is_session_seen-2-clause-answer : goal.returns-then-not-is_session_seen-2-clause-answer
returns-then-not-is_session_seen-2-clause-answer c =
    let a = c.args in
    not-b a.p a.q a.s a.t (memory_seen a.room) c.requires.0 c.requires.1 c.origin.ensures c.after-seam.ensures c.after.ensures (held c.areas_fit.ensures c.if-not-areas_fit.false)
    c.split_room.ensures.first c.split_room.ensures.second c.is_session_seen.ensures.0 (held refl c.if-not-is_session_seen.false)
    c.is_session_seen-2.ensures.0 (failed refl c.if-not-is_session_seen-2.true)

pub returns-then-s-t-clause-answer : goal.returns-then-s-t-clause-answer
returns-then-s-t-clause-answer c =
    let a = c.args in
    other-slot a.p a.q a.s a.t (memory_seen a.room) c.requires.0 c.requires.1 c.origin.ensures c.after-seam.ensures c.after.ensures (held c.areas_fit.ensures c.if-not-areas_fit.false)
    c.split_room.ensures.first c.split_room.ensures.second c.is_session_seen.ensures.0 (held refl c.if-not-is_session_seen.false)
    c.is_session_seen-2.ensures.0 (held refl c.if-not-is_session_seen-2.false) (ne_eqb a.s.slot a.t.slot c.if-s-t.true)

pub returns-clause-answer : goal.returns-clause-answer
returns-clause-answer c =
    let a = c.args in
    all-passed a.p a.q a.s a.t (memory_seen a.room) c.requires.0 c.requires.1 c.origin.ensures c.after-seam.ensures c.after.ensures (held c.areas_fit.ensures c.if-not-areas_fit.false)
    c.split_room.ensures.first c.split_room.ensures.second c.is_session_seen.ensures.0 (held refl c.if-not-is_session_seen.false)
    c.is_session_seen-2.ensures.0 (held refl c.if-not-is_session_seen-2.false) (eq-eqb a.s.slot a.t.slot c.if-s-t.false)

pub returns-clause-first : goal.returns-clause-first
returns-clause-first c =
    let a = c.args in
    index-a a.p a.q a.s a.t (memory_seen a.room) c.requires.0 c.requires.1 c.origin.ensures c.after-seam.ensures c.after.ensures (held c.areas_fit.ensures c.if-not-areas_fit.false)
    c.split_room.ensures.first c.split_room.ensures.second c.is_session_seen.ensures.0 (held refl c.if-not-is_session_seen.false)
    c.is_session_seen-2.ensures.0 (held refl c.if-not-is_session_seen-2.false) c.requires.2 c.is_session_seen.ensures.1

pub returns-clause-second : goal.returns-clause-second
returns-clause-second c =
    let a = c.args in
    index-b a.p a.q a.s a.t (memory_seen a.room) c.requires.0 c.requires.1 c.origin.ensures c.after-seam.ensures c.after.ensures (held c.areas_fit.ensures c.if-not-areas_fit.false)
    c.split_room.ensures.first c.split_room.ensures.second c.is_session_seen.ensures.0 (held refl c.if-not-is_session_seen.false)
    c.is_session_seen-2.ensures.0 (held refl c.if-not-is_session_seen-2.false) c.requires.3 c.is_session_seen-2.ensures.1
