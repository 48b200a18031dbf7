-- `opening::open_in` meets its contract: one law for each return.
use Rattle.std.proofs.Common.{sym, ap, ◌∙◌, rules}
use Rattle.std.proofs.lemmas.Result.{err_from_is_err_and}
use Rattle.laws.proofs.Bools.{held, failed}
use Rattle.reading.proofs.Accepts.{accepted}
use Rattle.list.specs.Records.{records}
use Rattle.table.specs.Table.{tab}
use Rattle.room.specs.Memory.{memory, room_fits}
use Rattle.room.specs.Seen.{memory_seen}
use Rattle.room.proofs.Laws.{rooms-told}
use Rattle.opening.proofs.Returns.{open-refused, open-no-room, open-filled, lent-room}
use Rattle.opening.proofs.open_in.Goals as goal

pub returns-in_err-read : goal.returns-in_err-read
returns-in_err-read c =
    let a = c.args in
    let m = memory a.filter.now (tab a.xors.now a.flows.now a.unknowns.now a.positions.now a.marks.now) a.packets.now
    (records a.keys.now a.counts.now a.flags.now) in
    let p = err_from_is_err_and c.from_residual.result c.from_residual.ensures.1 in
    rw (p.1, p.2) (open-refused a.l a.image.now a.slot m (sym c.in_err-read.was ∙ c.read_in.ensures))

pub invariant_of-shape : goal.invariant_of-shape
invariant_of-shape c =
    let a = c.args in
    record { lays = c.requires; ranged = (accepted a.l _ _ a.slot a.image.now (sym c.read_in.ensures ∙ c.in_ok-read.was)).sizes }

pub returns-then-not-fits : goal.returns-then-not-fits
returns-then-not-fits c =
    let a = c.args in
    let m = memory a.filter.now (tab a.xors.now a.flows.now a.unknowns.now a.positions.now a.marks.now) a.packets.now
    (records a.keys.now a.counts.now a.flags.now) in
    let z = c.in_ok-read.read.sizes in
    open-no-room a.l a.image.now a.slot m (sym c.in_ok-read.was ∙ c.read_in.ensures)
    (failed (c.fits.ensures ∙ ap (λ r. room_fits a.l z (memory_seen r)) c.new-room.ensures) c.if-not-fits.true)

pub fill-requires : goal.fill-requires
fill-requires c =
    let a = c.args in
    let m = memory a.filter.now (tab a.xors.now a.flows.now a.unknowns.now a.positions.now a.marks.now) a.packets.now
    (records a.keys.now a.counts.now a.flags.now) in
    let z = c.in_ok-read.read.sizes in
    let e = accepted a.l _ _ a.slot a.image.now (sym c.read_in.ensures ∙ c.in_ok-read.was) in
    rw c.new-p.ensures.0 (e.whole, rooms-told a.l z c.requires e.sizes m (held (c.fits.ensures ∙ ap (λ r. room_fits a.l z (memory_seen r)) c.new-room.ensures) c.if-not-fits.false))

pub returns : goal.returns
returns c =
    let a = c.args in
    let m = memory a.filter.now (tab a.xors.now a.flows.now a.unknowns.now a.positions.now a.marks.now) a.packets.now
    (records a.keys.now a.counts.now a.flags.now) in
    let z = c.in_ok-read.read.sizes in
    open-filled a.l a.image.now a.slot m (sym c.in_ok-read.was ∙ c.read_in.ensures)
    (held (c.fits.ensures ∙ ap (λ r. room_fits a.l z (memory_seen r)) c.new-room.ensures) c.if-not-fits.false)
    (lent-room c.fill.new.table c.fill.new.list (rw (c.new-p.ensures.1, c.new-p.ensures.0) at c.fill.ensures.value) (search rules) (search rules) (search rules)
    (search rules) (search rules) (search rules) (search rules) (search rules))
