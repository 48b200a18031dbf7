-- `encoder::packet` meets its contract.
use mathlib.Core.Path.{sym, ap, ◌∙◌}
use lib.ListN.{length}
use Rattle.std.proofs.lemmas.Result.{err_from_is_err_and}
use Rattle.layout.specs.Sizes.{ipv4_layout}
use Rattle.layout.proofs.Ranges.{ranged, lays-ipv4}
use Rattle.packet.proofs.KeyBytes.{length-key}
use Rattle.encoder.proofs.Answers.{rooms, packet-not-lent, packet-refused, packet-offered}
use Rattle.encoder.specs.Encoder.{offer_key}
use Rattle.encoder.proofs.packet.Goals as goal

pub returns-in_err-shape : goal.returns-in_err-shape
returns-in_err-shape c =
    let a = c.args in
    let p = err_from_is_err_and c.from_residual.result c.from_residual.ensures.1 in
    rw (p.1, p.2) (packet-not-lent a.z a.salt a.packet.now a.filter.now a.cells.now _ c.in_err-shape.ensures)

pub returns-in_default : goal.returns-in_default
returns-in_default c =
    let a = c.args in
    packet-refused a.z a.salt a.packet.now a.filter.now a.cells.now c.in_ok-shape.ensures (sym c.key_of.ensures ∙ c.in_default.is)

pub take_key-requires : goal.take_key-requires
take_key-requires c =
    let z = c.args.z in
    let h = c.in_ok-shape.ensures in
    rw (h.layout)
    (lays-ipv4, ranged z h.in_range, rooms ipv4_layout z (length c.args.filter.now) (length c.args.cells.now) h.rooms, ap length c.from-bytes.ensures ∙ length-key _)

pub returns : goal.returns
returns c =
    let a = c.args in
    let h = c.in_ok-shape.ensures in
    packet-offered a.z a.salt a.packet.now a.filter.now a.cells.now h c.in-Some.key (sym c.key_of.ensures ∙ c.in-Some.is) c.from-bytes.ensures
    (c.take_key.ensures ∙ ap (λ z. offer_key c.in_ok-shape.shape.layout z a.salt c.from-bytes.result a.filter.now a.cells.now) (sym h.sizes))
