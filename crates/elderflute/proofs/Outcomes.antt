-- Any two outcomes that the contract of a public function allows are identical. The contracts are those of src/, as the checker reads them.
use mathlib.Core.Path.{refl, sym, ap, ◌∙◌}
use mathlib.Core.List.{List}
use Prim.Native.Nat.{ℕ}
use Rattle.laws.specs.Outcomes.{Determined}
use Rattle.laws.proofs.Outcomes.{both}
use Rattle.room.specs.Memory.{Memory}
use Rattle.elderflute.specs.Flowset.{Keying, Working, Sealing}
use Rattle.elderflute.specs.Images.{ReadLeft, Opening}
use Rattle.elderflute.specs.Sessions.{Handing, Settling, Reporting, Printing}
use Rattle.elderflute.proofs.elderflute_version.Kinds as version-kinds
use Rattle.elderflute.proofs.elderflute_version.Reads as version
use Rattle.elderflute.proofs.elderflute_key.Kinds as key-kinds
use Rattle.elderflute.proofs.elderflute_key.Reads as key
use Rattle.elderflute.proofs.elderflute_start.Kinds as start-kinds
use Rattle.elderflute.proofs.elderflute_start.Reads as start
use Rattle.elderflute.proofs.elderflute_packet.Kinds as packet-kinds
use Rattle.elderflute.proofs.elderflute_packet.Reads as packet
use Rattle.elderflute.proofs.elderflute_seal.Kinds as seal-kinds
use Rattle.elderflute.proofs.elderflute_seal.Reads as seal
use Rattle.elderflute.proofs.elderflute_read.Kinds as read-kinds
use Rattle.elderflute.proofs.elderflute_read.Reads as read
use Rattle.elderflute.proofs.elderflute_open.Kinds as open-kinds
use Rattle.elderflute.proofs.elderflute_open.Reads as open-reads
use Rattle.elderflute.proofs.elderflute_hand_over.Kinds as hand-over-kinds
use Rattle.elderflute.proofs.elderflute_hand_over.Reads as hand-over
use Rattle.elderflute.proofs.elderflute_settle.Kinds as settle-kinds
use Rattle.elderflute.proofs.elderflute_exchange.Kinds as exchange-kinds
use Rattle.elderflute.proofs.elderflute_exchange.Reads as exchange
use Rattle.elderflute.specs.Exchanges.{Exchanging}
use Rattle.elderflute.proofs.elderflute_settle.Reads as settle
use Rattle.elderflute.proofs.elderflute_report.Kinds as report-kinds
use Rattle.elderflute.proofs.elderflute_report.Reads as report
use Rattle.elderflute.proofs.elderflute_print.Kinds as print-kinds
use Rattle.elderflute.proofs.elderflute_print.Reads as print
use Rattle.elderflute.proofs.elderflute_lines.Kinds as lines-kinds
use Rattle.elderflute.proofs.elderflute_lines.Reads as lines

pub version-determined : Determined _ version-kinds.ps version-kinds.r version.Asked version.Learnt
version-determined κs a p z z' ws ws' e e' = (e ∙ sym e', refl)

pub key-determined : Determined _ key-kinds.ps key-kinds.r key.Asked key.Learnt
key-determined κs a p z z' ws ws' e e' =
    let f = e ∙ sym e' in (ap (λ (x : Keying). x.number) f, both refl (both (ap (λ (x : Keying). x.key) f) refl))

pub start-determined : Determined _ start-kinds.ps start-kinds.r start.Asked start.Learnt
start-determined κs a p z z' ws ws' e e' = let f = e ∙ sym e' in (
  ap (λ (x : Working). x.number) f,
  both refl (both refl (both refl (both refl (ap (λ (x : Working). (x.filter, (x.cells, tt))) f)))),
)

pub packet-determined : Determined _ packet-kinds.ps packet-kinds.r packet.Asked packet.Learnt
packet-determined κs a p z z' ws ws' e e' = let f = e ∙ sym e' in (
  ap (λ (x : Working). x.number) f,
  both refl (both refl (both refl (both refl (both refl (ap (λ (x : Working). (x.filter, (x.cells, (tt, tt)))) f))))),
)

pub seal-determined : Determined _ seal-kinds.ps seal-kinds.r seal.Asked seal.Learnt
seal-determined κs a p z z' ws ws' e e' = let f = e ∙ sym e' in (
  ap (λ (x : Sealing). x.number) f,
  both refl (both refl (both refl (both refl (both refl (both refl (both refl (both refl (both (ap (λ (x : Sealing). x.image) f) refl)))))))),
)

pub read-determined : Determined _ read-kinds.ps read-kinds.r read.Asked read.Learnt
read-determined κs a p z z' ws ws' e e' = let f = e ∙ sym e' in (
  ap (λ (x : ReadLeft). x.number) f,
  both refl (both refl (ap (λ (x : ReadLeft). (x.numbers, (x.block, tt))) f)),
)

-- what is left behind the slices of cells and list where all are written
abbrev room_left : Memory → List ℕ × (List ℕ × (List ℕ × (List ℕ × (List ℕ × (List ℕ × (List ℕ × (List ℕ × (List ℕ × Unit {0}))))))))
room_left m =
    let t = m.table in
    let rs = m.list in
    (t.xors, (t.flows, (m.packets, (t.unknowns, (t.positions, (t.marks, (rs.keys, (rs.counts, (rs.flags, tt)))))))))

pub open-determined : Determined _ open-kinds.ps open-kinds.r open-reads.Asked open-reads.Learnt
open-determined κs a p z z' ws ws' e e' = let f = e ∙ sym e' in (
  ap (λ (x : Opening). x.left.number) f,
  both refl
      (both refl (ap (λ (x : Opening). (x.left.numbers, (x.left.listed, (x.left.block, (x.room.filter, room_left x.room))))) f)),
)

-- what a hand-over leaves behind its slices; filter and PacketCounts are lent shared
abbrev hand_left : Memory → Unit {0} × (List ℕ × (List ℕ × (Unit {0} × (List ℕ × (List ℕ × (List ℕ × (List ℕ × (List ℕ × (List ℕ × Unit {0})))))))))
hand_left m =
    let t = m.table in
    let rs = m.list in
    (tt, (t.xors, (t.flows, (tt, (t.unknowns, (t.positions, (t.marks, (rs.keys, (rs.counts, (rs.flags, tt))))))))))

pub hand-over-determined : Determined _ hand-over-kinds.ps hand-over-kinds.r hand-over.Asked hand-over.Learnt
hand-over-determined κs a p z z' ws ws' e e' = let f = e ∙ sym e' in (
  ap (λ (x : Handing). x.left.number) f,
  both refl (both (ap (λ (x : Handing). x.left.listed) f) (both refl (ap (λ (x : Handing). hand_left x.room) f))),
)

pub settle-determined : Determined _ settle-kinds.ps settle-kinds.r settle.Asked settle.Learnt
settle-determined κs a p z z' ws ws' e e' = let f = e ∙ sym e' in (
  ap (λ (x : Settling). x.left.number) f,
  both refl
      (both (ap (λ (x : Settling). x.left.listed) f)
      (both (ap (λ (x : Settling). x.left.cell) f) (both refl (ap (λ (x : Settling). room_left x.room) f)))),
)

pub report-determined : Determined _ report-kinds.ps report-kinds.r report.Asked report.Learnt
report-determined κs a p z z' ws ws' e e' =
    let f = e ∙ sym e' in (ap (λ (x : Reporting). x.number) f, both refl (both refl (both (ap (λ (x : Reporting). x.figures) f) refl)))

pub print-determined : Determined _ print-kinds.ps print-kinds.r print.Asked print.Learnt
print-determined κs a p z z' ws ws' e e' = let f = e ∙ sym e' in (
  ap (λ (x : Printing). x.number) f,
  both refl (ap (λ (x : Printing). (x.lines, (x.written, tt))) f),
)

pub lines-determined : Determined _ lines-kinds.ps lines-kinds.r lines.Asked lines.Learnt
lines-determined κs a p z z' ws ws' e e' = let f = e ∙ sym e' in (
  ap (λ (x : Printing). x.number) f,
  both refl (both refl (both (ap (λ (x : Printing). x.lines) f) (both (ap (λ (x : Printing). x.written) f) refl))),
)

pub exchange-determined : Determined _ exchange-kinds.ps exchange-kinds.r exchange.Asked exchange.Learnt
exchange-determined κs a p z z' ws ws' e e' = let f = e ∙ sym e' in (
  ap (λ (x : Exchanging). x.left.number) f,
  both refl
      (both (ap (λ (x : Exchanging). x.left.listed-a) f)
      (both refl
      (both (ap (λ (x : Exchanging). x.left.listed_b) f)
      (both (ap (λ (x : Exchanging). x.left.told) f) (both refl (ap (λ (x : Exchanging). room_left x.room) f)))))),
)
