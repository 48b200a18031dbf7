-- Any two outcomes that the contract of a public function allows are identical. The contracts are those of src/, as the checker reads them.
use mathlib.Core.Path.{refl, sym, ap, ◌∙◌}
use mathlib.Core.List.{List}
use Prim.Native.Nat.{ℕ}
use Rattle.laws.specs.Outcomes.{Determined}
use Rattle.laws.proofs.Outcomes.{both}
use Rattle.room.specs.Memory.{Memory}
use Rattle.opening.specs.Open.{Opening}
use Rattle.session.specs.Calls.{Handing, Settling}
use Rattle.session.proofs.open.Kinds as open-kinds
use Rattle.session.proofs.open.Reads as open-reads
use Rattle.session.proofs.hand_over.Kinds as hand-over-kinds
use Rattle.session.proofs.hand_over.Reads as hand-over
use Rattle.session.proofs.hand_over_in.Kinds as hand-over-in-kinds
use Rattle.session.proofs.hand_over_in.Reads as hand-over-in
use Rattle.session.proofs.settle.Kinds as settle-kinds
use Rattle.session.proofs.settle.Reads as settle
use Rattle.session.proofs.settle_in.Kinds as settle-in-kinds
use Rattle.session.proofs.settle_in.Reads as settle-in
use Rattle.session.proofs.report.Kinds as report-kinds
use Rattle.session.proofs.report.Reads as report
use Rattle.session.proofs.report_in.Kinds as report-in-kinds
use Rattle.session.proofs.report_in.Reads as report-in
use Rattle.session.proofs.SessionError.number.Kinds as session-number-kinds
use Rattle.session.proofs.SessionError.number.Reads as session-number
use Rattle.session.proofs.HandOverError.number.Kinds as hand-over-error-number-kinds
use Rattle.session.proofs.HandOverError.number.Reads as hand-over-error-number
use Rattle.session.proofs.SettleError.number.Kinds as settle-error-number-kinds
use Rattle.session.proofs.SettleError.number.Reads as settle-error-number
use Rattle.session.proofs.HandOverErrorFromSessionError.from.Kinds as hand-over-from-session-kinds
use Rattle.session.proofs.HandOverErrorFromSessionError.from.Reads as hand-over-from-session
use Rattle.session.proofs.HandOverErrorFromHandError.from.Kinds as hand-over-from-hand-kinds
use Rattle.session.proofs.HandOverErrorFromHandError.from.Reads as hand-over-from-hand
use Rattle.session.proofs.SettleErrorFromSessionError.from.Kinds as settle-from-session-kinds
use Rattle.session.proofs.SettleErrorFromSessionError.from.Reads as settle-from-session
use Rattle.session.proofs.SettleErrorFromDamage.from.Kinds as settle-from-damage-kinds
use Rattle.session.proofs.SettleErrorFromDamage.from.Reads as settle-from-damage

pub report-determined : Determined _ report-kinds.ps report-kinds.r report.Asked report.Learnt
report-determined κs a p z z' ws ws' e e' = (e ∙ sym e', refl)

pub report-in-determined : Determined _ report-in-kinds.ps report-in-kinds.r report-in.Asked report-in.Learnt
report-in-determined κs a p z z' ws ws' e e' = (e ∙ sym e', refl)

-- what is left behind the slices of cells and list where all are written
abbrev room_left : Memory → List ℕ × (List ℕ × (List ℕ × (List ℕ × (List ℕ × (List ℕ × (List ℕ × (List ℕ × (List ℕ × Unit {0}))))))))
room_left m =
    let t = m.table in
    let rs = m.list in
    (t.xors, (t.flows, (m.packets, (t.unknowns, (t.positions, (t.marks, (rs.keys, (rs.counts, (rs.flags, tt)))))))))

pub open-determined : Determined _ open-kinds.ps open-kinds.r open-reads.Asked open-reads.Learnt
open-determined κs a p z z' ws ws' e e' = let f = e ∙ sym e' in (
  ap (λ (x : Opening). x.answer) f,
  both refl (both refl (both (ap (λ (x : Opening). x.room.filter) f) (ap (λ (x : Opening). room_left x.room) f))),
)

-- what a hand-over leaves behind its slices; filter and PacketCounts are lent shared
abbrev hand_left : Handing → Unit {0} × (List ℕ × (List ℕ × (Unit {0} × (List ℕ × (List ℕ × (List ℕ × (List ℕ × (List ℕ × (List ℕ × Unit {0})))))))))
hand_left x =
    let t = x.room.table in
    let rs = x.room.list in
    (tt, (t.xors, (t.flows, (tt, (t.unknowns, (t.positions, (t.marks, (rs.keys, (rs.counts, (rs.flags, tt))))))))))

pub hand-over-determined : Determined _ hand-over-kinds.ps hand-over-kinds.r hand-over.Asked hand-over.Learnt
hand-over-determined κs a p z z' ws ws' e e' =
    let f = e ∙ sym e' in (ap (λ (x : Handing). x.answer) f, both refl (both refl (ap hand_left f)))

pub hand-over-in-determined : Determined _ hand-over-in-kinds.ps hand-over-in-kinds.r hand-over-in.Asked hand-over-in.Learnt
hand-over-in-determined κs a p z z' ws ws' e e' =
    let f = e ∙ sym e' in (ap (λ (x : Handing). x.answer) f, both refl (both refl (both refl (ap hand_left f))))

pub settle-determined : Determined _ settle-kinds.ps settle-kinds.r settle.Asked settle.Learnt
settle-determined κs a p z z' ws ws' e e' =
    let f = e ∙ sym e' in (ap (λ (x : Settling). x.answer) f, both refl (both refl (ap (λ (x : Settling). room_left x.room) f)))

pub settle-in-determined : Determined _ settle-in-kinds.ps settle-in-kinds.r settle-in.Asked settle-in.Learnt
settle-in-determined κs a p z z' ws ws' e e' =
    let f = e ∙ sym e' in (ap (λ (x : Settling). x.answer) f, both refl (both refl (both refl (ap (λ (x : Settling). room_left x.room) f))))

pub session-number-determined : Determined _ session-number-kinds.ps session-number-kinds.r session-number.Asked session-number.Learnt
session-number-determined κs a p z z' ws ws' e e' = (e ∙ sym e', refl)

pub hand-over-error-number-determined : Determined _ hand-over-error-number-kinds.ps hand-over-error-number-kinds.r hand-over-error-number.Asked hand-over-error-number.Learnt
hand-over-error-number-determined κs a p z z' ws ws' e e' = (e ∙ sym e', refl)

pub settle-error-number-determined : Determined _ settle-error-number-kinds.ps settle-error-number-kinds.r settle-error-number.Asked settle-error-number.Learnt
settle-error-number-determined κs a p z z' ws ws' e e' = (e ∙ sym e', refl)

pub hand-over-from-session-determined : Determined _ hand-over-from-session-kinds.ps hand-over-from-session-kinds.r hand-over-from-session.Asked hand-over-from-session.Learnt
hand-over-from-session-determined κs a p z z' ws ws' e e' = (e ∙ sym e', refl)

pub hand-over-from-hand-determined : Determined _ hand-over-from-hand-kinds.ps hand-over-from-hand-kinds.r hand-over-from-hand.Asked hand-over-from-hand.Learnt
hand-over-from-hand-determined κs a p z z' ws ws' e e' = (e ∙ sym e', refl)

pub settle-from-session-determined : Determined _ settle-from-session-kinds.ps settle-from-session-kinds.r settle-from-session.Asked settle-from-session.Learnt
settle-from-session-determined κs a p z z' ws ws' e e' = (e ∙ sym e', refl)

pub settle-from-damage-determined : Determined _ settle-from-damage-kinds.ps settle-from-damage-kinds.r settle-from-damage.Asked settle-from-damage.Learnt
settle-from-damage-determined κs a p z z' ws ws' e e' = (e ∙ sym e', refl)
