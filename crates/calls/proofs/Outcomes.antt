-- Any two outcomes that the contract of a call allows are identical. The contracts are those of src/, as the checker reads them.
use mathlib.Core.Path.{◌≡◌, refl, sym, ap, ◌∙◌}
use mathlib.Core.List.{List}
use Prim.Native.Nat.{ℕ}
use Rattle.std.specs.Prelude.{Result}
use Rattle.laws.specs.Outcomes.{Determined}
use Rattle.laws.proofs.Outcomes.{both}
use Rattle.table.specs.Table.{tab}
use Rattle.opening.specs.declared.OpenError.{OpenError}
use Rattle.room.specs.declared.Session.{Session}
use Rattle.session.specs.declared.HandOverError.{HandOverError}
use Rattle.session.specs.declared.SettleError.{SettleError}
use Rattle.records.specs.declared.Record.{Record}
use Rattle.records.specs.Outcomes.{Determines}
use Rattle.calls.specs.Calls.{Lent, lent, Called, called, settle_records, hand_records, open_records, report_records}
use Rattle.calls.proofs.taken_of.Kinds as taken-of-kinds
use Rattle.calls.proofs.taken_of.Reads as Taken-of
use Rattle.calls.specs.contracts.report as report
use Rattle.calls.specs.contracts.settle as settle
use Rattle.calls.specs.contracts.hand_over as hand-over
use Rattle.calls.specs.contracts.open as open-call

pub taken-of-determined : Determined _ taken-of-kinds.ps taken-of-kinds.r Taken-of.Asked Taken-of.Learnt
taken-of-determined κs a p z z' ws ws' e e' = (e.0 ∙ sym e'.0, refl)

pub report-determines : Determines report.ended (λ M 𝓤 𝓛. report.clauses 𝓛)
report-determines = record {
  Learnt = λ κs a z e. z ≡ report_records a.0 (lent a.1.0.now
      (tab a.1.1.0.now a.1.1.1.0.now a.1.1.1.1.1.0.now a.1.1.1.1.1.1.0.now a.1.1.1.1.1.1.1.0.now)
      a.1.1.1.1.0.now a.1.1.1.1.1.1.1.1.0.now);
  says = λ M 𝓤 𝓛 mem run κs a g z e. refl;
  determined = λ κs a z z' ws ws' p p'. (p ∙ sym p', refl);
}

-- what is left behind the slices that settling and opening write
abbrev pub Written : Type 0
Written = List ℕ × (List ℕ × (List ℕ × (List ℕ × (List ℕ × (List ℕ × (List Record × Unit {0}))))))

abbrev pub written : Lent → Written
written m = let t = m.table in (t.xors, (t.flows, (m.packets, (t.unknowns, (t.positions, (t.marks, (m.list, tt)))))))

pub settle-determines : Determines settle.ended (λ M 𝓤 𝓛. settle.clauses 𝓛)
settle-determines = record {
  Learnt = λ κs a z e. called z (lent a.1.0.now
      (tab e.1.1.0.now e.1.1.1.0.now e.1.1.1.1.1.0.now e.1.1.1.1.1.1.0.now e.1.1.1.1.1.1.1.0.now)
      e.1.1.1.1.0.now e.1.1.1.1.1.1.1.1.0.now)
      ≡ settle_records a.0 (lent a.1.0.now
      (tab a.1.1.0.now a.1.1.1.0.now a.1.1.1.1.1.0.now a.1.1.1.1.1.1.0.now a.1.1.1.1.1.1.1.0.now)
      a.1.1.1.1.0.now a.1.1.1.1.1.1.1.1.0.now);
  says = λ M 𝓤 𝓛 mem run κs a g z e. refl;
  determined = λ κs a z z' ws ws' p p'. let q = p ∙ sym p' in (
    ap (λ (x : Called (Result ℕ SettleError)). x.answer) q,
    both refl (both refl (ap (λ (x : Called (Result ℕ SettleError)). written x.room) q)),
  );
}

pub hand-over-determines : Determines hand-over.ended (λ M 𝓤 𝓛. hand-over.clauses 𝓛)
hand-over-determines = record {
  Learnt = λ κs a z e. called z (lent a.1.1.0.now
      (tab e.1.1.1.0.now e.1.1.1.1.0.now e.1.1.1.1.1.1.0.now e.1.1.1.1.1.1.1.0.now e.1.1.1.1.1.1.1.1.0.now)
      a.1.1.1.1.1.0.now e.1.1.1.1.1.1.1.1.1.0.now)
      ≡ hand_records a.0 a.1.0 (lent a.1.1.0.now
      (tab a.1.1.1.0.now a.1.1.1.1.0.now a.1.1.1.1.1.1.0.now a.1.1.1.1.1.1.1.0.now a.1.1.1.1.1.1.1.1.0.now)
      a.1.1.1.1.1.0.now a.1.1.1.1.1.1.1.1.1.0.now);
  says = λ M 𝓤 𝓛 mem run κs a g z e. refl;
  determined = λ κs a z z' ws ws' p p'. let q = p ∙ sym p' in (
    ap (λ (x : Called (Result ℕ HandOverError)). x.answer) q,
    ap (λ (x : Called (Result ℕ HandOverError)).
        let m = x.room in
        let t = m.table in (tt, (tt, (tt, (t.xors, (t.flows, (tt, (t.unknowns, (t.positions, (t.marks, (m.list, tt))))))))))) q,
  );
}

pub open-determines : Determines open-call.ended (λ M 𝓤 𝓛. open-call.clauses 𝓛)
open-determines = record {
  Learnt = λ κs a z e. called z (lent e.1.1.0.now
      (tab e.1.1.1.0.now e.1.1.1.1.0.now e.1.1.1.1.1.1.0.now e.1.1.1.1.1.1.1.0.now e.1.1.1.1.1.1.1.1.0.now)
      e.1.1.1.1.1.0.now e.1.1.1.1.1.1.1.1.1.0.now)
      ≡ open_records a.0.now a.1.0 (lent a.1.1.0.now
      (tab a.1.1.1.0.now a.1.1.1.1.0.now a.1.1.1.1.1.1.0.now a.1.1.1.1.1.1.1.0.now a.1.1.1.1.1.1.1.1.0.now)
      a.1.1.1.1.1.0.now a.1.1.1.1.1.1.1.1.1.0.now);
  says = λ M 𝓤 𝓛 mem run κs a g z e. refl;
  determined = λ κs a z z' ws ws' p p'. let q = p ∙ sym p' in (
    ap (λ (x : Called (Result Session OpenError)). x.answer) q,
    both refl (both refl (both (ap (λ (x : Called (Result Session OpenError)). x.room.filter) q) (ap (λ (x : Called (Result Session OpenError)). written x.room) q))),
  );
}
