-- Any two outcomes that the contract of a public function allows are identical. The contracts are those of src/, as the checker reads them.
use borrow.Fn.Kinds.{Dens, res_t, ended_of}
use contract.Lifetimes.{Lfts}
use denote.Triple.Clauses.{Lasts, at_exit}
use Rattle.std.proofs.Common.{◌≡◌, sym, refl, ap, ◌∙◌}
use Rattle.laws.specs.Outcomes.{Determined}
use Rattle.laws.proofs.Outcomes.{both, same_reference}
use Rattle.table.proofs.Table.first_mark.Kinds as first-mark-kinds
use Rattle.table.proofs.Table.first_mark.Reads as first-mark
use Rattle.table.proofs.Table.key.Kinds as key-kinds
use Rattle.table.proofs.Table.key.Reads as key
use Rattle.table.proofs.Table.any_empty.Kinds as table-any-empty-kinds
use Rattle.table.proofs.Table.any_empty.Reads as table-any-empty
use Rattle.table.proofs.Table.is_pure.Kinds as table-is-pure-kinds
use Rattle.table.proofs.Table.is_pure.Reads as table-is-pure
use Rattle.table.proofs.is_pure.Kinds as is-pure-kinds
use Rattle.table.proofs.is_pure.Reads as is-pure
use Rattle.table.proofs.Table.take_out.Kinds as take-out-kinds
use Rattle.table.proofs.Table.take_out.Reads as take_out
use Rattle.table.proofs.any_empty.Kinds as any-empty-kinds
use Rattle.table.proofs.any_empty.Reads as any-empty
use Rattle.table.specs.Table.{Tab, tab_of, TableKept}
use Rattle.table.specs.declared.Table.{Table}

pub is-pure-determined : Determined _ is-pure-kinds.ps is-pure-kinds.r is-pure.Asked is-pure.Learnt
is-pure-determined κs a p z z' ws ws' e e' = (e ∙ sym e', refl)

-- two tables that hold the same on the same loans are one
pub table-same : (t t' u : Table) → tab_of t ≡ tab_of t' → TableKept t u → TableKept t' u → t ≡ t'
table-same t t' u e k k' =
    let xors : t.xors ≡ t'.xors = same_reference (k.5 ∙ sym k'.5) (k.0 ∙ sym k'.0) (ap (λ (x : Tab). x.xors) e) in
    let flows : t.flows ≡ t'.flows = same_reference (k.6 ∙ sym k'.6) (k.1 ∙ sym k'.1) (ap (λ (x : Tab). x.flows) e) in
    let unknowns : t.unknowns ≡ t'.unknowns = same_reference (k.7 ∙ sym k'.7) (k.2 ∙ sym k'.2) (ap (λ (x : Tab). x.unknowns) e) in
    let positions : t.positions ≡ t'.positions = same_reference (k.8 ∙ sym k'.8) (k.3 ∙ sym k'.3) (ap (λ (x : Tab). x.positions) e) in
    let marks : t.marks ≡ t'.marks = same_reference (k.9 ∙ sym k'.9) (k.4 ∙ sym k'.4) (ap (λ (x : Tab). x.marks) e) in
    λ i. record { xors = xors i; flows = flows i; unknowns = unknowns i; positions = positions i; marks = marks i }

pub take-out-determined : Determined _ take-out-kinds.ps take-out-kinds.r take_out.Asked take_out.Learnt
take-out-determined κs a p z z' ws ws' e e' = (refl, both (table-same _ _ a.0.now (e.0 ∙ sym e'.0) e.1 e'.1) refl)

pub any-empty-determined : Determined _ any-empty-kinds.ps any-empty-kinds.r any-empty.Asked any-empty.Learnt
any-empty-determined κs a p z z' ws ws' e e' = (e ∙ sym e', refl)

pub table-is-pure-determined : Determined _ table-is-pure-kinds.ps table-is-pure-kinds.r table-is-pure.Asked table-is-pure.Learnt
table-is-pure-determined κs a p z z' ws ws' e e' = (e ∙ sym e', refl)

pub table-any-empty-determined : Determined _ table-any-empty-kinds.ps table-any-empty-kinds.r table-any-empty.Asked table-any-empty.Learnt
table-any-empty-determined κs a p z z' ws ws' e e' = (e ∙ sym e', refl)

pub table-first-mark-determined : Determined _ first-mark-kinds.ps first-mark-kinds.r first-mark.Asked first-mark.Learnt
table-first-mark-determined κs a p z z' ws ws' e e' = (e ∙ sym e', refl)

-- a part that is lent: what it shows
pub table-key-determined : (κs : Lfts 2) (a : Dens κs key-kinds.ps) → key.Asked κs a → (z z' : (res_t key-kinds.r κs).Denot)
    (ws ws' : Lasts (ended_of 2 key-kinds.ps key-kinds.r) κs a)
    → key.Learnt κs a z (at_exit (ended_of 2 key-kinds.ps key-kinds.r) κs a ws)
    → key.Learnt κs a z' (at_exit (ended_of 2 key-kinds.ps key-kinds.r) κs a ws') → (z.now ≡ z'.now) × (ws ≡ ws')
table-key-determined κs a p z z' ws ws' e e' = (e ∙ sym e', refl)
