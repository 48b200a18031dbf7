-- Any two outcomes that the contract of a public function allows are identical. The contracts are those of src/, as the checker reads them.
use Rattle.std.proofs.Common.{◌≡◌, refl, sym, ap, ◌∙◌}
use Rattle.laws.specs.Outcomes.{Determined}
use Rattle.laws.proofs.Outcomes.{both, same_reference}
use Rattle.parts.specs.declared.Part.{Part}
use Rattle.parts.specs.Sides.{Side, side, Rested, Given}
use Rattle.parts.specs.Parts.{side_in, PartKept}
use Rattle.parts.proofs.Place.origin.Kinds as origin-kinds
use Rattle.parts.proofs.Place.origin.Reads as origin
use Rattle.parts.proofs.Place.after.Kinds as after-kinds
use Rattle.parts.proofs.Place.after.Reads as after
use Rattle.parts.proofs.Part.settle.Kinds as settle-kinds
use Rattle.parts.proofs.Part.settle.Reads as settle
use Rattle.parts.proofs.Part.take_from.Kinds as take-from-kinds
use Rattle.parts.proofs.Part.take_from.Reads as take_from

pub origin-determined : Determined _ origin-kinds.ps origin-kinds.r origin.Asked origin.Learnt
origin-determined κs a p z z' ws ws' e e' = (e ∙ sym e', refl)

pub after-determined : Determined _ after-kinds.ps after-kinds.r after.Asked after.Learnt
after-determined κs a p z z' ws ws' e e' = (e ∙ sym e', refl)

-- two parts that hold the same session on the same loans are one
pub part-same : (x y q : Part) → side_in x ≡ side_in y → PartKept x q → PartKept y q → x ≡ y
part-same x y q e k m =
    let xors : x.xors ≡ y.xors = same_reference (k.10 ∙ sym m.10) (k.0 ∙ sym m.0) (ap (λ (s : Side). s.table.xors) e) in
    let flows : x.flows ≡ y.flows = same_reference (k.11 ∙ sym m.11) (k.1 ∙ sym m.1) (ap (λ (s : Side). s.table.flows) e) in
    let packets : x.packets ≡ y.packets = same_reference (k.12 ∙ sym m.12) (k.2 ∙ sym m.2) (ap (λ (s : Side). s.packets) e) in
    let unknowns : x.unknowns ≡ y.unknowns = same_reference (k.13 ∙ sym m.13) (k.3 ∙ sym m.3) (ap (λ (s : Side). s.table.unknowns) e) in
    let positions : x.positions ≡ y.positions = same_reference (k.14 ∙ sym m.14) (k.4 ∙ sym m.4) (ap (λ (s : Side). s.table.positions) e) in
    let marks : x.marks ≡ y.marks = same_reference (k.15 ∙ sym m.15) (k.5 ∙ sym m.5) (ap (λ (s : Side). s.table.marks) e) in
    let keys : x.keys ≡ y.keys = same_reference (k.16 ∙ sym m.16) (k.6 ∙ sym m.6) (ap (λ (s : Side). s.list.keys) e) in
    let counts : x.counts ≡ y.counts = same_reference (k.17 ∙ sym m.17) (k.7 ∙ sym m.7) (ap (λ (s : Side). s.list.counts) e) in
    let flags : x.flags ≡ y.flags = same_reference (k.18 ∙ sym m.18) (k.8 ∙ sym m.8) (ap (λ (s : Side). s.list.flags) e) in
    let seen : x.seen ≡ y.seen = same_reference (k.19 ∙ sym m.19) (k.9 ∙ sym m.9) (ap (λ (s : Side). s.seen) e) in
    let placing = k.20 ∙ sym m.20 in
    let filter = k.21 ∙ sym m.21 in
    let listed : x.listed ≡ y.listed = ap (λ (s : Side). s.listed) e in
    λ i. record {
      placing = placing i;
      listed = listed i;
      filter = filter i;
      xors = xors i;
      flows = flows i;
      packets = packets i;
      unknowns = unknowns i;
      positions = positions i;
      marks = marks i;
      keys = keys i;
      counts = counts i;
      flags = flags i;
      seen = seen i;
    }

pub settle-determined : Determined _ settle-kinds.ps settle-kinds.r settle.Asked settle.Learnt
settle-determined κs a p z z' ws ws' e e' =
    let f = e.0 ∙ sym e'.0 in (
      ap (λ (x : Rested). x.stop) f,
      both (part-same _ _ a.0.now (ap (λ (x : Rested). x.left) f) e.1 e'.1) refl,
    )

pub take-from-determined : Determined _ take-from-kinds.ps take-from-kinds.r take_from.Asked take_from.Learnt
take-from-determined κs a p z z' ws ws' e e' =
    let f = e.0 ∙ sym e'.0 in
    let packets = e.1.1.0 ∙ sym e'.1.1.0 in (
      ap (λ (x : Given). x.twelves) f,
      both (part-same _ _ a.0.now (λ i. side (f i).listed (f i).table (packets i) (f i).list (f i).seen) e.1.1.1 e'.1.1.1) refl,
    )
