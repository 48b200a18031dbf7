-- Any two outcomes that the contract of a public function allows are identical. The contracts are those of src/, as the checker reads them.
use mathlib.Core.Path.{◌≡◌, refl, sym, ap, ◌∙◌}
use Rattle.laws.specs.Outcomes.{Determined}
use Rattle.laws.proofs.Outcomes.{both, same_reference}
use Rattle.counting.proofs.is_ready.Kinds as is-ready-kinds
use Rattle.counting.proofs.is_ready.Reads as is-ready
use Rattle.counting.proofs.Tally.count_step.Kinds as count-step-kinds
use Rattle.counting.proofs.Tally.count_step.Reads as count-step
use Rattle.counting.proofs.count_all.Kinds as count-all-kinds
use Rattle.counting.proofs.count_all.Reads as count-all
use Rattle.counting.specs.Book.{Book, book_of, TallyKept}
use Rattle.counting.specs.Count.{Counted, Ended}
use Rattle.counting.specs.declared.Tally.{Tally}

pub is-ready-determined : Determined _ is-ready-kinds.ps is-ready-kinds.r is-ready.Asked is-ready.Learnt
is-ready-determined κs a p z z' ws ws' e e' = (e ∙ sym e', refl)

-- two tallies that hold the same lists on the same loans are one
pub tally-same : (t t' u : Tally) → book_of t ≡ book_of t' → TallyKept t u → TallyKept t' u → t ≡ t'
tally-same t t' u e k k' =
    let packets : t.packets ≡ t'.packets = same_reference (k.4 ∙ sym k'.4) (k.0 ∙ sym k'.0) (ap (λ (x : Book). x.packets) e) in
    let unknowns : t.unknowns ≡ t'.unknowns = same_reference (k.5 ∙ sym k'.5) (k.1 ∙ sym k'.1) (ap (λ (x : Book). x.unknowns) e) in
    let positions : t.positions ≡ t'.positions = same_reference (k.6 ∙ sym k'.6) (k.2 ∙ sym k'.2) (ap (λ (x : Book). x.positions) e) in
    let ready : t.ready ≡ t'.ready = same_reference (k.7 ∙ sym k'.7) (k.3 ∙ sym k'.3) (ap (λ (x : Book). x.ready) e) in
    λ i. record { packets = packets i; unknowns = unknowns i; positions = positions i; ready = ready i }

pub count-step-determined : Determined _ count-step-kinds.ps count-step-kinds.r count-step.Asked count-step.Learnt
count-step-determined κs a p z z' ws ws' e e' =
    let f = e.0 ∙ sym e'.0 in (
      ap (λ (x : Counted). x.answer) f,
      both (tally-same _ _ a.0.now (ap (λ (x : Counted). x.cells) f) e.1 e'.1) (both refl (both refl (both refl
          (both refl (both (ap (λ (x : Counted). x.list.counts) f) (both (ap (λ (x : Counted). x.list.flags) f) refl)))))),
    )

pub count-all-determined : Determined _ count-all-kinds.ps count-all-kinds.r count-all.Asked count-all.Learnt
count-all-determined κs a p z z' ws ws' e e' =
    let f = e ∙ sym e' in (
      ap (λ (x : Ended). x.answer) f,
      both refl (both refl (both refl
          (both (ap (λ (x : Ended). x.packets) f) (both (ap (λ (x : Ended). x.unknowns) f) (both (ap (λ (x : Ended). x.positions) f)
          (both refl (both (ap (λ (x : Ended). x.list.counts) f) (both (ap (λ (x : Ended). x.list.flags) f) refl)))))))),
    )
