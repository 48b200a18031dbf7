-- Any two outcomes that the contract of a public function allows are identical. The contracts are those of src/, as the checker reads them.
use mathlib.Core.Path.{refl, sym, ap, ◌∙◌}
use Rattle.laws.specs.Outcomes.{Determined}
use Rattle.laws.proofs.Outcomes.{both}
use Rattle.handing.proofs.hand.Kinds as hand-kinds
use Rattle.handing.proofs.hand.Reads as hand
use Rattle.handing.proofs.taken_by.Kinds as taken-by-kinds
use Rattle.handing.proofs.taken_by.Reads as taken-by
use Rattle.handing.proofs.twelve_by.Kinds as twelve-by-kinds
use Rattle.handing.proofs.twelve_by.Reads as twelve-by
use Rattle.handing.proofs.HandError.number.Kinds as number-kinds
use Rattle.handing.proofs.HandError.number.Reads as number
use Rattle.list.proofs.Outcomes.{found-same}
use Rattle.table.proofs.Outcomes.{table-same}
use Rattle.handing.specs.Hand.{Handing}

pub hand-determined : Determined _ hand-kinds.ps hand-kinds.r hand.Asked hand.Learnt
hand-determined κs a p z z' ws ws' e e' =
    let f = e.0 ∙ sym e'.0 in (
      ap (λ (x : Handing). x.answer) f,
      both refl (both refl (both refl (both refl (both refl (both (table-same _ _ a.1.1.1.1.1.0.now (ap (λ (x : Handing). x.table) f) e.1.0 e'.1.0)
          (both (found-same _ _ a.1.1.1.1.1.1.0.now (ap (λ (x : Handing). x.list) f) e.1.1 e'.1.1) (both (ap (λ (x : Handing). x.seen) f) refl))))))),
    )

pub taken-by-determined : Determined _ taken-by-kinds.ps taken-by-kinds.r taken-by.Asked taken-by.Learnt
taken-by-determined κs a p z z' ws ws' e e' = (e.0 ∙ sym e'.0, refl)

pub twelve-by-determined : Determined _ twelve-by-kinds.ps twelve-by-kinds.r twelve-by.Asked twelve-by.Learnt
twelve-by-determined κs a p z z' ws ws' e e' = (e.0 ∙ sym e'.0, refl)

pub number-determined : Determined _ number-kinds.ps number-kinds.r number.Asked number.Learnt
number-determined κs a p z z' ws ws' e e' = (e ∙ sym e', refl)
