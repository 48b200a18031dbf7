-- Any two outcomes that the contract of a public function allows are identical. The contracts are those of src/, as the checker reads them.
use mathlib.Core.Path.{refl, sym, ap, ◌∙◌}
use Rattle.laws.specs.Outcomes.{Determined}
use Rattle.laws.proofs.Outcomes.{both}
use Rattle.sealing.proofs.SealError.number.Kinds as number-kinds
use Rattle.sealing.proofs.SealError.number.Reads as number
use Rattle.sealing.proofs.seal.Kinds as seal-kinds
use Rattle.sealing.proofs.seal.Reads as seal

pub seal-determined : Determined _ seal-kinds.ps seal-kinds.r seal.Asked seal.Learnt
seal-determined κs a p z z' ws ws' e e' =
    (ap (λ s. s.answer) (e ∙ sym e'), both refl (both refl (both refl (both refl (both refl (both (ap (λ s. s.image) (e ∙ sym e')) refl))))))

pub number-determined : Determined _ number-kinds.ps number-kinds.r number.Asked number.Learnt
number-determined κs a p z z' ws ws' e e' = (e ∙ sym e', refl)
