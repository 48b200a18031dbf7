-- Any two outcomes that the contract of a public function allows are identical. The contracts are those of src/, as the checker reads them.
use mathlib.Core.Path.{refl, sym, ◌∙◌}
use Rattle.laws.specs.Outcomes.{Determined}
use Rattle.laws.proofs.Outcomes.{both}
use Rattle.filter.proofs.any_clear.Kinds as any-clear-kinds
use Rattle.filter.proofs.any_clear.Reads as any-clear
use Rattle.filter.proofs.set_all.Kinds as set-all-kinds
use Rattle.filter.proofs.set_all.Reads as set_all

pub any-clear-determined : Determined _ any-clear-kinds.ps any-clear-kinds.r any-clear.Asked any-clear.Learnt
any-clear-determined κs a p z z' ws ws' e e' = (e ∙ sym e', refl)

pub set-all-determined : Determined _ set-all-kinds.ps set-all-kinds.r set_all.Asked set_all.Learnt
set-all-determined κs a p z z' ws ws' e e' = (refl, both (e ∙ sym e') refl)
