-- Any two outcomes that the contract of a public function allows are identical. The contracts are those of src/, as the checker reads them.
use mathlib.Core.Path.{refl, sym, ◌∙◌}
use Rattle.laws.specs.Outcomes.{Determined}
use Rattle.form.proofs.sizes_in.Kinds as sizes-in-kinds
use Rattle.form.proofs.sizes_in.Reads as sizes-in
use Rattle.form.proofs.formed.Kinds as formed-kinds
use Rattle.form.proofs.formed.Reads as formed

pub sizes-in-determined : Determined _ sizes-in-kinds.ps sizes-in-kinds.r sizes-in.Asked sizes-in.Learnt
sizes-in-determined κs a p z z' ws ws' e e' = (e ∙ sym e', refl)

pub formed-determined : Determined _ formed-kinds.ps formed-kinds.r formed.Asked formed.Learnt
formed-determined κs a p z z' ws ws' e e' = (e ∙ sym e', refl)
