-- Any two outcomes that the contract of a public function allows are identical. The contract is that of src/, as the checker reads it.
use mathlib.Core.Path.{refl, sym, ◌∙◌}
use Rattle.laws.specs.Outcomes.{Determined}
use Rattle.source.proofs.sizes_in.Kinds as sizes-in-kinds
use Rattle.source.proofs.sizes_in.Reads as sizes-in

pub sizes-in-determined : Determined _ sizes-in-kinds.ps sizes-in-kinds.r sizes-in.Asked sizes-in.Learnt
sizes-in-determined κs a p z z' ws ws' e e' = (e ∙ sym e', refl)
