-- Any two outcomes that the contract of a public function allows are identical. The contract is that of src/, as the checker reads it.
use mathlib.Core.Path.{refl, sym, ◌∙◌}
use Rattle.laws.specs.Outcomes.{Determined}
use Rattle.laws.proofs.Outcomes.{both}
use Rattle.telling.proofs.fill_random.Kinds as fill-random-kinds
use Rattle.telling.proofs.fill_random.Reads as fill-random

pub fill-random-determined : Determined _ fill-random-kinds.ps fill-random-kinds.r fill-random.Asked fill-random.Learnt
fill-random-determined κs a p z z' ws ws' e e' = (e.0 ∙ sym e'.0, both (e.1 ∙ sym e'.1) refl)
