-- Any two outcomes that the contract of a public function allows are identical. The contracts are those of src/, as the checker reads them.
use mathlib.Core.Path.{refl, sym, ◌∙◌}
use Rattle.laws.specs.Outcomes.{Determined}
use Rattle.found.proofs.bucket.Kinds as bucket-kinds
use Rattle.found.proofs.bucket.Reads as bucket
use Rattle.found.proofs.is_found.Kinds as is-found-kinds
use Rattle.found.proofs.is_found.Reads as is_found

pub bucket-determined : Determined _ bucket-kinds.ps bucket-kinds.r bucket.Asked bucket.Learnt
bucket-determined κs a p z z' ws ws' e e' = (e ∙ sym e', refl)

pub is-found-determined : Determined _ is-found-kinds.ps is-found-kinds.r is_found.Asked is_found.Learnt
is-found-determined κs a p z z' ws ws' e e' = (e ∙ sym e', refl)
