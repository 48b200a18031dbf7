-- Any two outcomes that the contract of a public function allows are identical. The contracts are those of src/, as the checker reads them.
use mathlib.Core.Path.{refl, sym, ◌∙◌}
use Rattle.laws.specs.Outcomes.{Determined}
use Rattle.block.proofs.check_of.Kinds as check-of-kinds
use Rattle.block.proofs.check_of.Reads as check-of
use Rattle.block.proofs.zero_bytes.Kinds as zero-bytes-kinds
use Rattle.block.proofs.zero_bytes.Reads as zero-bytes

pub check-of-determined : Determined _ check-of-kinds.ps check-of-kinds.r check-of.Asked check-of.Learnt
check-of-determined κs a p z z' ws ws' e e' = (e ∙ sym e', refl)

pub zero-bytes-determined : Determined _ zero-bytes-kinds.ps zero-bytes-kinds.r zero-bytes.Asked zero-bytes.Learnt
zero-bytes-determined κs a p z z' ws ws' e e' = (e ∙ sym e', refl)
