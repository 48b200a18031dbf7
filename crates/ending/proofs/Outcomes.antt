-- Any two outcomes that the contract of a public function allows are identical. The contracts are those of src/, as the checker reads them.
use Rattle.std.proofs.Common.{refl, sym, ◌∙◌}
use Rattle.laws.specs.Outcomes.{Determined}
use Rattle.ending.proofs.Switch.number.Kinds as number-kinds
use Rattle.ending.proofs.Switch.number.Reads as number
use Rattle.ending.proofs.ending_of.Kinds as ending-of-kinds
use Rattle.ending.proofs.ending_of.Reads as ending_of
use Rattle.ending.proofs.is_over.Kinds as is-over-kinds
use Rattle.ending.proofs.is_over.Reads as is-over

pub number-determined : Determined _ number-kinds.ps number-kinds.r number.Asked number.Learnt
number-determined κs a p z z' ws ws' e e' = (e ∙ sym e', refl)

pub ending-of-determined : Determined _ ending-of-kinds.ps ending-of-kinds.r ending_of.Asked ending_of.Learnt
ending-of-determined κs a p z z' ws ws' e e' = (e ∙ sym e', refl)

pub is-over-determined : Determined _ is-over-kinds.ps is-over-kinds.r is-over.Asked is-over.Learnt
is-over-determined κs a p z z' ws ws' e e' = (e ∙ sym e', refl)
