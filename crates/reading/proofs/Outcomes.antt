-- Any two outcomes that the contract of a public function allows are identical. The contracts are those of src/, as the checker reads them.
use mathlib.Core.Path.{refl, sym, ◌∙◌}
use Rattle.laws.specs.Outcomes.{Determined}
use Rattle.reading.proofs.ReadError.number.Kinds as number-kinds
use Rattle.reading.proofs.ReadError.number.Reads as number
use Rattle.reading.proofs.ReadError.block.Kinds as block-kinds
use Rattle.reading.proofs.ReadError.block.Reads as block
use Rattle.reading.proofs.read.Kinds as read-kinds
use Rattle.reading.proofs.read.Reads as read
use Rattle.reading.proofs.read_in.Kinds as read-in-kinds
use Rattle.reading.proofs.read_in.Reads as read-in

pub read-determined : Determined _ read-kinds.ps read-kinds.r read.Asked read.Learnt
read-determined κs a p z z' ws ws' e e' = (e ∙ sym e', refl)

pub read-in-determined : Determined _ read-in-kinds.ps read-in-kinds.r read-in.Asked read-in.Learnt
read-in-determined κs a p z z' ws ws' e e' = (e ∙ sym e', refl)

pub number-determined : Determined _ number-kinds.ps number-kinds.r number.Asked number.Learnt
number-determined κs a p z z' ws ws' e e' = (e ∙ sym e', refl)

pub block-determined : Determined _ block-kinds.ps block-kinds.r block.Asked block.Learnt
block-determined κs a p z z' ws ws' e e' = (e ∙ sym e', refl)
