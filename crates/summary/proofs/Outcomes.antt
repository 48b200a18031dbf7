-- Any two outcomes that the contract of a public function allows are identical. The contract is that of src/, as the checker reads it.
use mathlib.Core.Path.{refl, sym, ◌∙◌}
use Rattle.laws.specs.Outcomes.{Determined}
use Rattle.summary.proofs.report_of.Kinds as report-of-kinds
use Rattle.summary.proofs.report_of.Reads as report-of

pub report-of-determined : Determined _ report-of-kinds.ps report-of-kinds.r report-of.Asked report-of.Learnt
report-of-determined κs a p z z' ws ws' e e' = (e ∙ sym e', refl)
