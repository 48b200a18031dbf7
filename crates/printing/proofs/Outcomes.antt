-- Any two outcomes that the contract of a public function allows are identical. The contracts are those of src/, as the checker reads them.
use mathlib.Core.Path.{refl, sym, ◌∙◌}
use Rattle.laws.specs.Outcomes.{Determined}
use Rattle.laws.proofs.Outcomes.{both}
use Rattle.printing.proofs.put_listed.Kinds as put-listed-kinds
use Rattle.printing.proofs.put_listed.Reads as put-listed
use Rattle.printing.proofs.print.Kinds as print-kinds
use Rattle.printing.proofs.print.Reads as print

pub print-determined : Determined _ print-kinds.ps print-kinds.r print.Asked print.Learnt
print-determined κs a p z z' ws ws' e e' = (e.0 ∙ sym e'.0, both refl (both (e.1 ∙ sym e'.1) refl))

pub put-listed-determined : Determined _ put-listed-kinds.ps put-listed-kinds.r put-listed.Asked put-listed.Learnt
put-listed-determined κs a p z z' ws ws' e e' = (e.place ∙ sym e'.place, both (e.bytes ∙ sym e'.bytes) refl)
