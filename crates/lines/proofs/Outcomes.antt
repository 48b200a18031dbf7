-- Any two outcomes that the contract of a public function allows are identical. The contracts are those of src/, as the checker reads them.
use mathlib.Core.Path.{refl, sym, ◌∙◌}
use Rattle.laws.specs.Outcomes.{Determined}
use Rattle.laws.proofs.Outcomes.{both}
use Rattle.lines.proofs.Lines.{adds-same}
use Rattle.lines.proofs.Page.new.Kinds as new-kinds
use Rattle.lines.proofs.Page.new.Reads as new
use Rattle.lines.proofs.Page.written.Kinds as written-kinds
use Rattle.lines.proofs.Page.written.Reads as written
use Rattle.lines.proofs.Page.flow.Kinds as flow-kinds
use Rattle.lines.proofs.Page.flow.Reads as flow
use Rattle.lines.proofs.Page.head.Kinds as head-kinds
use Rattle.lines.proofs.Page.head.Reads as head
use Rattle.lines.proofs.Page.refused.Kinds as refused-kinds
use Rattle.lines.proofs.Page.refused.Reads as Refused

pub new-determined : Determined _ new-kinds.ps new-kinds.r new.Asked new.Learnt
new-determined κs a p z z' ws ws' e e' = (e ∙ sym e', refl)

pub written-determined : Determined _ written-kinds.ps written-kinds.r written.Asked written.Learnt
written-determined κs a p z z' ws ws' e e' = (e ∙ sym e', refl)

pub flow-determined : Determined _ flow-kinds.ps flow-kinds.r flow.Asked flow.Learnt
flow-determined κs a p z z' ws ws' e e' = (refl, both (adds-same e e') refl)

pub head-determined : Determined _ head-kinds.ps head-kinds.r head.Asked head.Learnt
head-determined κs a p z z' ws ws' e e' = (refl, both (adds-same e e') refl)

pub refused-determined : Determined _ refused-kinds.ps refused-kinds.r Refused.Asked Refused.Learnt
refused-determined κs a p z z' ws ws' e e' = (refl, both (adds-same e e') refl)
