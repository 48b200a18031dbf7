-- Any two outcomes that the contract of a public function allows are identical. The contracts are those of src/, as the checker reads them.
use Rattle.std.proofs.Common.{sym, refl, ◌∙◌}
use Rattle.laws.specs.Outcomes.{Determined}
use Rattle.laws.proofs.Outcomes.{both}
use Rattle.cell.proofs.flow_count.Kinds as flow-count-kinds
use Rattle.cell.proofs.flow_count.Reads as flow-count
use Rattle.cell.proofs.packet_count.Kinds as packet-count-kinds
use Rattle.cell.proofs.packet_count.Reads as packet-count
use Rattle.cell.proofs.take_in.Kinds as take-in-kinds
use Rattle.cell.proofs.take_in.Reads as take_in

pub flow-count-determined : Determined _ flow-count-kinds.ps flow-count-kinds.r flow-count.Asked flow-count.Learnt
flow-count-determined κs a p z z' ws ws' e e' = (e ∙ sym e', refl)

pub packet-count-determined : Determined _ packet-count-kinds.ps packet-count-kinds.r packet-count.Asked packet-count.Learnt
packet-count-determined κs a p z z' ws ws' e e' = (e ∙ sym e', refl)

pub take-in-determined : Determined _ take-in-kinds.ps take-in-kinds.r take_in.Asked take_in.Learnt
take-in-determined κs a p z z' ws ws' e e' = (refl, both refl (both (e ∙ sym e') refl))
