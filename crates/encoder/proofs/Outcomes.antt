-- Any two outcomes that the contract of a public function allows are identical. The contracts are those of src/, as the checker reads them.
use mathlib.Core.Path.{refl, sym, ap, ◌∙◌}
use Rattle.laws.specs.Outcomes.{Determined}
use Rattle.laws.proofs.Outcomes.{both}
use Rattle.encoder.proofs.StartError.number.Kinds as start-number-kinds
use Rattle.encoder.proofs.StartError.number.Reads as start-number
use Rattle.encoder.proofs.TakeError.number.Kinds as take-number-kinds
use Rattle.encoder.proofs.TakeError.number.Reads as take-number
use Rattle.encoder.proofs.TakeErrorFromStartError.from.Kinds as take-error-from-kinds
use Rattle.encoder.proofs.TakeErrorFromStartError.from.Reads as take-error-from
use Rattle.encoder.proofs.start.Kinds as start-kinds
use Rattle.encoder.proofs.start.Reads as start
use Rattle.encoder.proofs.take_key.Kinds as take-key-kinds
use Rattle.encoder.proofs.take_key.Reads as take-key
use Rattle.encoder.proofs.packet.Kinds as packet-kinds
use Rattle.encoder.proofs.packet.Reads as packet

pub start-number-determined : Determined _ start-number-kinds.ps start-number-kinds.r start-number.Asked start-number.Learnt
start-number-determined κs a p z z' ws ws' e e' = (e ∙ sym e', refl)

pub take-number-determined : Determined _ take-number-kinds.ps take-number-kinds.r take-number.Asked take-number.Learnt
take-number-determined κs a p z z' ws ws' e e' = (e ∙ sym e', refl)

pub start-determined : Determined _ start-kinds.ps start-kinds.r start.Asked start.Learnt
start-determined κs a p z z' ws ws' e e' =
    (ap (λ t. t.answer) (e ∙ sym e'), both refl (both (ap (λ t. t.filter) (e ∙ sym e')) (both (ap (λ t. t.cells) (e ∙ sym e')) refl)))

pub take-key-determined : Determined _ take-key-kinds.ps take-key-kinds.r take-key.Asked take-key.Learnt
take-key-determined κs a p z z' ws ws' e e' = (
  ap (λ t. t.answer) (e ∙ sym e'),
  both refl
      (both refl (both refl (both (ap (λ t. t.filter) (e ∙ sym e')) (both (ap (λ t. t.cells) (e ∙ sym e')) refl)))),
)

pub packet-determined : Determined _ packet-kinds.ps packet-kinds.r packet.Asked packet.Learnt
packet-determined κs a p z z' ws ws' e e' =
    (ap (λ t. t.answer) (e ∙ sym e'), both refl (both refl (both (ap (λ t. t.filter) (e ∙ sym e')) (both (ap (λ t. t.cells) (e ∙ sym e')) refl))))

pub take-error-from-determined : Determined _ take-error-from-kinds.ps take-error-from-kinds.r take-error-from.Asked take-error-from.Learnt
take-error-from-determined κs a p z z' ws ws' e e' = (e ∙ sym e', refl)
