-- Any two outcomes that the contract of a public function allows are identical. The contracts are those of src/, as the checker reads them.
use mathlib.Core.Path.{refl, sym, ap, ◌∙◌}
use Rattle.laws.specs.Outcomes.{Determined}
use Rattle.laws.proofs.Outcomes.{both}
use Rattle.opening.specs.Open.{Opening}
use Rattle.opening.proofs.OpenError.number.Kinds as number-kinds
use Rattle.opening.proofs.OpenError.number.Reads as number
use Rattle.opening.proofs.OpenError.block.Kinds as block-kinds
use Rattle.opening.proofs.OpenError.block.Reads as block
use Rattle.opening.proofs.OpenErrorFromReadError.from.Kinds as open-error-from-kinds
use Rattle.opening.proofs.OpenErrorFromReadError.from.Reads as open-error-from
use Rattle.opening.proofs.open_in.Kinds as open-in-kinds
use Rattle.opening.proofs.open_in.Reads as open_in

pub number-determined : Determined _ number-kinds.ps number-kinds.r number.Asked number.Learnt
number-determined κs a p z z' ws ws' e e' = (e ∙ sym e', refl)

pub block-determined : Determined _ block-kinds.ps block-kinds.r block.Asked block.Learnt
block-determined κs a p z z' ws ws' e e' = (e ∙ sym e', refl)

pub open-in-determined : Determined _ open-in-kinds.ps open-in-kinds.r open_in.Asked open_in.Learnt
open-in-determined κs a p z z' ws ws' e e' = let f = e ∙ sym e' in (
  ap (λ (x : Opening). x.answer) f,
  both refl
      (both refl (both refl
      (both (ap (λ (x : Opening). x.room.filter) f)
      (both (ap (λ (x : Opening). x.room.table.xors) f)
      (both (ap (λ (x : Opening). x.room.table.flows) f)
      (both (ap (λ (x : Opening). x.room.packets) f)
      (both (ap (λ (x : Opening). x.room.table.unknowns) f)
      (both (ap (λ (x : Opening). x.room.table.positions) f)
      (both (ap (λ (x : Opening). x.room.table.marks) f)
      (both (ap (λ (x : Opening). x.room.list.keys) f)
      (both (ap (λ (x : Opening). x.room.list.counts) f)
      (both (ap (λ (x : Opening). x.room.list.flags) f) refl)))))))))))),
)

pub open-error-from-determined : Determined _ open-error-from-kinds.ps open-error-from-kinds.r open-error-from.Asked open-error-from.Learnt
open-error-from-determined κs a p z z' ws ws' e e' = (e ∙ sym e', refl)
