-- Any two outcomes that the contract of a public function allows are identical. The contracts are those of src/, as the checker reads them.
use mathlib.Core.Path.{refl, sym, ◌∙◌}
use Rattle.laws.specs.Outcomes.{Determined}
use Rattle.laws.proofs.Outcomes.{both}
use Rattle.fields.proofs.short_at.Kinds as short-at-kinds
use Rattle.fields.proofs.short_at.Reads as short-at
use Rattle.fields.proofs.long_at.Kinds as long-at-kinds
use Rattle.fields.proofs.long_at.Reads as long-at
use Rattle.fields.proofs.put_short.Kinds as put-short-kinds
use Rattle.fields.proofs.put_short.Reads as put-short
use Rattle.fields.proofs.put_long.Kinds as put-long-kinds
use Rattle.fields.proofs.put_long.Reads as put-long
use Rattle.fields.proofs.xor_in.Kinds as xor-in-kinds
use Rattle.fields.proofs.xor_in.Reads as xor-in
use Rattle.fields.proofs.xor_at.Kinds as xor-at-kinds
use Rattle.fields.proofs.xor_at.Reads as xor-at
use Rattle.fields.proofs.copy_in.Kinds as copy-in-kinds
use Rattle.fields.proofs.copy_in.Reads as copy-in
use Rattle.fields.proofs.is_zero.Kinds as is-zero-kinds
use Rattle.fields.proofs.is_zero.Reads as is_zero

pub short-at-determined : Determined _ short-at-kinds.ps short-at-kinds.r short-at.Asked short-at.Learnt
short-at-determined κs a p z z' ws ws' e e' = (e ∙ sym e', refl)

pub long-at-determined : Determined _ long-at-kinds.ps long-at-kinds.r long-at.Asked long-at.Learnt
long-at-determined κs a p z z' ws ws' e e' = (e ∙ sym e', refl)

pub put-short-determined : Determined _ put-short-kinds.ps put-short-kinds.r put-short.Asked put-short.Learnt
put-short-determined κs a p z z' ws ws' e e' = (refl, both (e ∙ sym e') refl)

pub put-long-determined : Determined _ put-long-kinds.ps put-long-kinds.r put-long.Asked put-long.Learnt
put-long-determined κs a p z z' ws ws' e e' = (refl, both (e ∙ sym e') refl)

pub xor-in-determined : Determined _ xor-in-kinds.ps xor-in-kinds.r xor-in.Asked xor-in.Learnt
xor-in-determined κs a p z z' ws ws' e e' = (refl, both (e ∙ sym e') refl)

pub xor-at-determined : Determined _ xor-at-kinds.ps xor-at-kinds.r xor-at.Asked xor-at.Learnt
xor-at-determined κs a p z z' ws ws' e e' = (refl, both (e ∙ sym e') refl)

pub copy-in-determined : Determined _ copy-in-kinds.ps copy-in-kinds.r copy-in.Asked copy-in.Learnt
copy-in-determined κs a p z z' ws ws' e e' = (refl, both (e ∙ sym e') refl)

pub is-zero-determined : Determined _ is-zero-kinds.ps is-zero-kinds.r is_zero.Asked is_zero.Learnt
is-zero-determined κs a p z z' ws ws' e e' = (e ∙ sym e', refl)
