-- Any two outcomes that the contract of a public function allows are identical. The contracts are those of src/, as the checker reads them.
use mathlib.Core.Path.{refl, sym, ◌∙◌}
use Rattle.laws.specs.Outcomes.{Determined}
use Rattle.packet.proofs.key_of.Kinds as key-of-kinds
use Rattle.packet.proofs.key_of.Reads as key_of
use Rattle.packet.proofs.ArrayU813FromKey.from.Kinds as key-bytes-kinds
use Rattle.packet.proofs.ArrayU813FromKey.from.Reads as key-bytes
use Rattle.packet.proofs.KeyFromRefArrayU813.from.Kinds as key-from-kinds
use Rattle.packet.proofs.KeyFromRefArrayU813.from.Reads as key-from

pub key-of-determined : Determined _ key-of-kinds.ps key-of-kinds.r key_of.Asked key_of.Learnt
key-of-determined κs a p z z' ws ws' e e' = (e ∙ sym e', refl)

pub key-bytes-determined : Determined _ key-bytes-kinds.ps key-bytes-kinds.r key-bytes.Asked key-bytes.Learnt
key-bytes-determined κs a p z z' ws ws' e e' = (e ∙ sym e', refl)

pub key-from-determined : Determined _ key-from-kinds.ps key-from-kinds.r key-from.Asked key-from.Learnt
key-from-determined κs a p z z' ws ws' e e' = (e ∙ sym e', refl)
