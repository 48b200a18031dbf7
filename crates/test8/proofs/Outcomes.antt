-- Any two outcomes that the contract of a public function allows are identical. The contracts are those of src/, as the checker reads them.
use Rattle.std.proofs.Common.{sym, refl, ◌∙◌}
use Rattle.laws.specs.Outcomes.{Determined}
use Rattle.laws.proofs.Outcomes.{both}
use Rattle.test8.proofs.flagged_in.Kinds as flagged-in-kinds
use Rattle.test8.proofs.flagged_in.Reads as flagged-in
use Rattle.test8.proofs.open_in.Kinds as open-in-kinds
use Rattle.test8.proofs.open_in.Reads as open_in
use Rattle.test8.proofs.is_session_seen.Kinds as is-session-seen-kinds
use Rattle.test8.proofs.is_session_seen.Reads as is-session-seen

pub flagged-in-determined : Determined _ flagged-in-kinds.ps flagged-in-kinds.r flagged-in.Asked flagged-in.Learnt
flagged-in-determined κs a p z z' ws ws' e e' = (e.0 ∙ sym e'.0, refl)

pub open-in-determined : Determined _ open-in-kinds.ps open-in-kinds.r open_in.Asked open_in.Learnt
open-in-determined κs a p z z' ws ws' e e' = (e.0 ∙ sym e'.0, refl)

pub is-session-seen-determined : Determined _ is-session-seen-kinds.ps is-session-seen-kinds.r is-session-seen.Asked is-session-seen.Learnt
is-session-seen-determined κs a p z z' ws ws' e e' = (e.0 ∙ sym e'.0, both refl (both refl (both refl (both refl (both (e.1 ∙ sym e'.1) refl)))))
