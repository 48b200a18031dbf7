-- Any two outcomes that the contract of a public function allows are identical. The contracts are those of src/, as the checker reads them.
use mathlib.Core.Path.{refl, sym, ◌∙◌}
use Rattle.laws.specs.Outcomes.{Determined}
use Rattle.room.proofs.Room.new.Kinds as new-kinds
use Rattle.room.proofs.Room.new.Reads as new
use Rattle.room.proofs.fits.Kinds as fits-kinds
use Rattle.room.proofs.fits.Reads as fits

pub new-determined : Determined _ new-kinds.ps new-kinds.r new.Asked new.Learnt
new-determined κs a p z z' ws ws' e e' = (e ∙ sym e', refl)

pub fits-determined : Determined _ fits-kinds.ps fits-kinds.r fits.Asked fits.Learnt
fits-determined κs a p z z' ws ws' e e' = (e ∙ sym e', refl)
