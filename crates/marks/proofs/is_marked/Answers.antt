use mathlib.Core.Path.{refl}
use Rattle.laws.specs.Digit.{digit}
use Rattle.marks.specs.Marks.{marked}
use Rattle.marks.proofs.is_marked.Goals as goal

pub returns : goal.returns
unfolding marked digit
returns c = refl
