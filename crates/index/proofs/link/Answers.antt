use mathlib.Core.Path.{refl}
use Rattle.index.specs.Index.{linked}
use Rattle.index.proofs.link.Goals as goal

pub returns : goal.returns
unfolding linked
returns c = refl
