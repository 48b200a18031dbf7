use mathlib.Core.Path.{refl}
use Rattle.list.specs.Records.{known_at}
use Rattle.list.proofs.set_count.Goals as goal

pub returns : goal.returns
unfolding known_at
returns c = (refl, refl)
