-- `telling::next_number` meets its contract: a remainder taken before adding, too, changes nothing.
use Rattle.std.proofs.Common.{arith}
use Rattle.telling.specs.Generator.{next_number}
use Rattle.telling.proofs.next_number.Goals as goal

pub returns : goal.returns
unfolding next_number
returns c = omega arith
