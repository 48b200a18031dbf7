-- `hash::Fnv::word` meets its contract.
use mathlib.Core.Path.{ap, ◌∙◌}
use Rattle.laws.proofs.BigEndian.{be-four}
use Rattle.hash.specs.Fnv.{absorb}
use Rattle.hash.proofs.Fnv.word.Goals as goal

pub returns : goal.returns
returns c = c.bytes.ensures ∙ ap (absorb c.args.self.state) (c.to_be_bytes.ensures ∙ be-four c.args.x)
