-- One law of the key for both answers.
use mathlib.Core.Path.{ap, ◌∙◌}
use Rattle.elderflute.specs.Flowset.{keying}
use Rattle.elderflute.proofs.Answers.{key-is}
use Rattle.elderflute.proofs.elderflute_key.Goals as goal

pub returns-in_default : goal.returns-in_default
returns-in_default c = key-is c.args.packet.now c.args.key.now c.key_of.ensures c.in_default.is

pub returns : goal.returns
returns c = ap (keying 0) c.into.ensures ∙ key-is c.args.packet.now c.args.key.now c.key_of.ensures c.in-Some.is
