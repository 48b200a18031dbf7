-- `fields::long_at` meets its contract.
use mathlib.Core.Path.{◌∙◌}
use Rattle.fields.proofs.Fields.{long-bytes}
use Rattle.fields.proofs.long_at.Goals as goal

pub returns : goal.returns
returns c = c.from_be_bytes.ensures ∙ long-bytes c.args.s.now c.args.at c.requires
