-- `fields::short_at` meets its contract.
use mathlib.Core.Path.{◌∙◌}
use Rattle.fields.proofs.Fields.{short-bytes}
use Rattle.fields.proofs.short_at.Goals as goal

pub returns : goal.returns
returns c = c.from_be_bytes.ensures ∙ short-bytes c.args.s.now c.args.at c.requires
