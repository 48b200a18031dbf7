-- What is read has sizes in their ranges.
use mathlib.Core.Path.{ap, ◌∙◌}
use Rattle.elderflute.specs.Images.{read_leaves, read_call}
use Rattle.elderflute.proofs.Answers.{read-sized}
use Rattle.elderflute.proofs.elderflute_read.Goals as goal

pub put_reading-requires : goal.put_reading-requires
put_reading-requires c = read-sized c.args.image.now c.args.slot c.read.result c.read.ensures

pub returns : goal.returns
unfolding read_call
returns c = c.put_reading.ensures ∙ ap (λ x. read_leaves x c.args.slot c.args.numbers.now) c.read.ensures
