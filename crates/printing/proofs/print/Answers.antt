-- Too short an input is refused, and any other is slot and image.
use Rattle.printing.proofs.Input.{input-short, input-image, whole}
use Rattle.printing.proofs.print.Goals as goal

pub returns-then-input-lt4 : goal.returns-then-input-lt4
returns-then-input-lt4 c = whole (input-short c.args.input.now c.if-input-lt4.true) c.refuse.ensures

pub returns : goal.returns
returns c = whole (input-image c.args.input.now c.if-input-lt4.false c.long_at.ensures) c.print_image.ensures
