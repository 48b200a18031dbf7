-- One law for each way that it goes.
use Rattle.elderflute.proofs.Answers.{print-room, print-done}
use Rattle.elderflute.proofs.elderflute_print.Goals as goal

pub returns-then-lines-ne-MOST : goal.returns-then-lines-ne-MOST
returns-then-lines-ne-MOST c = print-room c.args.input.now c.args.lines.now c.args.written.now c.if-lines-ne-MOST.true

pub returns : goal.returns
returns c =
    let a = c.args in print-done a.input.now a.lines.now a.written.now c.if-lines-ne-MOST.false c.print.ensures.0 c.print.ensures.1
