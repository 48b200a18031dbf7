-- What is opened has sizes in their ranges.
use Rattle.elderflute.proofs.Answers.{open-sized, open-call}
use Rattle.elderflute.proofs.elderflute_open.Goals as goal

pub put_opened-requires : goal.put_opened-requires
put_opened-requires c = open-sized c.args.image.now c.args.slot _ c.open-a.result c.open-a.ensures

pub returns : goal.returns
returns c = open-call c.args.image.now c.args.slot c.args.numbers.now c.args.listed.now _ c.open-a.ensures c.put_opened.ensures
