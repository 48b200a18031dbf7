-- `sealing::put_payload` meets its contract: copied, then cleared up to 480.
use Rattle.sealing.proofs.Stores.{payload-put}
use Rattle.sealing.proofs.put_payload.Goals as goal

pub returns : goal.returns
returns c =
    payload-put c.args.bytes.now c.args.rest.now c.requires.0 c.requires.1 c.copy_in.ensures
    (c.fill.ensures.after (λ y e. e))
