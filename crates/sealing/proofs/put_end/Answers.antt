-- `sealing::put_end` meets its contract: the check is worked out after the zeros are written.
use mathlib.Core.Path.{◌∙◌}
use Rattle.sealing.proofs.Stores.{end-put}
use Rattle.sealing.proofs.put_end.Goals as goal

pub returns : goal.returns
returns c =
    c.put_long.ensures
    ∙ end-put c.args.b.now c.requires (c.fill.ensures.after (λ y e. e)) c.check_of-check.ensures
