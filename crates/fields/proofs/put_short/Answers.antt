-- `fields::put_short` meets its contract.
use native.Mathlib.Omega.{arith}
use Rattle.fields.proofs.Fields.{short-put}
use Rattle.fields.proofs.put_short.Goals as goal

pub returns : goal.returns
returns c =
    short-put c.args.s.now c.args.at c.args.x c.requires (omega arith) c.to_be_bytes.ensures
    c.copy_from_slice.ensures.after
