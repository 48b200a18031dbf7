-- `fields::put_long` meets its contract.
use native.Mathlib.Omega.{arith}
use Rattle.fields.proofs.Fields.{long-put}
use Rattle.fields.proofs.put_long.Goals as goal

pub returns : goal.returns
returns c =
    long-put c.args.s.now c.args.at c.args.x c.requires (omega arith) c.to_be_bytes.ensures
    c.copy_from_slice.ensures.after
