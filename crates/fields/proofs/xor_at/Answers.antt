-- `fields::xor_at` meets its contract.
use native.Mathlib.Omega.{arith}
use Rattle.fields.proofs.Runs.{part-xored}
use Rattle.fields.proofs.xor_at.Goals as goal

pub returns : goal.returns
returns c = part-xored c.args.s.now c.args.bytes.now c.args.at c.requires (omega arith) c.xor_in.ensures
