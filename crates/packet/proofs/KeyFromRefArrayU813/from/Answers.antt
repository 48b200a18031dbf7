-- A key from its bytes meets its contract.
use Rattle.packet.specs.Key.{key_from}
use native.Mathlib.Omega.{arith}
use Rattle.fields.proofs.Fields.{byte-is}
use Rattle.packet.proofs.KeyFromRefArrayU813.from.Goals as goal

pub returns : goal.returns
unfolding key_from
returns c = cc (byte-is c.args.bytes.now 12 (omega arith))
