-- A refusal's line is short.
use native.Mathlib.Omega.{arith}
use Rattle.lines.proofs.Lines.{blank-holds, refused-le}
use Rattle.printing.proofs.refuse.Goals as goal

pub refused-requires : goal.refused-requires
refused-requires c = blank-holds _ c.new-page.ensures (let h = refused-le c.args.number (omega arith) in omega arith)
