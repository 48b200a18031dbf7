-- The digits before the last, and the last.
use native.Mathlib.Omega.{arith}
use Rattle.lines.proofs.Decimal.{decimal-digit, decimal-more}
use Rattle.lines.proofs.Lines.{holds-first, holds-next, adds-then}
use Rattle.lines.proofs.Page.+decimal.Goals as goal
use Rattle.lines.proofs.Page.+decimal.Goals.{then-n-ge10, else-n-ge10}

pub decimal-requires : goal.decimal-requires
decimal-requires t c = (
  omega arith,
  holds-first _ _ (rw (decimal-more c.args.n c.if-n-ge10.true (omega arith)) at c.requires),
)

pub byte-requires : goal.byte-requires
byte-requires t c = elim c.if-n-ge10.branch [
  | then-n-ge10 w ↦
      rw w.self-is (holds-next _ _ w.decimal.ensures (rw (decimal-more c.args.n w.if-n-ge10.true (omega arith)) at c.requires))
  | else-n-ge10 w ↦ rw w.self-is (rw (decimal-digit c.args.n (omega arith)) at c.requires)
]

pub returns : goal.returns
returns t c = elim c.if-n-ge10.branch [
  | then-n-ge10 w ↦
      rw (decimal-more c.args.n w.if-n-ge10.true (omega arith)) (adds-then w.decimal.ensures (rw w.self-is at c.byte.ensures))
  | else-n-ge10 w ↦ rw (decimal-digit c.args.n (omega arith)) (rw w.self-is at c.byte.ensures)
]
