-- A number's last digit comes after what stands before it, which has fewer digits.
use Rattle.lines.proofs.Page.+decimal.Given as goal

abbrev pub decreases-decimal : goal.decreases-decimal
decreases-decimal l = l.n
