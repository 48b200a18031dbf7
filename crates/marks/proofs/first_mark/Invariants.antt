use mathlib.Core.Path.{◌≡◌}
use Prim.Native.Nat.{◌+◌, ◌*◌}
use lib.ListN.{drop}
use Rattle.marks.specs.Marks.{first_mark}
use Rattle.marks.proofs.first_mark.Given as goal

abbrev pub invariant-loop-i : goal.invariant-loop-i
invariant-loop-i l = first_mark l.words ≡ l.i * 64 + first_mark (drop l.i l.words)
