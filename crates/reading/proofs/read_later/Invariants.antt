-- `reading::read_later` meets its contract: the loop holds that what is left to read answers for all.
use mathlib.Core.Path.{◌≡◌}
use Prim.Native.Nat.{◌+◌, ◌≤◌, ◌-◌}
use Rattle.layout.specs.Sizes.{blocks}
use Rattle.reading.specs.Read.{read_later}
use Rattle.reading.proofs.read_later.Given as goal

abbrev pub invariant-loop-n : goal.invariant-loop-n
invariant-loop-n l =
    let z = l.shape.sizes in
    record {
      counted : l.count ≡ blocks z;
      left :
          read_later l.shape.layout z l.salt l.slot l.image l.n (l.count - l.n) ≡ read_later l.shape.layout z l.salt l.slot l.image 1 (blocks z - 1);
      right_so_far : l.n ≤ l.right + 1;
    }
