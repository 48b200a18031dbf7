-- The part that was lent holds the bytes.
use mathlib.Core.Path.{refl}
use Prim.Native.Nat.{◌+◌, ◌-◌}
use native.Mathlib.Omega.{arith}
use Rattle.laws.proofs.Lists.{lent-sets}
use lib.ListN.{length}
use Rattle.lines.proofs.Page.bytes.Goals as goal

pub returns : goal.returns
returns c =
    let p = c.args.self.now in
    let k = p.at + length c.args.bytes.now - p.at in
    record {
      lent = refl;
      there = refl;
      put = record {
        place = refl;
        inside = c.requires.room;
        bytes = rw c.copy_from_slice.ensures.after (lent-sets c.args.bytes.now p.out.now p.at k (omega arith) (omega arith));
      };
    }
