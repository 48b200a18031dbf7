use mathlib.Core.Path.{ap}
use Prim.Native.Nat.{◌+◌, ◌*◌, ◌-◌}
use native.Mathlib.Omega.{arith}
use lib.ListN.{set}
use Rattle.list.specs.Records.{records, appended}
use Rattle.list.proofs.Laws.{key-put}
use Rattle.list.proofs.Found.append.Goals as goal

pub returns-clause-value : goal.returns-clause-value
unfolding appended
returns-clause-value c =
    let a = c.args in
    ap (λ ks. records ks (set a.self.now.counts.now a.n 0) (set a.self.now.flags.now a.n a.flag))
    (key-put a.l a.self.now.keys.now a.n a.key.now {k = a.n * a.l.key + a.l.key - a.n * a.l.key} c.requires.0 c.requires.1
    (omega arith) c.copy_in.ensures)
