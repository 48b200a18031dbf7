-- The key's part was lent, and came back with the key's bytes.
use Prim.Native.Nat.{◌+◌, ◌*◌, ◌-◌}
use native.Mathlib.Omega.{arith}
use Rattle.list.specs.Found.{list_of}
use Rattle.records.proofs.Laws.{stores}
use Rattle.records.proofs.store.Goals as goal

pub returns-clause-value : goal.returns-clause-value
returns-clause-value c =
    let a = c.args in
    stores a.i a.r (list_of a.found.now) {k = a.i * 13 + 13 - a.i * 13} c.requires.0 (omega arith)
    c.from-bytes.ensures c.copy_from_slice.ensures.after c.flag_byte.ensures
