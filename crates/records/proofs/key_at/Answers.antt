-- The bytes are those of the record.
use mathlib.Core.Path.{ap, ◌∙◌}
use Prim.Native.Nat.{◌+◌, ◌*◌, ◌-◌}
use native.Mathlib.Omega.{arith}
use Rattle.layout.specs.Sizes.{ipv4_layout}
use Rattle.packet.specs.Key.{key_from}
use Rattle.list.proofs.Laws.{key-part}
use Rattle.records.proofs.key_at.Goals as goal

pub returns : goal.returns
returns c =
    let a = c.args in
    c.from.ensures ∙ ap key_from
    (c.copy_from_slice.ensures.after ∙ key-part ipv4_layout a.keys.now a.i {k = a.i * 13 + 13 - a.i * 13} (omega arith))
