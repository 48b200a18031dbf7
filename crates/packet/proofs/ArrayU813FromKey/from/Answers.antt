-- The bytes of a key meet their contract: those of each number, one run after the other.
use native.Mathlib.Nat.{div-one, mod-eq_of_lt}
use Rattle.std.proofs.Common.{rules, ◌<◌}
use Rattle.laws.specs.BigEndian.{bytes_of}
use Rattle.packet.specs.Key.{key_bytes}
use Rattle.packet.proofs.ArrayU813FromKey.from.Goals as goal

pub returns : goal.returns
unfolding key_bytes bytes_of
returns c =
    let h : c.args.key.protocol < 256 = search rules in
    rw (
      c.copy_from_slice.ensures.after,
      c.copy_from_slice-2.ensures.after,
      c.copy_from_slice-3.ensures.after,
      c.copy_from_slice-4.ensures.after,
      c.to_be_bytes.ensures,
      c.to_be_bytes-2.ensures,
      c.to_be_bytes-3.ensures,
      c.to_be_bytes-4.ensures,
    )
    (simp (div-one, mod-eq_of_lt h))
