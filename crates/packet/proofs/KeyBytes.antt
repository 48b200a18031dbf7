-- A key and its 13 bytes: each way undoes the other.
use mathlib.Core.Path.{◌≡◌, refl}
use mathlib.Core.List.{List}
use Prim.Native.Nat.{ℕ}
use native.Mathlib.Omega.{arith}
use lib.ListN.{length}
use Rattle.laws.specs.BigEndian.{bytes_of, Bytes}
use Rattle.laws.proofs.BigEndian.{bytes-are-bytes, bytes-append, number-bytes, part_bytes, part_join, part_end, part-lt}
use Rattle.fields.specs.Field.{field}
use Rattle.packet.specs.declared.Key.{Key}
use Rattle.packet.specs.Key.{InRange, key_bytes, key_from}

pub length-key : (k : Key) → length (key_bytes k) ≡ 13
unfolding key_bytes bytes_of
length-key k = refl

pub key-are-bytes : (k : Key) → Bytes (key_bytes k)
unfolding key_bytes
key-are-bytes k =
    bytes-append (bytes_of 4 k.source) _ (bytes-are-bytes 4 k.source)
    (bytes-append (bytes_of 4 k.destination) _ (bytes-are-bytes 4 k.destination)
    (bytes-append (bytes_of 2 k.sport) _ (bytes-are-bytes 2 k.sport)
    (bytes-append (bytes_of 2 k.dport) _ (bytes-are-bytes 2 k.dport) (bytes-are-bytes 1 k.protocol))))

pub from_bytes : (k : Key) → InRange k → key_from (key_bytes k) ≡ k
unfolding key_from key_bytes bytes_of field
from_bytes k h =
    rw (
      number-bytes 4 k.source h.source,
      number-bytes 4 k.destination h.destination,
      number-bytes 2 k.sport h.source_port,
      number-bytes 2 k.dport h.destination_port,
      number-bytes 1 k.protocol h.protocol,
    )

pub bytes-from : (s : List ℕ) → length s ≡ 13 → Bytes s → key_bytes (key_from s) ≡ s
unfolding key_bytes key_from field
bytes-from s n h =
    rw (
      part_bytes 4 0 s h (omega arith),
      part_bytes 4 4 s h (omega arith),
      part_bytes 2 8 s h (omega arith),
      part_bytes 2 10 s h (omega arith),
      part_bytes 1 12 s h (omega arith),
      part_end 1 12 s (omega arith),
      part_join 2 10 s,
      part_join 2 8 s,
      part_join 4 4 s,
      part_join 4 0 s,
    )

-- what is taken for a key is in range
pub from-in-range : (s : List ℕ) → Bytes s → InRange (key_from s)
unfolding key_from field
from-in-range s h =
    record {
      source = part-lt 4 0 s h;
      destination = part-lt 4 4 s h;
      source_port = part-lt 2 8 s h;
      destination_port = part-lt 2 10 s h;
      protocol = part-lt 1 12 s h;
    }
