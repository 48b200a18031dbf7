-- 01 'Both sides of each edge': "A 20-byte packet of protocol 1 is a key, 19 bytes is 6. TCP with 20 header bytes: 24 bytes good, 23 is 6."
use mathlib.Core.Path.{◌≡◌, refl}
use mathlib.Core.List.{List, ◌∷◌, ◌++◌}
use Prim.Native.Nat.{ℕ, ◌-◌}
use lib.ListN.{replicate}
use Rattle.laws.specs.BigEndian.{number_of}
use Rattle.fields.specs.Field.{field}
use Rattle.packet.specs.Packet.{version, header_words, header_bytes, protocol, fragment_offset, has_ports, refused, key_of, number, port, key_in}
use Rattle.std.specs.Prelude.{Some}

-- n bytes of version 4, with a header of 5 words, of the given protocol, else zero
abbrev packet : ℕ → ℕ → List ℕ
packet n proto = 69 ∷ (replicate 8 0 ++ (proto ∷ replicate (n - 10) 0))

pub edges :
    (number (key_of (packet 20 1)) ≡ 0)
    × (number (key_of (packet 19 1)) ≡ 6)
    × (number (key_of (packet 24 6)) ≡ 0)
    × (number (key_of (packet 23 6)) ≡ 6)
unfolding version header_words header_bytes protocol fragment_offset has_ports refused key_of number_of field
edges = (refl, refl, refl, refl)

-- 01 'Keys and hashing': "All zeros is an ordinary key"
pub all-zeros : key_of (packet 20 0) ≡ Some (record { source = 0; destination = 0; sport = 0; dport = 0; protocol = 0 })
unfolding version header_words header_bytes protocol fragment_offset has_ports refused port key_in key_of number_of field
all-zeros = refl
