-- A key as bytes, and bytes as a key.
use Rattle.std.specs.Prelude.{List, ◌++◌, ℕ, ◌<◌, ◌^◌}
use Rattle.laws.specs.BigEndian.{bytes_of}
use Rattle.fields.specs.Field.{field}
use Rattle.packet.specs.declared.Key.{Key}

-- a key whose five numbers fit the widths that the struct's types give them
pub record InRange (k : Key) : Type 0 where
  pub source : k.source < 2 ^ 32
  pub destination : k.destination < 2 ^ 32
  pub source_port : k.sport < 2 ^ 16
  pub destination_port : k.dport < 2 ^ 16
  pub protocol : k.protocol < 2 ^ 8

-- 01 'Keys and hashing': "13 bytes in network order: source address 4, destination 4, source port 2, destination port 2, protocol 1"
unfoldable pub key_bytes : Key → List ℕ
key_bytes key =
    bytes_of 4 key.source
    ++ (bytes_of 4 key.destination ++ (bytes_of 2 key.sport ++ (bytes_of 2 key.dport ++ bytes_of 1 key.protocol)))

-- the key that 13 bytes are
unfoldable pub key_from : List ℕ → Key
key_from s =
    record {
      source = field 4 s 0;
      destination = field 4 s 4;
      sport = field 2 s 8;
      dport = field 2 s 10;
      protocol = field 1 s 12;
    }
