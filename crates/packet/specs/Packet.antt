-- From a packet's bytes to its key or to refusal 6. 01 'Keys and hashing': "A packet starts at its IPv4 header (RFC 791)".
use Rattle.std.specs.Prelude.{Bool, Option, None, Some, cond, not, ◌&&◌, ◌||◌, List, ℕ, ◌+◌, ◌-◌, ◌*◌, ◌/◌, ◌%◌, ◌^◌, eqb, ltb, length, get_or}
use Rattle.fields.specs.Field.{field}
use Rattle.packet.specs.declared.Key.{Key}

-- RFC 791, version: the high 4 bits of byte 0
unfoldable pub version : List ℕ → ℕ
version packet = get_or packet 0 0 / 16

-- RFC 791, header length in words of 4 bytes: the low 4 bits of byte 0
unfoldable pub header_words : List ℕ → ℕ
header_words packet = get_or packet 0 0 % 16

-- the same in bytes
unfoldable pub header_bytes : List ℕ → ℕ
header_bytes packet = 4 * header_words packet

-- RFC 791, protocol: byte 9
unfoldable pub protocol : List ℕ → ℕ
protocol packet = get_or packet 9 0

-- RFC 791, fragment offset: the low 13 bits of bytes 6 and 7
unfoldable pub fragment_offset : List ℕ → ℕ
fragment_offset packet = field 2 packet 6 % 2 ^ 13

-- 01 'Keys and hashing': "for protocols 6 and 17 at fragment offset 0"
unfoldable pub has_ports : List ℕ → Bool
has_ports packet = (eqb (protocol packet) 6 || eqb (protocol packet) 17) && eqb (fragment_offset packet) 0

-- 01 'Keys and hashing': "Refusal 6 means: under 20 bytes, version not 4, header length under 5 words, .."
unfoldable pub refused : List ℕ → Bool
refused packet =
    ltb (length packet) 20
    || (not (eqb (version packet) 4)
    || (ltb (header_words packet) 5
    || (ltb (length packet) (header_bytes packet)
    || (has_ports packet && ltb (length packet - header_bytes packet) 4))))

-- 01 'Keys and hashing': "Ports are the first 4 bytes after the header .., else both are 0"; place 0 the source's, 2 the destination's
unfoldable pub port : List ℕ → ℕ → ℕ
port packet i = cond (has_ports packet) (field 2 packet (header_bytes packet + i)) 0

-- the key of a packet that is not refused
unfoldable pub key_in : List ℕ → Key
key_in packet =
    record {
      source = field 4 packet 12;
      destination = field 4 packet 16;
      sport = port packet 0;
      dport = port packet 2;
      protocol = protocol packet;
    }

-- 01 'Keys and hashing': "It yields either a key or refusal 6"
unfoldable pub key_of : List ℕ → Option Key
key_of packet = cond (refused packet) None (Some (key_in packet))

-- 01 'A session', the table of numbers: 0 done, 6 packet
abbrev pub number : Option Key → ℕ
number (Some key) = 0
number None = 6
