-- The calls of a switch: the key of a packet, start, packet, seal. Each is the call below with its answer as 01's number.
use Rattle.std.specs.Prelude.{Option, None, Some, List, ℕ}
use Rattle.layout.specs.declared.Sizes.{Sizes}
use Rattle.layout.specs.Sizes.{ipv4_layout}
use Rattle.packet.specs.declared.Key.{Key}
use Rattle.packet.specs.Packet.{key_of, number}
use Rattle.packet.specs.Key.{key_bytes}
use Rattle.encoder.specs.Encoder.{start_of, start_number, packet_of, take_number}
use Rattle.sealing.specs.Seal.{seal_of, seal_number}

-- ---- the key of a packet: 01's number, and what then stands in the 13 bytes
pub record Keying : Type 0 where
  pub number : ℕ
  pub key : List ℕ

abbrev pub keying : ℕ → List ℕ → Keying
keying number key = record { number = number; key = key }

-- 01 'Keys and hashing': "It yields either a key or refusal 6"
abbrev pub key_leaves : Option Key → List ℕ → Keying
key_leaves (Some flow) key = keying (number (Some flow)) (key_bytes flow)
key_leaves None key = keying (number None) key

unfoldable pub key_call : List ℕ → List ℕ → Keying
key_call packet key = key_leaves (key_of packet) key

-- ---- start and packet: 01's number, and working memory afterwards
pub record Working : Type 0 where
  pub number : ℕ
  pub filter : List ℕ
  pub cells : List ℕ

abbrev pub working : ℕ → List ℕ → List ℕ → Working
working number filter cells = record { number = number; filter = filter; cells = cells }

unfoldable pub start_call : Sizes → List ℕ → List ℕ → Working
start_call z filter cells = let x = start_of ipv4_layout z filter cells in working (start_number x.answer) x.filter x.cells

unfoldable pub packet_call : Sizes → ℕ → List ℕ → List ℕ → List ℕ → Working
packet_call z salt packet filter cells =
    let x = packet_of z salt packet filter cells in working (take_number x.answer) x.filter x.cells

-- ---- seal: 01's number, and the image afterwards
pub record Sealing : Type 0 where
  pub number : ℕ
  pub image : List ℕ

abbrev pub sealing : ℕ → List ℕ → Sealing
sealing number image = record { number = number; image = image }

unfoldable pub seal_call : Sizes → ℕ → ℕ → List ℕ → List ℕ → List ℕ → Sealing
seal_call z salt slot filter cells image =
    let x = seal_of ipv4_layout z salt slot filter cells image in sealing (seal_number x.answer) x.image
