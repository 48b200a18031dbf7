-- Packets one after the other, each after its length in 2 bytes, high byte first, and that after a head of so many bytes.
use Rattle.std.specs.Prelude.{List, ℕ, ◌≡◌, ◌+◌, ◌<◌, ◌≤◌, length, take, drop}
use Rattle.std.specs.Int.{w16, from_be_bytes}
use Rattle.std.specs.List.{IsSplitAt}

-- the length that stands after a head of n bytes
abbrev pub packet_length : ℕ → List ℕ → ℕ
packet_length n bytes = from_be_bytes w16 (take 2 (drop n bytes))

-- the bytes do not begin with a whole packet
abbrev pub IsCutShort : ℕ → List ℕ → Type 0
IsCutShort n bytes = length bytes < n + 2 + packet_length n bytes

-- they begin with a head and a whole packet, and the rest follows
abbrev pub BeginsWith : ℕ → List ℕ → List ℕ → List ℕ → List ℕ → Type 0
BeginsWith n bytes head packet rest = (n + 2 ≤ length bytes) × (head ≡ take n bytes) × IsSplitAt (drop 2 (drop n bytes)) (packet_length n bytes) packet rest
