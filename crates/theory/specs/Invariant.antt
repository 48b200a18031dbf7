-- What a session of a flowset's table always is: each cell holds what is left of the flowset.
use Rattle.std.specs.Prelude.{◌≡◌, true, List, [], ◌∷◌, ℕ, ◌<◌, replicate}
use Rattle.laws.specs.Xor.{xor_bytes}
use Rattle.laws.specs.Upto.{any_upto}
use Rattle.theory.specs.Encode.{Key, among, Distinct, sum_over, total, count, Placement, encode, FlowSet, outside}
use Rattle.theory.specs.HandOver.{Switch}
use Rattle.theory.specs.Session.{Record, Session, opened, keys_of, listed, counted}

-- 01 'Keys and hashing': "a flow's k cells always differ. There are N = k × s cells": each key has a cell, and each of its cells is below n
pub record Placed (n : ℕ) (has : Placement) : Type 0 where
  pub within : (k : Key) (c : ℕ) → has k c ≡ true → c < n
  pub somewhere : (k : Key) → any_upto n (has k) ≡ true

-- each known count is the flow's
unfoldable pub CountsRight : (Key → ℕ) → List Record → Type 0
CountsRight packets [] = Unit {0}
CountsRight packets (r ∷ rs) = (r.known ≡ true → r.count ≡ packets r.key) × CountsRight packets rs

-- the listed flows are flows of F, the known counts are F's, and each cell holds
-- the flows of F placed there that are not listed, and the packets of those that are not counted
pub record Invariant (key_length : ℕ) (has : Placement) (F : List Key) (packets : Key → ℕ) (s : Session) : Type 0 where
  pub apart : Distinct (keys_of s.list)
  pub inside : (k : Key) → listed s k ≡ true → among k F ≡ true
  pub right : CountsRight packets s.list
  pub xors : (c : ℕ) → (s.cells c).flow_xor ≡ sum_over xor_bytes (replicate key_length 0) (outside has (listed s) c) (λ k. k) F
  pub flows : (c : ℕ) → (s.cells c).flow_count ≡ count (outside has (listed s) c) F
  pub left : (c : ℕ) → (s.cells c).packet_count ≡ total (outside has (counted s) c) packets F

-- the flows that a switch counted, each with its packets: a flowset
pub record Counted (w : Switch) : Type 0 where
  pub placed : Placed w.size w.has
  pub key_length : ℕ
  pub flows : List Key
  pub packets : Key → ℕ
  pub flowset : FlowSet key_length flows packets

-- the session just opened on the cells that encode exactly those flows
abbrev pub received : (w : Switch) → Counted w → Session
received w e = opened (encode e.key_length w.has e.flows e.packets)

-- the invariant of a session of that switch
abbrev pub Holds : (w : Switch) → Counted w → Session → Type 0
Holds w e = Invariant e.key_length w.has e.flows e.packets
