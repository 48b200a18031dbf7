-- Keys, cells, packets taken, and the cells that a flowset has: the encoder over any placement.
use Rattle.std.specs.Prelude.{◌≡◌, Bool, true, false, not, cond, ◌&&◌, ◌||◌, List, [], ◌∷◌, ◌++◌, ℕ, ◌+◌, ◌≤◌, eqb, length, replicate}
use Rattle.laws.specs.Xor.{xor_bytes}

-- ---- keys, lists of keys, and the sum over the keys of a list that pass a test
-- 01 'Keys and hashing': "A key is 13 bytes in network order"; here of any length
abbrev pub Key : Type 0
Key = List ℕ

unfoldable pub same_key : Key → Key → Bool
same_key [] [] = true
same_key [] (y ∷ ys) = false
same_key (x ∷ xs) [] = false
same_key (x ∷ xs) (y ∷ ys) = eqb x y && same_key xs ys

-- whether the key stands in the list
unfoldable pub among : Key → List Key → Bool
among k [] = false
among k (x ∷ l) = same_key k x || among k l

-- no key stands in the list twice
unfoldable pub Distinct : List Key → Type 0
Distinct [] = Unit {0}
Distinct (x ∷ l) = (among x l ≡ false) × Distinct l

-- the sum, by the operation op from e, of the values of the keys in the list that pass the test
unfoldable pub sum_over : {M : Type 0} → (M → M → M) → M → (Key → Bool) → (Key → M) → List Key → M
sum_over op e passes value [] = e
sum_over op e passes value (x ∷ l) = cond (passes x) (op (value x) (sum_over op e passes value l)) (sum_over op e passes value l)

-- the sum of numbers
abbrev pub total : (Key → Bool) → (Key → ℕ) → List Key → ℕ
total = sum_over ◌+◌ 0

-- how many keys of the list pass
abbrev pub count : (Key → Bool) → List Key → ℕ
count passes = total passes (λ k. 1)

-- ---- cells, and what packets make of them
-- 01 'Blocks of 512 bytes': "FlowXOR 13, zero 1, FlowCount 2, PacketCount 4"
pub record Cell : Type 0 where
  pub flow_xor : Key
  pub flow_count : ℕ
  pub packet_count : ℕ

abbrev pub Table : Type 0
Table = ℕ → Cell

-- which cells a key has: 01 'Printing program': "Peeling is defined over any placement of keys"
abbrev pub Placement : Type 0
Placement = Key → ℕ → Bool

-- 01 'Taking packets': "Starting clears it"
unfoldable pub empty_table : ℕ → Table
empty_table key_length c = record { flow_xor = replicate key_length 0; flow_count = 0; packet_count = 0 }

-- 01 'Taking packets': "in each of its k cells XORs its key into FlowXOR and adds 1 to FlowCount .. Every packet adds 1 to PacketCount"
unfoldable pub take_in_cell : Bool → Key → Cell → Cell
take_in_cell new x cell = record {
  flow_xor = cond new (xor_bytes cell.flow_xor x) cell.flow_xor;
  flow_count = cond new (cell.flow_count + 1) cell.flow_count;
  packet_count = cell.packet_count + 1;
}

-- a packet of key x, whose flow is new or not, in each cell of x
unfoldable pub take_packet : Placement → Bool → Key → Table → Table
take_packet has new x t c = cond (has x c) (take_in_cell new x (t c)) (t c)

-- a packet taken: its key, and whether its flow was called new
pub record Taken : Type 0 where
  pub key : Key
  pub new : Bool

-- the packets, oldest first
unfoldable pub take_packets : Placement → List Taken → Table → Table
take_packets has [] t = t
take_packets has (p ∷ ps) t = take_packets has ps (take_packet has p.new p.key t)

-- a key joins a list that does not have it
unfoldable pub add_flow : List Key → Key → List Key
add_flow F x = cond (among x F) F (F ++ (x ∷ []))

-- the flows F joined by those of the packets, in order of first appearance
unfoldable pub flows_after : List Key → List Taken → List Key
flows_after F [] = F
flows_after F (p ∷ ps) = flows_after (add_flow F p.key) ps

abbrev pub flows_of : List Taken → List Key
flows_of = flows_after []

-- the keys of the packets whose flow was called new, in order
unfoldable pub new_flows_of : List Taken → List Key
new_flows_of [] = []
new_flows_of (p ∷ ps) = cond p.new (p.key ∷ new_flows_of ps) (new_flows_of ps)

-- how many of the packets have key x
unfoldable pub packets_of : List Taken → Key → ℕ
packets_of [] x = 0
packets_of (p ∷ ps) x = cond (same_key x p.key) 1 0 + packets_of ps x

-- each packet fits the flows before it, F and those of the packets before it
unfoldable pub EachTaken : (List Key → Taken → Type 0) → List Key → List Taken → Type 0
EachTaken Fits F [] = Unit {0}
EachTaken Fits F (p ∷ ps) = Fits F p × EachTaken Fits (add_flow F p.key) ps

-- a flow that no earlier packet has is called new
abbrev pub NewIsNew : List Key → Taken → Type 0
NewIsNew earlier p = among p.key earlier ≡ false → p.new ≡ true

-- a flow that an earlier packet has is not called new
abbrev pub OldIsOld : List Key → Taken → Type 0
OldIsOld earlier p = among p.key earlier ≡ true → p.new ≡ false

-- the key has the length
abbrev pub HasLength : ℕ → List Key → Taken → Type 0
HasLength key_length earlier p = length p.key ≡ key_length

-- the filter never took a new flow for an old one
abbrev pub NeverMistaken : List Taken → Type 0
NeverMistaken = EachTaken NewIsNew []

-- the filter never took an old flow for a new one
abbrev pub NeverRenewed : List Taken → Type 0
NeverRenewed = EachTaken OldIsOld []

-- every key has the length
abbrev pub Sized : ℕ → List Taken → Type 0
Sized key_length = EachTaken (HasLength key_length) []

-- cell c, where the flows `new` were XORed in and counted, and the flows `all` have the packets that `packets` says
unfoldable pub encode_cell : ℕ → Placement → List Key → List Key → (Key → ℕ) → ℕ → Cell
encode_cell key_length has new all packets c = record {
  flow_xor = sum_over xor_bytes (replicate key_length 0) (λ k. has k c) (λ k. k) new;
  flow_count = count (λ k. has k c) new;
  packet_count = total (λ k. has k c) packets all;
}

-- the table of a flowset: its flows, each with its packets
unfoldable pub encode : ℕ → Placement → List Key → (Key → ℕ) → Table
encode key_length has F packets c = encode_cell key_length has F F packets c

-- a flowset: distinct flows, each with a key of the length and at least one packet
pub record FlowSet (key_length : ℕ) (F : List Key) (packets : Key → ℕ) : Type 0 where
  pub apart : Distinct F
  pub sized : (k : Key) → among k F ≡ true → length k ≡ key_length
  pub some-packet : (k : Key) → among k F ≡ true → 1 ≤ packets k

-- ---- of a set of flows
-- the keys of cell c outside a set
unfoldable pub outside : Placement → (Key → Bool) → ℕ → Key → Bool
outside has X c k = has k c && not (X k)

-- x is the one key of the list that passes
pub record Only (passes : Key → Bool) (l : List Key) (x : Key) : Type 0 where
  pub member : among x l ≡ true
  pub chosen : passes x ≡ true
  pub alone : (k : Key) → among k l ≡ true → passes k ≡ true → k ≡ x
