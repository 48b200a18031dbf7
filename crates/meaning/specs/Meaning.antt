-- Packets offered one after the other from a start, and those taken: 01 'Taking packets'.
use Rattle.std.specs.Prelude.{◌≡◌, Bool, true, false, cond, ◌&&◌, ◌||◌, List, [], ◌∷◌, ℕ, ◌+◌, ◌*◌, eqb, length, get_or, replicate}
use Rattle.laws.specs.BigEndian.{Bytes}
use Rattle.laws.specs.Upto.{all_upto}
use Rattle.layout.specs.declared.Layout.{Layout}
use Rattle.layout.specs.declared.Sizes.{Sizes}
use Rattle.layout.specs.Sizes.{Ranged, ipv4_layout, filter_bytes, table_cells, cell_bytes}
use Rattle.filter.specs.Filter.{is_set, is_new, has_bit}
use Rattle.packet.specs.Packet.{key_in}
use Rattle.packet.specs.Key.{key_bytes}
use Rattle.encoder.specs.Encoder.{Taking, take_number, offer_key, packet_of}
use Rattle.theory.specs.Encode.{Key, among, Taken, flows_of, new_flows_of, packets_of, NeverMistaken, NeverRenewed, Sized, encode_cell, encode, FlowSet}
use Rattle.meaning.specs.View.{table_of, placement_of}

-- 01 'Taking packets': "Working memory is the payload bytes of filter and cells"
pub record Memory : Type 0 where
  pub filter : List ℕ
  pub cells : List ℕ

-- it has the lengths that the sizes give, else 16, and its elements are bytes
pub record Lent (l : Layout) (z : Sizes) (m : Memory) : Type 0 where
  pub filter-length : length m.filter ≡ filter_bytes z
  pub cells-length : length m.cells ≡ cell_bytes l z
  pub filter-bytes : Bytes m.filter
  pub cells-bytes : Bytes m.cells

-- 01 'Taking packets': "Starting clears it"
unfoldable pub cleared : Layout → Sizes → Memory
cleared l z = record { filter = replicate (filter_bytes z) 0; cells = replicate (cell_bytes l z) 0 }

-- ---- calls
-- a call that is offered something, over working memory
abbrev pub Call : Type 0 → Type 0
Call A = A → Memory → Taking

-- the memory that a call leaves
abbrev pub leaves : Taking → Memory
leaves t = record { filter = t.filter; cells = t.cells }

-- 01's table of numbers: "0 done"
unfoldable pub is_taken : Taking → Bool
is_taken t = eqb (take_number t.answer) 0

-- the memory after each was offered, oldest first
unfoldable pub offer_all : {A : Type 0} → Call A → List A → Memory → Memory
offer_all call [] m = m
offer_all call (a ∷ later) m = offer_all call later (leaves (call a m))

-- a packet of a key, taken by this memory: "A flow is new when one of its kf filter bits is 0"
abbrev pub taken_by : Sizes → ℕ → Memory → Key → Taken
taken_by z salt m key = record { key = key; new = is_new z salt m.filter key }

-- 01 'Taking packets': "A refused packet is not a packet taken": the others, oldest first, each with its key and whether its flow was new then
unfoldable pub taken_of : {A : Type 0} → Sizes → ℕ → Call A → (A → Key) → List A → Memory → List Taken
taken_of z salt call key_of [] m = []
taken_of z salt call key_of (a ∷ later) m =
    let rest = taken_of z salt call key_of later (leaves (call a m)) in
    cond (is_taken (call a m)) (taken_by z salt m (key_of a) ∷ rest) rest

-- 01 'Taking packets': "A new flow sets its bits": filter bit n is one of a taken new flow's bits
unfoldable pub new_flow_bit : Sizes → ℕ → List Taken → ℕ → Bool
new_flow_bit z salt [] n = false
new_flow_bit z salt (p ∷ later) n = (p.new && has_bit z salt p.key n) || new_flow_bit z salt later n

-- what these packets taken leave of any memory, beside what they add in their flows' cells
pub record Sets (l : Layout) (z : Sizes) (salt : ℕ) (m : Memory) (taken : List Taken) (after : Memory) : Type 0 where
  -- 01 'Taking packets': "A new flow sets its bits", and no other bit changes: a bit is 1 exactly when it was or is one of a taken new flow's
  pub filter-bits : (n : ℕ) → is_set after.filter n ≡ (is_set m.filter n || new_flow_bit z salt taken n)
  -- 01 'Blocks of 512 bytes': "FlowXOR 13, zero 1": the zero byte of cell c stays as it was
  pub zero-stays : (c : ℕ) → get_or after.cells (c * l.cell + l.key) 0 ≡ get_or m.cells (c * l.cell + l.key) 0

-- ---- keys, in any layout
-- a key of the layout's length
pub record SizedKey (l : Layout) : Type 0 where
  pub bytes : Key
  pub sized : length bytes ≡ l.key
  pub are-bytes : Bytes bytes

-- a key offered as it is
abbrev pub key_call : (l : Layout) → Sizes → ℕ → Call (SizedKey l)
key_call l z salt key m = offer_key l z salt key.bytes m.filter m.cells

-- a call that takes what it is offered by its key, as `offer_key` does, or refuses it and keeps the memory
pub record TakesKeys (l : Layout) (z : Sizes) (salt : ℕ) {A : Type 0} (call : Call A) (key_of : A → Key) : Type 0 where
  pub keeps : (a : A) (m : Memory) → is_taken (call a m) ≡ false → leaves (call a m) ≡ m
  pub in-range : (a : A) (m : Memory) → is_taken (call a m) ≡ true → Ranged z
  pub offered : (a : A) (m : Memory) → is_taken (call a m) ≡ true → call a m ≡ offer_key l z salt (key_of a) m.filter m.cells
  pub sized : (a : A) (m : Memory) → is_taken (call a m) ≡ true → length (key_of a) ≡ l.key
  pub are-bytes : (a : A) (m : Memory) → is_taken (call a m) ≡ true → Bytes (key_of a)

-- ---- packets of IPv4
-- the packet call
abbrev pub packet_call : Sizes → ℕ → Call (List ℕ)
packet_call z salt packet m = packet_of z salt packet m.filter m.cells

-- the key of a packet that is not refused with 6
abbrev pub packet_key : List ℕ → Key
packet_key packet = key_bytes (key_in packet)

-- the memory after a start and these packets
abbrev pub packets_run : Sizes → ℕ → List (List ℕ) → Memory
packets_run z salt packets = offer_all (packet_call z salt) packets (cleared ipv4_layout z)

-- those of them that were taken, refused ones (6, 7) left out
abbrev pub taken_in : Sizes → ℕ → List (List ℕ) → List Taken
taken_in z salt packets = taken_of z salt (packet_call z salt) packet_key packets (cleared ipv4_layout z)

-- ---- what the memory means
-- exactly these packets were taken since a start
pub record Means (l : Layout) (z : Sizes) (salt : ℕ) (m : Memory) (taken : List Taken) : Type 0 where
  -- 01 'Taking packets': "the rule above says what it then holds": exactly this, whatever the filter said
  pub memory-holds : (c : ℕ)
      → table_of l z m.cells c ≡ encode_cell l.key (placement_of l z salt) (new_flows_of taken) (flows_of taken) (packets_of taken) c
  -- 01 'Taking packets': "A new flow sets its bits": it is never called new again
  pub never-renewed : NeverRenewed taken
  pub keys-sized : Sized l.key taken
  -- where the filter never took a new flow for an old one, the cells encode exactly the flows taken, each with its packets
  pub clean-memory : NeverMistaken taken → table_of l z m.cells ≡ encode l.key (placement_of l z salt) (flows_of taken) (packets_of taken)
  pub flowset : FlowSet l.key (flows_of taken) (packets_of taken)
  -- 01 'Taking packets': "A new flow sets its bits": a filter bit is 1 exactly when it is one of a taken new flow's
  pub filter-holds : (n : ℕ) → is_set m.filter n ≡ new_flow_bit z salt taken n
  -- every flow taken passes the filter
  pub counted-bits : (k : Key) → among k (flows_of taken) ≡ true → is_new z salt m.filter k ≡ false
  -- the lengths are the sizes', and the zero byte of each cell is zero
  pub lent : Lent l z m
  pub zero-bytes : all_upto (table_cells l z) (λ c. eqb (get_or m.cells (c * l.cell + l.key) 0) 0) ≡ true
