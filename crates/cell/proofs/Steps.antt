-- What each step leaves in its own cell, and that it leaves every other cell and every zero byte as it was.
use Rattle.std.proofs.Common.{◌≡◌, ℕ, ◌+◌, ◌*◌, ◌%◌, ◌^◌, ◌<◌, ◌≤◌, Bool, true, false, cond, ◌⊎◌, List, length, get_or, take, drop, sym, refl, ap, ◌∙◌, inl, inr, add-zero, add_assoc, add-mul, mul-le-mul, arith}
use native.Mathlib.Nat.{mod-mod}
use native.Mathlib.Decide.{dec_lt, ℕ_discrete}
use lib.Seq.{sets, length-sets}
use Rattle.laws.specs.Xor.{xor_bytes}
use Rattle.laws.specs.BigEndian.{bytes_of, number_of}
use Rattle.laws.proofs.Xor.{xor_bytes-length}
use Rattle.laws.proofs.BigEndian.{bytes_same}
use Rattle.laws.proofs.Lists.{length_part, part_same, part-sets-same, part-sets-other, sets-before, sets-after}
use Rattle.layout.specs.declared.Layout.{Layout}
use Rattle.layout.specs.Sizes.{Lays}
use Rattle.fields.specs.Field.{field, with_field, xored_at}
use Rattle.fields.proofs.Fields.{length-with, field-same, field-other, part-other, byte-other}
use Rattle.cell.specs.Cell.{InTable, flow_xor_at, flow_count_at, packet_count_at, flow_count_place, packet_count_place, with_key, add_flow, add_packet, take_at_place}

-- a number counted on modulo its width is the same bytes
field-wraps : (n : ℕ) (s : List ℕ) (at x y : ℕ) → x ≡ y % 256 ^ n → with_field n s at x ≡ with_field n s at y
unfolding with_field
field-wraps n s at x y e =
    let same : bytes_of n x ≡ bytes_of n y = rw e (bytes_same n (y % 256 ^ n) y (mod-mod y (256 ^ n))) in
    ap (sets s at) same

-- what the code leaves is what the definitions say
pub flow-counted : (l : Layout) (cells : List ℕ) (c : ℕ) {x y : ℕ} → y ≡ field 2 cells (flow_count_place l c) → x ≡ (y + 1) % 2 ^ 16
    → with_field 2 cells (flow_count_place l c) x ≡ add_flow l cells c
unfolding add_flow flow_count_at
flow-counted l cells c {x = x} e f =
    field-wraps 2 cells (flow_count_place l c) x (field 2 cells (flow_count_place l c) + 1) (f ∙ ap (λ y. (y + 1) % 2 ^ 16) e)

pub packet-counted : (l : Layout) (cells : List ℕ) (c : ℕ) {x y : ℕ} → y ≡ field 4 cells (packet_count_place l c) → x ≡ (y + 1) % 2 ^ 32
    → with_field 4 cells (packet_count_place l c) x ≡ add_packet l cells c
unfolding add_packet packet_count_at
packet-counted l cells c {x = x} e f =
    field-wraps 4 cells (packet_count_place l c) x (field 4 cells (packet_count_place l c) + 1) (f ∙ ap (λ y. (y + 1) % 2 ^ 32) e)

pub key-mixed : (l : Layout) (cells : List ℕ) (c : ℕ) (key : List ℕ) → length key ≡ l.key → xored_at cells (c * l.cell) key ≡ with_key l cells c key
unfolding xored_at with_key flow_xor_at
key-mixed l cells c key e = rw e

module _ (l : Layout) (lays : Lays l) (cells : List ℕ) (c : ℕ) (inside : InTable l (length cells) c) where
  xor-length : (key : List ℕ) → length key ≡ l.key → length (xor_bytes (flow_xor_at l cells c) key) ≡ l.key
  unfolding flow_xor_at
  xor-length key e =
      xor_bytes-length (take l.key (drop (c * l.cell) cells)) key l.key
      (length_part cells (c * l.cell) l.key (omega (arith, lays.key_fits))) e

  pub length-key : (key : List ℕ) → length (with_key l cells c key) ≡ length cells
  unfolding with_key
  length-key key = length-sets cells (c * l.cell) (xor_bytes (flow_xor_at l cells c) key)

pub length-take : (l : Layout) (new : Bool) (key : List ℕ) (c : ℕ) (cells : List ℕ) → length (take_at_place l new key c cells) ≡ length cells
unfolding take_at_place add_packet add_flow with_key
length-take l true key c cells =
    length-with 4 _ (packet_count_place l c) _ ∙ length-with 2 _ (flow_count_place l c) _ ∙ length-sets cells (c * l.cell)
    (xor_bytes (flow_xor_at l cells c) key)
length-take l false key c cells = length-with 4 cells (packet_count_place l c) _

-- a byte of another cell, or the zero byte of cell c
abbrev pub Untouched : Layout → ℕ → ℕ → Type 0
Untouched l c i = (i < c * l.cell) ⊎ ((i ≡ c * l.cell + l.key) ⊎ (c * l.cell + l.cell ≤ i))

-- it lies before or after each count of cell c
beside : (l : Layout) (c : ℕ) → Lays l → (i at n : ℕ) → 1 ≤ at → at + n ≤ 7 → Untouched l c i
    → (i < c * l.cell + l.key + at) ⊎ (c * l.cell + l.key + at + n ≤ i)
beside l c lays i at n p q (inl h) = inl (omega arith)
beside l c lays i at n p q (inr (inl e)) = inl (omega arith)
beside l c lays i at n p q (inr (inr h)) = inr (omega (arith, lays.key_fits))

-- a byte of another cell is one
apart : (l : Layout) (c d j : ℕ) → (d ≡ c → ⊥) → j < l.cell → Untouched l c (d * l.cell + j)
apart l c d j other h = elim (dec_lt d c) [
  | yes less ↦
      let p = mul-le-mul {n₁ = d + 1} {m₁ = l.cell} {n₂ = c} {m₂ = l.cell} (omega arith) (omega arith) in
      inl (omega (arith, add-mul d 1 l.cell))
  | no more ↦
      let p = mul-le-mul {n₁ = c + 1} {m₁ = l.cell} {n₂ = d} {m₂ = l.cell} (omega arith) (omega arith) in
      inr (inr (omega (arith, add-mul c 1 l.cell)))
]

-- ---- what a packet leaves in its own cell
module _ (l : Layout) (c : ℕ) where
  -- a count changes its own field and leaves the two others as they were
  module _ (cells : List ℕ) where
    flow-xor : flow_xor_at l (add_flow l cells c) c ≡ flow_xor_at l cells c
    unfolding flow_xor_at add_flow
    flow-xor = part-other 2 cells (flow_count_place l c) _ (c * l.cell) l.key (inl (omega arith))

    flow-packets : packet_count_at l (add_flow l cells c) c ≡ packet_count_at l cells c
    unfolding packet_count_at add_flow
    flow-packets = field-other 2 cells (flow_count_place l c) _ (packet_count_place l c) 4 (inr (omega arith))

    packet-xor : flow_xor_at l (add_packet l cells c) c ≡ flow_xor_at l cells c
    unfolding flow_xor_at add_packet
    packet-xor = part-other 4 cells (packet_count_place l c) _ (c * l.cell) l.key (inl (omega arith))

    packet-flows : flow_count_at l (add_packet l cells c) c ≡ flow_count_at l cells c
    unfolding flow_count_at add_packet
    packet-flows = field-other 4 cells (packet_count_place l c) _ (flow_count_place l c) 2 (inl (omega arith))

    module _ (lays : Lays l) (inside : InTable l (length cells) c) where
      flow-flows : flow_count_at l cells c < 65535 → flow_count_at l (add_flow l cells c) c ≡ flow_count_at l cells c + 1
      unfolding flow_count_at add_flow
      flow-flows h = field-same 2 cells (flow_count_place l c) _ (omega arith) (omega (arith, lays.key_fits))

      packet-packets : packet_count_at l cells c < 4294967295 → packet_count_at l (add_packet l cells c) c ≡ packet_count_at l cells c + 1
      unfolding packet_count_at add_packet
      packet-packets h = field-same 4 cells (packet_count_place l c) _ (omega arith) (omega (arith, lays.key_fits))

  length-flow : (cells : List ℕ) → length (add_flow l cells c) ≡ length cells
  unfolding add_flow
  length-flow cells = length-with 2 cells (flow_count_place l c) (flow_count_at l cells c + 1)

  module _ (lays : Lays l) (cells key : List ℕ) (inside : InTable l (length cells) c) (sized : length key ≡ l.key) where
    key-xor : flow_xor_at l (with_key l cells c key) c ≡ xor_bytes (flow_xor_at l cells c) key
    unfolding with_key
    key-xor =
        let new = xor_bytes (flow_xor_at l cells c) key in
        let e = xor-length l lays cells c inside key sized in
        unfold flow_xor_at in
        ap (λ n. take n (drop (c * l.cell) (sets cells (c * l.cell) new))) (sym e)
        ∙ part-sets-same new cells (c * l.cell) (rw e (omega (arith, lays.key_fits)))

    -- a field after FlowXOR
    key-field : (n i : ℕ) → c * l.cell + l.key ≤ i → field n (with_key l cells c key) i ≡ field n cells i
    unfolding field with_key
    key-field n i h =
        ap number_of
        (part-sets-other (xor_bytes (flow_xor_at l cells c) key) cells (c * l.cell) i n 0
        (inr (rw (xor-length l lays cells c inside key sized) h)))

    -- a new flow in its cell
    abbrev flowed : List ℕ
    flowed = add_flow l (with_key l cells c key) c

    key-inside : InTable l (length (with_key l cells c key)) c
    key-inside = rw (length-key l lays cells c inside key) inside

    flowed-inside : InTable l (length flowed) c
    flowed-inside = rw (length-flow (with_key l cells c key)) key-inside

    key-flows : flow_count_at l (with_key l cells c key) c ≡ flow_count_at l cells c
    unfolding flow_count_at
    key-flows = key-field 2 (flow_count_place l c) (omega arith)

    flowed-packets : packet_count_at l flowed c ≡ packet_count_at l cells c
    flowed-packets = flow-packets (with_key l cells c key) ∙ unfold packet_count_at in key-field 4 (packet_count_place l c) (omega arith)

    -- 01 'Taking packets': "in each of its k cells XORs its key into FlowXOR"
    pub take-xor : (new : Bool) → flow_xor_at l (take_at_place l new key c cells) c ≡ cond new (xor_bytes (flow_xor_at l cells c) key) (flow_xor_at l cells c)
    unfolding take_at_place
    take-xor true = packet-xor flowed ∙ flow-xor (with_key l cells c key) ∙ key-xor
    take-xor false = packet-xor cells

    -- "and adds 1 to FlowCount"
    pub take-flows : (new : Bool) → (new ≡ true → flow_count_at l cells c < 65535)
        → flow_count_at l (take_at_place l new key c cells) c ≡ cond new (flow_count_at l cells c + 1) (flow_count_at l cells c)
    unfolding take_at_place
    take-flows true h =
        packet-flows flowed ∙ flow-flows (with_key l cells c key) lays key-inside (rw key-flows (h refl)) ∙ ap (λ n. n + 1) key-flows
    take-flows false h = packet-flows cells

    -- "Every packet adds 1 to PacketCount"
    pub take-packets : (new : Bool) → packet_count_at l cells c < 4294967295
        → packet_count_at l (take_at_place l new key c cells) c ≡ packet_count_at l cells c + 1
    unfolding take_at_place
    take-packets true h = packet-packets flowed lays flowed-inside (rw flowed-packets h) ∙ ap (λ n. n + 1) flowed-packets
    take-packets false h = packet-packets cells lays inside h

    -- ---- what it leaves as it was
    key-byte : (i : ℕ) → Untouched l c i → get_or (with_key l cells c key) i 0 ≡ get_or cells i 0
    unfolding with_key
    key-byte i (inl h) = sets-before (xor_bytes (flow_xor_at l cells c) key) cells (c * l.cell) i 0 h
    key-byte i (inr h) =
        sets-after (xor_bytes (flow_xor_at l cells c) key) cells (c * l.cell) i 0
        (rw (xor-length l lays cells c inside key sized) (elim h [ inl e ↦ omega arith | inr h ↦ omega (arith, lays.key_fits) ]))

    pub take-byte : (new : Bool) (i : ℕ) → Untouched l c i → get_or (take_at_place l new key c cells) i 0 ≡ get_or cells i 0
    unfolding take_at_place add_packet add_flow
    take-byte true i h =
        byte-other 4 _ (packet_count_place l c) _ i (beside l c lays i 3 4 (omega arith) (omega arith) h)
        ∙ byte-other 2 _ (flow_count_place l c) _ i (beside l c lays i 1 2 (omega arith) (omega arith) h)
        ∙ key-byte i h
    take-byte false i h = byte-other 4 _ (packet_count_place l c) _ i (beside l c lays i 3 4 (omega arith) (omega arith) h)

    -- every zero byte
    pub take-zero : (new : Bool) (d : ℕ) → get_or (take_at_place l new key c cells) (d * l.cell + l.key) 0 ≡ get_or cells (d * l.cell + l.key) 0
    take-zero new d =
        take-byte new (d * l.cell + l.key)
        (elim (ℕ_discrete d c) [ yes e ↦ inr (inl (rw e)) | no e ↦ apart l c d l.key e (omega (arith, lays.key_fits)) ])

    -- another cell
    module _ (d : ℕ) (other : d ≡ c → ⊥) (new : Bool) where
      other_byte : (j : ℕ) → j < l.cell → get_or (take_at_place l new key c cells) (d * l.cell + j) 0 ≡ get_or cells (d * l.cell + j) 0
      other_byte j h = take-byte new (d * l.cell + j) (apart l c d j other h)

      other-part : (i n : ℕ) → i + n ≤ l.cell
          → take n (drop (d * l.cell + i) (take_at_place l new key c cells)) ≡ take n (drop (d * l.cell + i) cells)
      other-part i n h =
          part_same (take_at_place l new key c cells) cells (d * l.cell + i) n 0 (length-take l new key c cells)
          (λ j q. rw add_assoc (other_byte (i + j) (omega arith)))

      pub other-xor : flow_xor_at l (take_at_place l new key c cells) d ≡ flow_xor_at l cells d
      unfolding flow_xor_at
      other-xor = rw add-zero at (other-part 0 l.key (omega (arith, lays.key_fits)))

      pub other-flows : flow_count_at l (take_at_place l new key c cells) d ≡ flow_count_at l cells d
      unfolding flow_count_at field
      other-flows = rw add_assoc (ap number_of (other-part (l.key + 1) 2 (omega (arith, lays.key_fits))))

      pub other-packets : packet_count_at l (take_at_place l new key c cells) d ≡ packet_count_at l cells d
      unfolding packet_count_at field
      other-packets = rw add_assoc (ap number_of (other-part (l.key + 3) 4 (omega (arith, lays.key_fits))))
