-- What a packet taken keeps: lengths, bytes, the zero byte of each cell; it sets its flow's bits, and a flow once taken is old.
use mathlib.Core.Path.{◌≡◌, refl, sym, ap, ◌∙◌}
use mathlib.Core.Bool.{Bool, true, false, cond, ◌&&◌}
use mathlib.Core.List.{List, [], ◌∷◌}
use mathlib.Core.Logic.{inl, inr}
use Prim.Native.Nat.{ℕ, ◌+◌, ◌*◌, ◌/◌, ◌%◌, ◌^◌}
use native.Mathlib.Nat.{div-le_self}
use native.Mathlib.Omega.{arith}
use lib.Bits.{bit_or, or_lt}
use lib.ListN.{length, get_or, take, drop}
use Rattle.laws.specs.Xor.{xor_bytes}
use Rattle.laws.specs.BigEndian.{Bytes, bytes_of}
use Rattle.laws.proofs.Bools.{split, or-e, or-f}
use Rattle.laws.proofs.BigEndian.{bytes-are-bytes, bytes_take, bytes_drop, bytes-set, bytes-sets, bytes-xor}
use Rattle.laws.proofs.Upto.{each_keeps}
use Rattle.layout.specs.declared.Layout.{Layout}
use Rattle.layout.specs.declared.Sizes.{Sizes}
use Rattle.layout.specs.Sizes.{Lays, Ranged, cell_bytes, filter_bytes}
use Rattle.hash.specs.Places.{cell_of, bit_of}
use Rattle.hash.proofs.Apart.{cell-within}
use Rattle.fields.specs.Field.{with_field}
use Rattle.filter.specs.Filter.{mask, is_set, with_bit, is_new, with_flow, has_bit}
use Rattle.filter.proofs.Held.{length-flow, flow-bits, taken-old, old-stays}
use Rattle.cell.specs.Cell.{flow_xor_at, with_key, add_flow, add_packet, take_at_place}
use Rattle.cell.proofs.Steps.{length-take, take-zero}
use Rattle.encoder.specs.Encoder.{take_in, offer_key}
use Rattle.theory.specs.Encode.{Key, same_key, among, take_packet, add_flow as joined}
use Rattle.theory.proofs.Flow.{same-eq}
use Rattle.theory.proofs.Packets.{among-add}
use Rattle.meaning.specs.View.{table_of, placement_of}
use Rattle.meaning.specs.Meaning.{Memory, Lent, leaves, is_taken, taken_by, new_flow_bit, Sets}
use Rattle.meaning.proofs.Packet.{cell-inside, length-in, filter-after, cells-after, packet-taken}

-- ---- bytes
bit-bytes : (filter : List ℕ) (n : ℕ) → Bytes filter → Bytes (with_bit filter n)
unfolding with_bit
bit-bytes filter n b =
    bytes-set filter (n / 8) (bit_or (get_or filter (n / 8) 0) (mask n)) b
    (or_lt 8 (get_or filter (n / 8) 0) (mask n) (b (n / 8)) (omega (arith, div-le_self 128 (2 ^ (n % 8)))))

field-bytes : (n : ℕ) (s : List ℕ) (at x : ℕ) → Bytes s → Bytes (with_field n s at x)
unfolding with_field
field-bytes n s at x b = bytes-sets (bytes_of n x) s at b (bytes-are-bytes n x)

key-bytes : (l : Layout) (cells : List ℕ) (c : ℕ) (key : List ℕ) → Bytes cells → Bytes key → Bytes (with_key l cells c key)
unfolding with_key flow_xor_at
key-bytes l cells c key b k =
    let part = take l.key (drop (c * l.cell) cells) in
    bytes-sets (xor_bytes part key) cells (c * l.cell) b
    (bytes-xor part key (bytes_take l.key (drop (c * l.cell) cells) (bytes_drop (c * l.cell) cells b)) k)

take-bytes : (l : Layout) (new : Bool) (key : List ℕ) (c : ℕ) (cells : List ℕ) → Bytes cells → Bytes key → Bytes (take_at_place l new key c cells)
unfolding take_at_place add_packet add_flow
take-bytes l true key c cells b k = field-bytes 4 _ _ _ (field-bytes 2 _ _ _ (key-bytes l cells c key b k))
take-bytes l false key c cells b k = field-bytes 4 cells _ _ b

-- ---- the flow's bits and cells
flow-bytes : (z : Sizes) (salt : ℕ) (filter key : List ℕ) → Bytes filter → Bytes (with_flow z salt filter key)
unfolding with_flow
flow-bytes z salt filter key b =
    each_keeps Bytes z.kf (λ i f. with_bit f (bit_of z salt key i)) filter b (λ i f h q. bit-bytes f (bit_of z salt key i) q)

module _ (l : Layout) (z : Sizes) (salt : ℕ) (new : Bool) (key cells : List ℕ) where
  in_bytes : Bytes cells → Bytes key → Bytes (take_in l z salt new key cells)
  unfolding take_in
  in_bytes b k =
      each_keeps Bytes z.k (λ i t. take_at_place l new key (cell_of l z salt key i) t) cells b
      (λ i t h q. take-bytes l new key (cell_of l z salt key i) t q k)

  -- the zero byte of cell d
  in-zero : Lays l → Ranged z → length key ≡ l.key → length cells ≡ cell_bytes l z
      → (d : ℕ) → get_or (take_in l z salt new key cells) (d * l.cell + l.key) 0 ≡ get_or cells (d * l.cell + l.key) 0
  unfolding take_in
  in-zero lays r sized room d =
      let at = d * l.cell + l.key in
      (each_keeps (λ t. (length t ≡ cell_bytes l z) × (get_or t at 0 ≡ get_or cells at 0)) z.k
      (λ i t. take_at_place l new key (cell_of l z salt key i) t) cells (room, refl)
      (λ i t h p.
      let c = cell_of l z salt key i in (
        length-take l new key c t ∙ p.0,
        take-zero l c lays t key (rw p.0 (cell-inside l z c (cell-within l z lays r salt key i h))) sized new d ∙ p.1,
      ))).1

-- ---- a packet taken
-- the flows are old: all their filter bits are set
abbrev pub Old : Sizes → ℕ → List Key → List ℕ → Type 0
Old z salt F filter = (k : Key) → among k F ≡ true → is_new z salt filter k ≡ false

-- the memory after a packet of this key
pub record Next (l : Layout) (z : Sizes) (salt : ℕ) (key : Key) (m next : Memory) : Type 0 where
  pub table : table_of l z next.cells ≡ take_packet (placement_of l z salt) (is_new z salt m.filter key) key (table_of l z m.cells)
  pub lent : Lent l z next
  pub sets : Sets l z salt m (taken_by z salt m key ∷ []) next
  pub old : (F : List Key) → Old z salt F m.filter → Old z salt (joined F key) next.filter

module _ (l : Layout) (z : Sizes) (lays : Lays l) (r : Ranged z) (salt : ℕ) (key : Key) (sized : length key ≡ l.key)
    (m : Memory) (filter-fits : length m.filter ≡ filter_bytes z) (cells_fit : length m.cells ≡ cell_bytes l z)
    (taken : is_taken (offer_key l z salt key m.filter m.cells) ≡ true) where
  abbrev new : Bool
  new = is_new z salt m.filter key

  abbrev next : Memory
  next = leaves (offer_key l z salt key m.filter m.cells)

  filter-is : next.filter ≡ cond new (with_flow z salt m.filter key) m.filter
  filter-is = filter-after l z salt key m.filter m.cells taken

  cells_are : next.cells ≡ take_in l z salt new key m.cells
  cells_are = cells-after l z salt key m.filter m.cells taken

  -- its bits are set where its flow is new, and the zero bytes stay
  pub offer-sets : Sets l z salt m (taken_by z salt m key ∷ []) next
  unfolding new_flow_bit
  offer-sets = record {
    filter-bits = λ n. rw (filter-is, or-f (new && has_bit z salt key n)) (elim (split new) [
      | inl q ↦ rw q (flow-bits z r salt m.filter filter-fits key n)
      | inr q ↦ rw q (sym (or-f (is_set m.filter n)))
    ]);
    zero-stays = λ c. rw cells_are (in-zero l z salt new key m.cells lays r sized cells_fit c);
  }

  -- what holds of the filter as it was, and with the flow's bits set
  filter-keeps : (P : List ℕ → Type 0) → P m.filter → P (with_flow z salt m.filter key) → P next.filter
  filter-keeps P old set = rw filter-is (elim (split new) [ inl n ↦ rw n set | inr n ↦ rw n old ])

  module _ (are-bytes : Bytes key) (lent : Lent l z m) where
    next-lent : Lent l z next
    next-lent = record {
      filter-length = filter-keeps (λ f. length f ≡ filter_bytes z) lent.filter-length (length-flow z r salt m.filter key ∙ lent.filter-length);
      cells-length = ap length cells_are ∙ length-in l z salt new key m.cells ∙ lent.cells-length;
      filter-bytes = filter-keeps Bytes lent.filter-bytes (flow-bytes z salt m.filter key lent.filter-bytes);
      cells-bytes = rw cells_are (in_bytes l z salt new key m.cells lent.cells-bytes are-bytes);
    }

    -- a flow that is old stays old, and the packet's is old now
    stays-old : (k : Key) → is_new z salt m.filter k ≡ false → is_new z salt next.filter k ≡ false
    stays-old k h = filter-keeps (λ f. is_new z salt f k ≡ false) h (old-stays z r salt m.filter lent.filter-length k key h)

    now-old : is_new z salt next.filter key ≡ false
    now-old = rw filter-is (elim (split new) [ inl n ↦ rw n (taken-old z r salt m.filter lent.filter-length key) | inr n ↦ rw n n ])

    pub offer-next : Next l z salt key m next
    offer-next = record {
      table = packet-taken l z salt key m.filter m.cells taken lays r sized lent.cells-length lent.cells-bytes;
      lent = next-lent;
      sets = offer-sets;
      old = λ F old k h. elim (or-e (among k F) (same_key k key) (sym (among-add k F key) ∙ h)) [
        | inl p ↦ stays-old k (old k p)
        | inr p ↦ rw (same-eq k key p) now-old
      ];
    }
