-- Each way out of the encoder's functions, over plain values; and the code's list of places is the flow's.
use mathlib.Core.Path.{◌≡◌, refl, sym, ap, ◌∙◌}
use mathlib.Core.Bool.{Bool, true, false, cond}
use mathlib.Core.List.{List}
use Prim.Native.Nat.{ℕ, ◌+◌, ◌<◌}
use native.Mathlib.Nat.{mul-le-mul, add-mul}
use native.Mathlib.Omega.{arith}
use borrow.Author.Tests.{eqb-true}
use lib.Dec.{eqb}
use Rattle.std.specs.Prelude.{Option, None, Some, Ok, Err}
use Rattle.std.specs.Option.{ok_or}
use lib.ListN.{length, get_or}
use Rattle.laws.specs.Upto.{list_upto}
use Rattle.laws.proofs.Bools.{and_l, and_r}
use Rattle.laws.proofs.Upto.{any_at, steps-at, list_at}
use Rattle.layout.specs.declared.Layout.{Layout}
use Rattle.layout.specs.declared.Shape.{Shape}
use Rattle.layout.specs.declared.Sizes.{Sizes}
use Rattle.layout.specs.Sizes.{Lays, Ranged, ipv4_layout, table_cells, cell_bytes, filter_bytes}
use Rattle.hash.specs.Places.{cell_of, bits_of}
use Rattle.hash.proofs.Apart.{cell-within}
use Rattle.filter.specs.Filter.{is_new, any_clear, with_bits}
use Rattle.filter.proofs.Held.{clear-new, bits-flow}
use Rattle.cell.specs.Cell.{take_at_place}
use Rattle.packet.specs.declared.Key.{Key}
use Rattle.packet.specs.Packet.{key_of}
use Rattle.packet.specs.Key.{key_bytes}
use Rattle.encoder.specs.Loops.{InCells, RoomsFit, Lends, LendsNot, any_full, take_each}
use Rattle.encoder.specs.Encoder.{full_at, is_full, take_in, rooms_fit, Taking, taking, offer_key, offer, packet_of, starting, start_of, take_error}
use Rattle.encoder.specs.declared.StartError.{StartError}
use Rattle.encoder.specs.declared.StartError.TheVariants as start
use Rattle.encoder.specs.declared.TakeError.{TakeError}
use Rattle.encoder.specs.declared.TakeError.TheVariants as take

-- ---- lengths
pub rooms : (l : Layout) (z : Sizes) (filter cells : ℕ) → rooms_fit l z filter cells ≡ true → RoomsFit l z filter cells
unfolding rooms_fit
rooms l z filter cells h = (
  eqb-true filter (filter_bytes z) (and_l (eqb filter (filter_bytes z)) (eqb cells (cell_bytes l z)) h),
  eqb-true cells (cell_bytes l z) (and_r (eqb filter (filter_bytes z)) (eqb cells (cell_bytes l z)) h),
)

-- ---- the code's places
module _ (l : Layout) (z : Sizes) (lays : Lays l) (r : Ranged z) (salt : ℕ) (key : List ℕ) where
  place_at : (i : ℕ) → i < z.k → get_or (list_upto 4 (cell_of l z salt key)) i 0 ≡ cell_of l z salt key i
  place_at i h = list_at 4 (cell_of l z salt key) 0 i (omega arith)

  pub cells-inside : (bytes : ℕ) → bytes ≡ cell_bytes l z → InCells l (list_upto 4 (cell_of l z salt key)) z.k bytes
  unfolding cell_bytes
  cells-inside bytes e i h =
      let c = cell_of l z salt key i in
      let p = mul-le-mul {n₁ = c + 1} {m₁ = l.cell} {n₂ = table_cells l z} {m₂ = l.cell} (omega (arith, cell-within l z lays r salt key i h))
      (omega arith) in
      rw (place_at i h, e) (omega (arith, add-mul c 1 l.cell))

  pub full_is : (new : Bool) (cells : List ℕ) → any_full l new cells (list_upto 4 (cell_of l z salt key)) z.k ≡ is_full l z salt new key cells
  unfolding any_full is_full
  full_is new cells = any_at z.k (cell_of l z salt key) (full_at l new cells) r.k-high refl

  pub each-is : (new : Bool) (cells : List ℕ) → take_each l new key (list_upto 4 (cell_of l z salt key)) z.k cells ≡ take_in l z salt new key cells
  unfolding take_each take_in
  each-is new cells = steps-at z.k (cell_of l z salt key) (take_at_place l new key) cells r.k-high refl

  -- ---- the two ways out of take_placed
  module _ (filter cells bits at : List ℕ) (new : Bool) (b : bits ≡ bits_of z salt key) (a : at ≡ list_upto 4 (cell_of l z salt key))
      (n : new ≡ any_clear filter bits z.kf) where
    new_is : new ≡ is_new z salt filter key
    new_is = n ∙ ap (λ bs. any_clear filter bs z.kf) b ∙ clear-new z r salt filter key

    full_at_lem : any_full l new cells at z.k ≡ is_full l z salt (is_new z salt filter key) key cells
    full_at_lem = ap (λ ps. any_full l new cells ps z.k) a ∙ full_is new cells ∙ ap (λ x. is_full l z salt x key cells) new_is

    pub offer-full : any_full l new cells at z.k ≡ true → taking (Err take.Full) filter cells ≡ offer_key l z salt key filter cells
    unfolding offer_key
    offer-full h = rw (sym full_at_lem ∙ h)

    pub offer-taken : {filter' cells' : List ℕ} → any_full l new cells at z.k ≡ false → filter' ≡ cond new (with_bits filter bits z.kf) filter
        → cells' ≡ take_each l new key at z.k cells → taking (Ok tt) filter' cells' ≡ offer_key l z salt key filter cells
    unfolding offer_key
    offer-taken h f t =
        rw (sym full_at_lem ∙ h, f, t, new_is, a, b, bits-flow z r salt filter key, each-is (is_new z salt filter key) cells)

-- ---- a key that is there, or not
pub key-missing : (o : Option Key) {e : TakeError} → ok_or o take.NoKey ≡ Err e → (o ≡ None) × (e ≡ take.NoKey)
key-missing None h = (refl, cc)
key-missing (Some key) h = absurd (cc)

pub key-there : (o : Option Key) {key : Key} → ok_or o take.NoKey ≡ Ok key → o ≡ Some key
key-there None h = absurd (cc)
key-there (Some other) h = cc

-- ---- the ways out of the packet call
module _ (z : Sizes) (salt : ℕ) (packet filter cells : List ℕ) where
  pub packet-not-lent : (e : StartError) → LendsNot ipv4_layout z (length filter) (length cells) e
      → taking (Err (take_error e)) filter cells ≡ packet_of z salt packet filter cells
  unfolding packet_of
  packet-not-lent start.BadSizes h = rw h
  packet-not-lent start.BadRoom h = rw (h.0, h.1)

  module _ {s : Shape} (h : Lends ipv4_layout z (length filter) (length cells) s) where
    pub packet-refused : key_of packet ≡ None → taking (Err take.NoKey) filter cells ≡ packet_of z salt packet filter cells
    unfolding packet_of offer
    packet-refused k = rw (h.in_range, h.rooms, k)

    pub packet-offered : (key : Key) {bytes : List ℕ} {t : Taking} → key_of packet ≡ Some key → bytes ≡ key_bytes key
        → t ≡ offer_key s.layout s.sizes salt bytes filter cells → t ≡ packet_of z salt packet filter cells
    unfolding packet_of offer
    packet-offered key k b o = o ∙ rw (h.in_range, h.rooms, k, b, h.layout, h.sizes)

-- ---- the ways out of starting
module _ (z : Sizes) (filter cells : List ℕ) where
  pub start-not-lent : (e : StartError) → LendsNot ipv4_layout z (length filter) (length cells) e
      → starting (Err e) filter cells ≡ start_of ipv4_layout z filter cells
  unfolding start_of
  start-not-lent start.BadSizes h = rw h
  start-not-lent start.BadRoom h = rw (h.0, h.1)

  pub start-done : {s : Shape} {f c : List ℕ} → Lends ipv4_layout z (length filter) (length cells) s
      → f ≡ lib.ListN.replicate (length filter) 0 → c ≡ lib.ListN.replicate (length cells) 0
      → starting (Ok tt) f c ≡ start_of ipv4_layout z filter cells
  unfolding start_of
  start-done h p q = rw (h.in_range, h.rooms, p, q)
