-- One packet taken, in bytes and in the theory's table.
use mathlib.Core.Path.{◌≡◌, refl, sym, ap, ◌∙◌, fun_ext}
use mathlib.Core.Bool.{Bool, true, false, cond, ◌&&◌}
use mathlib.Core.List.{List}
use mathlib.Core.Logic.{inl, inr}
use Prim.Native.Nat.{ℕ, zero, suc, ◌+◌, ◌<◌, ◌≤◌}
use native.Mathlib.Nat.{mul-le-mul, add-mul}
use native.Mathlib.Decide.{ℕ_discrete}
use native.Mathlib.Omega.{arith}
use borrow.Author.Tests.{eq-eqb, ne_eqb, eqb-false, ltb-false}
use lib.Dec.{eqb, ltb}
use lib.ListN.{length}
use Rattle.laws.specs.BigEndian.{Bytes}
use Rattle.laws.specs.Upto.{any_upto, each_upto}
use Rattle.laws.proofs.Bools.{split, clash, or-fl, or-fr, or-f}
use Rattle.laws.proofs.Upto.{any-no, any_none, each_keeps}
use Rattle.layout.specs.declared.Layout.{Layout}
use Rattle.layout.specs.declared.Sizes.{Sizes}
use Rattle.layout.specs.Sizes.{Lays, Ranged, table_cells, cell_bytes}
use Rattle.hash.specs.Places.{cell_of, has_cell}
use Rattle.hash.proofs.Apart.{cell-within, cells-differ, has_within}
use Rattle.fields.proofs.Fields.{field_lt}
use Rattle.cell.specs.Cell.{InTable, flow_count_at, packet_count_at, flow_count_place, packet_count_place, take_at_place}
use Rattle.cell.proofs.Steps.{length-take, take-xor, take-flows, take-packets, other-xor, other-flows, other-packets}
use Rattle.filter.specs.Filter.{is_new, with_flow}
use Rattle.encoder.specs.Encoder.{full_at, is_full, take_in, offer_key}
use Rattle.theory.specs.Encode.{Cell, take_in_cell, take_packet}
use Rattle.theory.proofs.Encode.{cell-path}
use Rattle.meaning.specs.View.{cell_at, table_of, placement_of}
use Rattle.meaning.specs.Meaning.{Memory, leaves, is_taken}

-- ---- one cell
-- neither count that the packet adds to is full
abbrev HasRoom : Bool → Cell → Type 0
HasRoom new x = (x.packet_count < 4294967295) × (new ≡ true → x.flow_count < 65535)

has_room : (l : Layout) (new : Bool) (cells : List ℕ) (c : ℕ) → Bytes cells → full_at l new cells c ≡ false → HasRoom new (cell_at l cells c)
unfolding full_at cell_at flow_count_at packet_count_at
has_room l new cells c b h =
    let packets = packet_count_at l cells c in
    let flows = flow_count_at l cells c in
    let some = or-fl (eqb packets 4294967295) (new && eqb flows 65535) h in
    let one = or-fr (eqb packets 4294967295) (new && eqb flows 65535) h in (
      omega (arith, eqb-false packets 4294967295 some, field_lt 4 cells (packet_count_place l c) b),
      λ e. omega (arith, eqb-false flows 65535 (rw e at one), field_lt 2 cells (flow_count_place l c) b),
    )

module _ (l : Layout) (lays : Lays l) (key : List ℕ) (sized : length key ≡ l.key) (new : Bool) (c : ℕ) (cells : List ℕ)
    (inside : InTable l (length cells) c) where
  cell-own : HasRoom new (cell_at l cells c) → cell_at l (take_at_place l new key c cells) c ≡ take_in_cell new key (cell_at l cells c)
  unfolding cell_at take_in_cell
  cell-own room =
      cell-path _ _ (take-xor l c lays cells key inside sized new)
      (take-flows l c lays cells key inside sized new room.1) (take-packets l c lays cells key inside sized new room.0)

  cell_other : (d : ℕ) → (d ≡ c → ⊥) → cell_at l (take_at_place l new key c cells) d ≡ cell_at l cells d
  unfolding cell_at
  cell_other d other =
      cell-path _ _ (other-xor l c lays cells key inside sized d other new)
      (other-flows l c lays cells key inside sized d other new) (other-packets l c lays cells key inside sized d other new)

-- a cell of the table lies in its bytes
pub cell-inside : (l : Layout) (z : Sizes) (c : ℕ) → c < table_cells l z → InTable l (cell_bytes l z) c
unfolding cell_bytes
cell-inside l z c h =
    let p = mul-le-mul {n₁ = c + 1} {m₁ = l.cell} {n₂ = table_cells l z} {m₂ = l.cell} (omega arith) (omega arith) in
    omega (arith, add-mul c 1 l.cell)

-- ---- each of the flow's cells
-- the cells after the first n of the flow's
abbrev taken_upto : Layout → Sizes → ℕ → Bool → List ℕ → List ℕ → ℕ → List ℕ
taken_upto l z salt new key cells n = each_upto n (λ i t. take_at_place l new key (cell_of l z salt key i) t) cells

length-upto : (l : Layout) (z : Sizes) (salt : ℕ) (new : Bool) (key cells : List ℕ) (n : ℕ)
    → length (taken_upto l z salt new key cells n) ≡ length cells
length-upto l z salt new key cells n =
    each_keeps (λ t. length t ≡ length cells) n (λ i t. take_at_place l new key (cell_of l z salt key i) t) cells refl
    (λ i t h e. length-take l new key (cell_of l z salt key i) t ∙ e)

pub length-in : (l : Layout) (z : Sizes) (salt : ℕ) (new : Bool) (key cells : List ℕ) → length (take_in l z salt new key cells) ≡ length cells
unfolding take_in
length-in l z salt new key cells = length-upto l z salt new key cells z.k

module _ (l : Layout) (z : Sizes) (lays : Lays l) (r : Ranged z) (salt : ℕ) (key : List ℕ) (sized : length key ≡ l.key)
    (new : Bool) (cells : List ℕ) (room : length cells ≡ cell_bytes l z) where
  abbrev after : ℕ → List ℕ
  after = taken_upto l z salt new key cells

  after-inside : (n i : ℕ) → i < z.k → InTable l (length (after n)) (cell_of l z salt key i)
  after-inside n i h =
      rw (length-upto l z salt new key cells n, room) (cell-inside l z (cell_of l z salt key i) (cell-within l z lays r salt key i h))

  module _ (each : (i : ℕ) → i < z.k → HasRoom new (cell_at l cells (cell_of l z salt key i))) where
    -- cell c, where c is one of these, and where it is not
    abbrev taken : ℕ → ℕ → Cell
    taken n c = cond (any_upto n (λ i. eqb (cell_of l z salt key i) c)) (take_in_cell new key (cell_at l cells c)) (cell_at l cells c)

    -- none of the cells before is hash n's
    none_before : (n : ℕ) → any_upto n (λ i. eqb (cell_of l z salt key i) (cell_of l z salt key n)) ≡ false
    none_before n = any-no n (λ i. eqb (cell_of l z salt key i) (cell_of l z salt key n))
        (λ i less. ne_eqb (cell_of l z salt key i) (cell_of l z salt key n) (cells-differ l z lays r salt key i n (λ q. omega arith)))

    taken_more : (n c : ℕ) → n < z.k → cell_at l (after n) c ≡ taken n c → cell_at l (after (suc n)) c ≡ taken (suc n) c
    unfolding each_upto any_upto
    taken_more n c h ih = elim (ℕ_discrete (cell_of l z salt key n) c) [
      | yes e ↦
          let d = cell_of l z salt key n in
          let same : cell_at l (after n) d ≡ cell_at l cells d = rw (sym e, none_before n) at ih in
          rw (sym e, none_before n, eq-eqb d d refl)
          (cell-own l lays key sized new d (after n) (after-inside n n h) (rw same (each n h)) ∙ ap (take_in_cell new key) same)
      | no e ↦
          rw (ne_eqb (cell_of l z salt key n) c e, or-f (any_upto n (λ i. eqb (cell_of l z salt key i) c)))
          (cell_other l lays key sized new (cell_of l z salt key n) (after n) (after-inside n n h) c (λ q. e (sym q)) ∙ ih)
    ]

    taken-cell : (n : ℕ) → n ≤ z.k → (c : ℕ) → cell_at l (after n) c ≡ taken n c
    taken-cell zero h c = unfold each_upto any_upto in refl
    taken-cell (suc n) h c = taken_more n c (omega arith) (taken-cell n (omega arith) c)

    table_taken : table_of l z (take_in l z salt new key cells) ≡ take_packet (placement_of l z salt) new key (table_of l z cells)
    unfolding table_of take_in take_packet
    table_taken = fun_ext (λ c. elim (split (ltb c (table_cells l z))) [
      | inl h ↦ rw h (unfold has_cell in taken-cell z.k (omega arith) c)
      | inr h ↦ rw h (elim (split (has_cell l z salt key c)) [
        | inl q ↦ absurd (omega (arith, has_within l z lays r salt key c q, ltb-false c (table_cells l z) h))
        | inr q ↦ rw q
      ])
    ])

-- ---- the packet of a key
module _ (l : Layout) (z : Sizes) (salt : ℕ) (key filter cells : List ℕ) (taken : is_taken (offer_key l z salt key filter cells) ≡ true) where
  not_full : is_full l z salt (is_new z salt filter key) key cells ≡ false
  not_full = elim (split (is_full l z salt (is_new z salt filter key) key cells)) [
    | inl h ↦ clash taken (unfold is_taken offer_key in rw h)
    | inr h ↦ h
  ]

  -- what is left where it is taken
  pub filter-after : (offer_key l z salt key filter cells).filter ≡ cond (is_new z salt filter key) (with_flow z salt filter key) filter
  unfolding offer_key
  filter-after = rw not_full

  pub cells-after : (offer_key l z salt key filter cells).cells ≡ take_in l z salt (is_new z salt filter key) key cells
  unfolding offer_key
  cells-after = rw not_full

  -- Theorem: a packet taken is the theory's packet, in the table that the bytes are
  pub packet-taken : Lays l → Ranged z → length key ≡ l.key → length cells ≡ cell_bytes l z → Bytes cells
      → table_of l z (offer_key l z salt key filter cells).cells ≡ take_packet (placement_of l z salt) (is_new z salt filter key) key (table_of l z cells)
  packet-taken lays r sized room bytes =
      let new = is_new z salt filter key in
      ap (table_of l z) cells-after
      ∙ table_taken l z lays r salt key sized new cells room
      (λ i h. has_room l new cells (cell_of l z salt key i) bytes
      (any_none z.k (λ j. full_at l new cells (cell_of l z salt key j)) (unfold is_full in not_full) i h))

-- a key offered and refused keeps the memory
pub offer-keeps : (l : Layout) (z : Sizes) (salt : ℕ) (key : List ℕ) (m : Memory)
    → is_taken (offer_key l z salt key m.filter m.cells) ≡ false → leaves (offer_key l z salt key m.filter m.cells) ≡ m
unfolding offer_key is_taken
offer-keeps l z salt key m h = elim (split (is_full l z salt (is_new z salt m.filter key) key m.cells)) [
  | inl f ↦ rw f
  | inr f ↦ clash refl (rw f at h)
]
