-- Cells and their parts, the code's ways to a pure cell and to a key taken out, and the lengths that each step keeps.
use Rattle.std.proofs.Common.{◌≡◌, ℕ, ◌+◌, ◌-◌, ◌*◌, ◌%◌, ◌^◌, ◌<◌, Bool, false, eqb, List, length, get_or, set, refl, sym, ap, ◌∙◌, ap₂, mul-le-mul, arith, length-set, eq-eqb, ne_eqb, eqb-true}
use native.Mathlib.Decide.{dec_lt}
use lib.Bits.{bit_xor}
use lib.Seq.{length-sets}
use Rattle.laws.specs.Xor.{xor_bytes}
use Rattle.laws.specs.Upto.{each_upto, list_upto}
use Rattle.laws.proofs.Bools.{iff}
use Rattle.laws.proofs.Upto.{each_more, each_keeps, list_at, any_at}
use Rattle.fields.specs.Field.{xored_at}
use Rattle.layout.specs.declared.Layout.{Layout}
use Rattle.layout.specs.declared.Sizes.{Sizes}
use Rattle.layout.specs.Sizes.{Lays, Ranged, part_cells, table_cells}
use Rattle.layout.proofs.Ranges.{table-high}
use Rattle.hash.specs.Places.{cell_of, has_cell}
use Rattle.hash.proofs.Apart.{cell-in-part, cell-within, has-own, has_some}
use Rattle.list.specs.Records.{key_at}
use Rattle.marks.specs.Marks.{put_mark}
use Rattle.marks.proofs.Laws.{length-put}
use Rattle.table.specs.declared.Table.{Table}
use Rattle.table.specs.Table.{Tab, tab, TableKept, Fit, InPart, pure_at, any_empty, has_empty, mixed, one_less, taken_at, taken_out}
use Rattle.laws.proofs.Rows.{row_within}

-- ---- parts
module _ (l : Layout) (z : Sizes) (lays : Lays l) (r : Ranged z) where
  pub cell-part : (salt : ℕ) (key : List ℕ) (i : ℕ) → i < z.k → InPart l z i (cell_of l z salt key i)
  cell-part salt key i h =
      record { inside = cell-within l z lays r salt key i h; from = (cell-in-part l z lays r salt key i).0; to = (cell-in-part l z lays r salt key i).1 }

  -- a cell of the table lies in one of its k parts
  pub part-below : {i c : ℕ} → InPart l z i c → i < z.k
  unfolding table_cells
  part-below {i} p = elim (dec_lt i z.k) [
    | yes h ↦ h
    | no h ↦
        let q = mul-le-mul {n₁ = z.k} {m₁ = part_cells l z} {n₂ = i} {m₂ = part_cells l z} (omega arith) (omega arith) in
        absurd (omega (arith, p.inside, p.from))
  ]

  -- no cell lies in two parts
  one-part : {i j c : ℕ} → InPart l z i c → InPart l z j c → i < j → ⊥
  one-part {i} {j} p q h = omega (arith, row_within i j (part_cells l z) h)

  -- a key's only cell in part i is the one that hash i chooses
  pub has_here : (salt : ℕ) (key : List ℕ) {i c : ℕ} → InPart l z i c → has_cell l z salt key c ≡ eqb (cell_of l z salt key i) c
  has_here salt key {i} {c} p = iff (has_cell l z salt key c) (eqb (cell_of l z salt key i) c)
      (λ h.
      let s = has_some l z lays r salt key c h in
      let q : InPart l z s.0 c = rw s.2 at (cell-part salt key s.0 s.1) in
      let e : s.0 ≡ i = elim (dec_lt s.0 i) [
        | yes a ↦ absurd (one-part q p a)
        | no a ↦ elim (dec_lt i s.0) [ yes b ↦ absurd (one-part p q b) | no b ↦ omega arith ]
      ] in
      eq-eqb (cell_of l z salt key i) c (ap (cell_of l z salt key) (sym e) ∙ s.2))
      (λ h. ap (has_cell l z salt key) (sym (eqb-true (cell_of l z salt key i) c h)) ∙ has-own l z lays r salt key i (part-below p))

pub cell-few : (l : Layout) (z : Sizes) {t : Tab} {i c : ℕ} → Fit l z t → InPart l z i c → c < 1536
cell-few l z f p = omega (arith, p.inside, table-high l z f.lays f.ranged)

-- ---- a pure cell
pub pure-no : (l : Layout) (z : Sizes) (salt : ℕ) (xors flows : List ℕ) (c : ℕ) → (get_or flows c 0 ≡ 1 → ⊥) → false ≡ pure_at l z salt xors flows c
unfolding pure_at
pure-no l z salt xors flows c h = rw (ne_eqb (get_or flows c 0) 1 h)

pub pure-yes : (l : Layout) (z : Sizes) (lays : Lays l) (r : Ranged z) (salt : ℕ) (xors flows : List ℕ) {i c : ℕ} {b : Bool} → InPart l z i c
    → get_or flows c 0 ≡ 1
    → b ≡ eqb (cell_of l z salt (key_at l xors c) i) c → b ≡ pure_at l z salt xors flows c
unfolding pure_at
pure-yes l z lays r salt xors flows {c = c} p h e = rw (eq-eqb (get_or flows c 0) 1 h, has_here l z lays r salt (key_at l xors c) p) e

-- ---- a cell with FlowCount 0
pub empty-is : (l : Layout) (z : Sizes) (r : Ranged z) (salt : ℕ) (key flows : List ℕ) {at : List ℕ} → at ≡ list_upto 4 (cell_of l z salt key)
    → any_empty at z.k flows ≡ has_empty l z salt flows key
unfolding any_empty has_empty
empty-is l z r salt key flows e = any_at z.k (cell_of l z salt key) (λ c. eqb (get_or flows c 0) 0) r.k-high e

-- place i of a key is its cell in part i
pub place-part : (l : Layout) (z : Sizes) (lays : Lays l) (r : Ranged z) (salt : ℕ) (key : List ℕ) {at : List ℕ} → at ≡ list_upto 4
    (cell_of l z salt key)
    → (i : ℕ) → i < z.k → InPart l z i (get_or at i 0)
place-part l z lays r salt key e i h = rw (e, list_at 4 (cell_of l z salt key) 0 i (omega (arith, r.k-high))) (cell-part l z lays r salt key i h)

-- ---- the five slices that are lent
pub table-self : (t : Table) → TableKept t t
table-self t = (refl, refl, refl, refl, refl, refl, refl, refl, refl, refl)

pub table-on : (t u v : Table) → TableKept t u → TableKept u v → TableKept t v
table-on t u v k m =
    (k.0 ∙ m.0, k.1 ∙ m.1, k.2 ∙ m.2, k.3 ∙ m.3, k.4 ∙ m.4, k.5 ∙ m.5, k.6 ∙ m.6, k.7 ∙ m.7, k.8 ∙ m.8, k.9 ∙ m.9)

-- ---- a key taken out of one cell
pub key-mixed : (l : Layout) (xors : List ℕ) (c : ℕ) (key : List ℕ) → length key ≡ l.key → xored_at xors (c * l.key) key ≡ mixed l xors c key
unfolding xored_at mixed key_at
key-mixed l xors c key e = rw e

pub length-mixed : (l : Layout) (xors : List ℕ) (c : ℕ) (key : List ℕ) → length (mixed l xors c key) ≡ length xors
unfolding mixed
length-mixed l xors c key = length-sets xors (c * l.key) (xor_bytes (key_at l xors c) key)

module _ (l : Layout) (z : Sizes) (salt : ℕ) (key : List ℕ) (position : ℕ) where
  -- what the code's stores leave is that
  pub taken_is : (c : ℕ) (t : Tab) {xors marks : List ℕ} {f u : ℕ} {pure : Bool} → xors ≡ mixed l t.xors c key → f ≡ get_or t.flows c 0 - 1
      → u ≡ (get_or t.unknowns c 0 + 1) % 2 ^ 16 → pure ≡ pure_at l z salt xors (set t.flows c f) c → marks ≡ put_mark t.marks c pure
      → tab xors (set t.flows c f) (set t.unknowns c u) (set t.positions c (bit_xor (get_or t.positions c 0) position)) marks
      ≡ taken_at l z salt key position c t
  unfolding taken_at
  taken_is c t e₁ e₂ e₃ e₄ e₅ = cc

  pub fit_at : (c : ℕ) (t : Tab) → Fit l z t → Fit l z (taken_at l z salt key position c t)
  unfolding taken_at
  fit_at c t f = record {
    lays = f.lays;
    ranged = f.ranged;
    xors-fit = length-mixed l t.xors c key ∙ f.xors-fit;
    flows-fit = length-set t.flows c (get_or t.flows c 0 - 1) ∙ f.flows-fit;
    unknowns-fit = length-set t.unknowns c ((get_or t.unknowns c 0 + 1) % 2 ^ 16) ∙ f.unknowns-fit;
    positions-fit = length-set t.positions c (bit_xor (get_or t.positions c 0) position) ∙ f.positions-fit;
    marks-fit = length-put t.marks c (pure_at l z salt (mixed l t.xors c key) (one_less t.flows c) c) ∙ f.marks-fit;
  }

  -- the first m of its cells
  abbrev pub taken_upto : ℕ → Tab → Tab
  taken_upto m t = each_upto m (λ i. taken_at l z salt key position (cell_of l z salt key i)) t

  pub taken-turn : (i : ℕ) (t : Tab) {u v : Tab} {at : List ℕ} → i < 4 → at ≡ list_upto 4 (cell_of l z salt key) → u ≡ taken_upto i t
      → v ≡ taken_at l z salt key position (get_or at i 0) u → v ≡ taken_upto (i + 1) t
  taken-turn i t h q e f =
      f ∙ ap₂ (taken_at l z salt key position) (rw q (list_at 4 (cell_of l z salt key) 0 i h)) e
      ∙ sym (each_more i (λ j. taken_at l z salt key position (cell_of l z salt key j)) t)

  pub fit_next : (c : ℕ) {u v : Tab} → v ≡ taken_at l z salt key position c u → Fit l z u → Fit l z v
  fit_next c {u} e f = rw e (fit_at c u f)

  pub fit-out : (t : Tab) → Fit l z t → Fit l z (taken_out l z salt key position t)
  unfolding taken_out
  fit-out t f =
      each_keeps (Fit l z) z.k (λ i. taken_at l z salt key position (cell_of l z salt key i)) t f (λ i u h g. fit_at (cell_of l z salt key i) u g)
