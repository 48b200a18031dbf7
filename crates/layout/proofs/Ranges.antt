-- The test of the ranges and the facts are one; the sizes' products are small; 01's own layout is one.
use mathlib.Core.Path.{◌≡◌, sym, ◌∙◌}
use mathlib.Core.Bool.{true, false, ◌&&◌}
use Prim.Native.Nat.{ℕ, ◌+◌, ◌*◌, ◌≤◌, ◌<◌, ◌/◌}
use native.Mathlib.Nat.{mul-le-mul}
use native.Mathlib.Omega.{arith}
use borrow.Author.Tests.{leb-true, le-leb}
use lib.Dec.{leb}
use Rattle.std.specs.Prelude.{Option, Some, None, Result, Ok, Err, IfSome, is_some}
use Rattle.std.specs.Option.{ok_or}
use Rattle.laws.proofs.Bools.{and_l, and_r}
use Rattle.layout.specs.declared.Layout.{Layout}
use Rattle.layout.specs.declared.Sizes.{Sizes}
use Rattle.layout.specs.declared.Shape.{Shape}
use Rattle.layout.specs.Sizes.{between, in_range, Ranged, ipv4_layout, Lays, part_cells, table_cells, cell_bytes, filter_bytes, filter_bits, blocks}

pub between-true : (low n high : ℕ) → between low n high ≡ true → (low ≤ n) × (n ≤ high)
between-true low n high p =
    (leb-true low n (and_l (leb low n) (leb n high) p), leb-true n high (and_r (leb low n) (leb n high) p))

-- what the test says is what the facts say
pub ranged : (z : Sizes) → in_range z ≡ true → Ranged z
unfolding in_range
ranged z p =
    let a = between 1 z.kf 8 in
    let b = between 1 z.f 16 in
    let c = between 2 z.k 4 in
    let d = between 1 z.q 16 in
    let after-a = and_r a (b && (c && d)) p in
    let after-b = and_r b (c && d) after-a in
    let kf = between-true 1 z.kf 8 (and_l a (b && (c && d)) p) in
    let f = between-true 1 z.f 16 (and_l b (c && d) after-a) in
    let k = between-true 2 z.k 4 (and_l c d after-b) in
    let q = between-true 1 z.q 16 (and_r c d after-b) in
    record {
      kf-low = kf.0;
      kf-high = kf.1;
      f-low = f.0;
      f-high = f.1;
      k-low = k.0;
      k-high = k.1;
      q-low = q.0;
      q-high = q.1;
    }

pub range-test : (z : Sizes) → Ranged z → in_range z ≡ true
unfolding in_range
range-test z r =
    rw (
      le-leb 1 z.kf r.kf-low,
      le-leb z.kf 8 r.kf-high,
      le-leb 1 z.f r.f-low,
      le-leb z.f 16 r.f-high,
      le-leb 2 z.k r.k-low,
      le-leb z.k 4 r.k-high,
      le-leb 1 z.q r.q-low,
      le-leb z.q 16 r.q-high,
    )

pub lays-ipv4 : Lays ipv4_layout
lays-ipv4 = record { key_fits = omega arith; some-cell = omega arith; most-cells = omega arith; payload-fits = omega arith }

module _ (l : Layout) (z : Sizes) (lays : Lays l) (r : Ranged z) where
  pub part_low : 1 ≤ part_cells l z
  unfolding part_cells
  part_low = let p = mul-le-mul {n₁ = 1} {m₁ = 1} lays.some-cell r.q-low in omega arith

  pub part-high : part_cells l z ≤ 384
  unfolding part_cells
  part-high = let p = mul-le-mul {n₂ = 24} {m₂ = 16} lays.most-cells r.q-high in omega arith

  pub table-low : 1 ≤ table_cells l z
  unfolding table_cells
  table-low = let p = mul-le-mul {n₁ = 1} {m₁ = 1} (let q : 1 ≤ z.k = omega (arith, r.k-low) in q) part_low in omega arith

  pub table-high : table_cells l z ≤ 1536
  unfolding table_cells
  table-high = let p = mul-le-mul {n₂ = 4} {m₂ = 384} r.k-high part-high in omega arith

  pub cell-high : l.cell ≤ 480
  cell-high = let p = mul-le-mul {n₁ = 1} {m₁ = l.cell} {m₂ = l.cell} lays.some-cell (omega arith) in omega (arith, lays.payload-fits)

  pub cell-bytes-high : cell_bytes l z ≤ 737280
  unfolding cell_bytes
  cell-bytes-high = let p = mul-le-mul {n₂ = 1536} {m₂ = 480} table-high cell-high in omega arith

  -- part i lies in the table
  pub part-within : (i : ℕ) → i < z.k → i * part_cells l z + part_cells l z ≤ table_cells l z
  unfolding table_cells
  part-within i h =
      let p = mul-le-mul {n₁ = i + 1} {m₁ = part_cells l z} {n₂ = z.k} {m₂ = part_cells l z} (omega arith) (omega arith) in
      omega (arith, native.Mathlib.Nat.add-mul i 1 (part_cells l z))

pub filter-high : (z : Sizes) → Ranged z → filter_bits z ≤ 61440
unfolding filter_bits
filter-high z r = omega arith

pub filter-low : (z : Sizes) → Ranged z → 1 ≤ filter_bits z
unfolding filter_bits
filter-low z r = omega arith

-- a filter bit lies in the filter's bytes
pub bit-within : (z : Sizes) (n : ℕ) → n < filter_bits z → n / 8 < filter_bytes z
unfolding filter_bits filter_bytes
bit-within z n h = omega arith

pub blocks-high : (z : Sizes) → Ranged z → blocks z ≤ 80
unfolding blocks
blocks-high z r = let p = mul-le-mul {n₂ = 4} {m₂ = 16} r.k-high r.q-high in omega arith

-- ---- a shape that is made, or is not: `Shape::new(l, z).ok_or(e)?`
pub shape-made : {E : Type 0} (l : Layout) (z : Sizes) (o : Option Shape) (e : E) {r : Result Shape E} {s : Shape} → r ≡ ok_or o e → is_some o ≡ in_range z
    → IfSome o (λ s. (s.layout ≡ l) × (s.sizes ≡ z)) → r ≡ Ok s → (in_range z ≡ true) × (s.layout ≡ l) × (s.sizes ≡ z)
shape-made {E} l z o e {r} {s} made test parts p = go o (sym made ∙ p) test parts
  where
    go : (o : Option Shape) → ok_or o e ≡ Ok s → is_some o ≡ in_range z → IfSome o (λ s. (s.layout ≡ l) × (s.sizes ≡ z))
        → (in_range z ≡ true) × (s.layout ≡ l) × (s.sizes ≡ z)
    go (Some x) q t h = let f : x ≡ s = cc in (sym t, rw (← f) h.0, rw (← f) h.1)
    go None q t h = cc

pub shape-refused : {E : Type 0} (z : Sizes) (o : Option Shape) (e : E) {r : Result Shape E} {f : E} → r ≡ ok_or o e → is_some o ≡ in_range z → r ≡ Err f
    → (in_range z ≡ false) × (e ≡ f)
shape-refused {E} z o e {r} {f} made test p = go o (sym made ∙ p) test
  where
    go : (o : Option Shape) → ok_or o e ≡ Err f → is_some o ≡ in_range z → (in_range z ≡ false) × (e ≡ f)
    go (Some x) q t = cc
    go None q t = (sym t, cc)
