-- The place after a session's part, in numbers: none of its sums leaves its type.
use native.Mathlib.Nat.{mul-le-mul}
use native.Mathlib.Omega.{arith}
use Prim.Native.Nat.{ℕ, ◌+◌, ◌*◌, ◌/◌, ◌≤◌}
use mathlib.Core.Path.{◌≡◌}
use Rattle.layout.specs.declared.Layout.{Layout}
use Rattle.layout.specs.declared.Sizes.{Sizes}
use Rattle.layout.specs.Sizes.{Lays, Ranged, table_cells}
use Rattle.layout.proofs.Ranges.{table-high, cell-high}
use Rattle.parts.specs.declared.Place.{Place}
use Rattle.parts.specs.Places.{Near}

pub record Sums (l : Layout) (p : Place) (n : ℕ) : Type 0 where
  pub few : n ≤ 1536
  pub cells : p.cells + n ≤ 12288
  pub bytes : n * l.key ≤ 737280
  pub xors : p.xors + n * l.key ≤ 5898240
  pub words : p.words + (n + 63) / 64 ≤ 192
  pub records : p.records + 2 * n ≤ 24576
  pub more : 2 * n * l.key ≤ 1474560
  pub keys : p.keys + 2 * n * l.key ≤ 11796480

pub sums : {l : Layout} {z : Sizes} {p : Place} {n : ℕ} → Lays l → Ranged z → Near p → n ≡ table_cells l z → Sums l p n
sums {l = l} {z = z} {p = p} {n = n} lays ranged near e =
    let few : n ≤ 1536 = omega (arith, table-high l z lays ranged, e) in
    let key : l.key ≤ 480 = omega (arith, cell-high l z lays ranged, lays.key_fits) in
    let bytes : n * l.key ≤ 737280 = mul-le-mul {n₁ = n} {m₁ = l.key} {n₂ = 1536} {m₂ = 480} few key in
    let more : 2 * n * l.key ≤ 1474560 = mul-le-mul {n₁ = 2 * n} {m₁ = l.key} {n₂ = 3072} {m₂ = 480} (omega (arith, few)) key in
    record {
      few = few;
      cells = omega (arith, few, near.cells-near);
      bytes = bytes;
      xors = omega (arith, bytes, near.xors-near);
      words = omega (arith, few, near.words-near);
      records = omega (arith, few, near.records-near);
      more = more;
      keys = omega (arith, more, near.keys-near);
    }
