-- The lengths as facts, and each way out of the tests.
use mathlib.Core.Path.{◌≡◌}
use mathlib.Core.Bool.{true, false, ◌&&◌}
use Prim.Native.Nat.{ℕ, ◌*◌, ◌≤◌}
use native.Mathlib.Nat.{mul-le-mul}
use native.Mathlib.Omega.{arith}
use borrow.Author.Tests.{eq-eqb, eqb-true}
use lib.Dec.{eqb}
use lib.ListN.{length}
use Rattle.laws.proofs.Bools.{and_l, and_r}
use Rattle.layout.specs.declared.Layout.{Layout}
use Rattle.layout.specs.declared.Sizes.{Sizes}
use Rattle.layout.specs.Sizes.{Lays, Ranged, in_range, table_cells, filter_bytes}
use Rattle.layout.proofs.Ranges.{cell-high}
use Rattle.list.specs.Records.{Records, Room}
use Rattle.marks.specs.Marks.{words_for}
use Rattle.table.specs.Table.{Tab, Fit}
use Rattle.test8.specs.Test8.{is_session}
use Rattle.room.specs.declared.Session.{Session}
use Rattle.room.specs.Memory.{Memory, Rooms, table_fits, list_fits, room_fits}
use Rattle.room.specs.Test.{tested}

module _ (l : Layout) (z : Sizes) (lays : Lays l) (r : Ranged z) where
  -- keys of so many flows are few bytes
  pub keys-high : (n : ℕ) → n ≤ 3072 → n * l.key ≤ 1474560
  keys-high n h =
      let p = mul-le-mul {n₂ = 3072} {m₂ = 480} h (let q : l.key ≤ 480 = omega (arith, lays.key_fits, cell-high l z lays r) in q) in omega arith

  -- lengths that pass the test are the layout's
  pub table-told : (t : Tab) → table_fits l z t ≡ true → Fit l z t
  unfolding table_fits
  table-told t h =
      let n = table_cells l z in
      let a = eqb (length t.xors) (n * l.key) in
      let b = eqb (length t.flows) n in
      let c = eqb (length t.unknowns) n in
      let d = eqb (length t.positions) n in
      let e = eqb (length t.marks) (words_for n) in
      let h₁ = and_r a (b && (c && (d && e))) h in
      let h₂ = and_r b (c && (d && e)) h₁ in
      let h₃ = and_r c (d && e) h₂ in
      record {
        lays = lays;
        ranged = r;
        xors-fit = eqb-true (length t.xors) (n * l.key) (and_l a (b && (c && (d && e))) h);
        flows-fit = eqb-true (length t.flows) n (and_l b (c && (d && e)) h₁);
        unknowns-fit = eqb-true (length t.unknowns) n (and_l c (d && e) h₂);
        positions-fit = eqb-true (length t.positions) n (and_l d e h₃);
        marks-fit = eqb-true (length t.marks) (words_for n) (and_r d e h₃);
      }

  pub list-told : (rs : Records) → list_fits l z rs ≡ true → Room l (2 * table_cells l z) rs
  unfolding list_fits
  list-told rs h =
      let n = 2 * table_cells l z in
      let a = eqb (length rs.keys) (n * l.key) in
      let b = eqb (length rs.counts) n in
      let c = eqb (length rs.flags) n in
      let h₁ = and_r a (b && c) h in
      record {
        keys-fit = eqb-true (length rs.keys) (n * l.key) (and_l a (b && c) h);
        counts-fit = eqb-true (length rs.counts) n (and_l b c h₁);
        flags-fit = eqb-true (length rs.flags) n (and_r b c h₁);
      }

  pub rooms-told : (m : Memory) → room_fits l z m ≡ true → Rooms l z m
  unfolding room_fits
  rooms-told m h =
      let a = eqb (length m.filter) (filter_bytes z) in
      let b = eqb (length m.packets) (table_cells l z) in
      let c = table_fits l z m.table in
      let d = list_fits l z m.list in
      let h₁ = and_r a (b && (c && d)) h in
      let h₂ = and_r b (c && d) h₁ in
      record {
        filter-fits = eqb-true (length m.filter) (filter_bytes z) (and_l a (b && (c && d)) h);
        packets-fit = eqb-true (length m.packets) (table_cells l z) (and_l b (c && d) h₁);
        table = table-told m.table (and_l c d h₂);
        room = list-told m.list (and_r c d h₂);
      }

  -- lengths that are the layout's pass the test
  pub table-asked : (t : Tab) → Fit l z t → table_fits l z t ≡ true
  unfolding table_fits
  table-asked t f =
      let n = table_cells l z in
      rw (
        eq-eqb (length t.xors) (n * l.key) f.xors-fit,
        eq-eqb (length t.flows) n f.flows-fit,
        eq-eqb (length t.unknowns) n f.unknowns-fit,
        eq-eqb (length t.positions) n f.positions-fit,
        eq-eqb (length t.marks) (words_for n) f.marks-fit,
      )

  pub list-asked : (rs : Records) → Room l (2 * table_cells l z) rs → list_fits l z rs ≡ true
  unfolding list_fits
  list-asked rs f =
      let n = 2 * table_cells l z in
      rw (
        eq-eqb (length rs.keys) (n * l.key) f.keys-fit,
        eq-eqb (length rs.counts) n f.counts-fit,
        eq-eqb (length rs.flags) n f.flags-fit,
      )

  pub rooms-asked : (m : Memory) → Rooms l z m → room_fits l z m ≡ true
  unfolding room_fits
  rooms-asked m f = rw (
    eq-eqb (length m.filter) (filter_bytes z) f.filter-fits,
    eq-eqb (length m.packets) (table_cells l z) f.packets-fit,
    table-asked m.table f.table,
    list-asked m.list f.room,
  )

-- ---- the test of every call on a session: each way it goes
module _ {A : Type 0} (l : Layout) (s : Session) (m : Memory) (notSession badRoom passed : A) where
  pub tested-sizes : in_range s.sizes ≡ false → tested l s m notSession badRoom passed ≡ notSession
  unfolding tested
  tested-sizes e = rw e

  pub tested-room : in_range s.sizes ≡ true → room_fits l s.sizes m ≡ false → tested l s m notSession badRoom passed ≡ badRoom
  unfolding tested
  tested-room e f = rw (e, f)

  pub tested-rest : in_range s.sizes ≡ true → room_fits l s.sizes m ≡ true
      → is_session l s.sizes s.salt s.listed m.table m.list ≡ false → tested l s m notSession badRoom passed ≡ notSession
  unfolding tested
  tested-rest e f g = rw (e, f, g)

  pub tested-passed : in_range s.sizes ≡ true → room_fits l s.sizes m ≡ true
      → is_session l s.sizes s.salt s.listed m.table m.list ≡ true → tested l s m notSession badRoom passed ≡ passed
  unfolding tested
  tested-passed e f g = rw (e, f, g)
