-- The room that is lent for two sessions: its lengths as facts, and the room of each in it.
use mathlib.Core.Path.{◌≡◌, ap₂, ◌∙◌}
use mathlib.Core.Bool.{true, ◌&&◌}
use mathlib.Core.List.{List}
use Prim.Native.Nat.{ℕ, ◌+◌, ◌^◌}
use native.Mathlib.Omega.{arith}
use borrow.Author.Tests.{eq-eqb, eqb-true}
use lib.Dec.{eqb}
use lib.ListN.{length, length-drop, length-append}
use lib.Pow.{pow_pos}
use lib.Seq.{length-take-le, take_at, drop_at}
use Rattle.laws.proofs.Bools.{and_l, and_r}
use Rattle.laws.proofs.Lists.{below-take, below-drop}
use Rattle.layout.specs.declared.Layout.{Layout}
use Rattle.layout.specs.declared.Sizes.{Sizes}
use Rattle.layout.specs.Sizes.{Lays, Ranged}
use Rattle.marks.specs.Marks.{Words}
use Rattle.list.specs.Records.{Records}
use Rattle.table.specs.Table.{Tab}
use Rattle.room.specs.Memory.{Memory, Rooms}
use Rattle.parts.specs.declared.Place.{Place}
use Rattle.parts.specs.Places.{place_after}
use Rattle.rounds.specs.Joined.{seam, room_end, joined_table, joined_list}
use Rattle.exchange.specs.Exchange.{areas_fit, room_a, room_b, joined}

-- areas of the lengths that a place gives
pub record Full (e : Place) (t : Tab) (packets : List ℕ) (rs : Records) : Type 0 where
  pub xors-full : length t.xors ≡ e.xors
  pub flows-full : length t.flows ≡ e.cells
  pub unknowns-full : length t.unknowns ≡ e.cells
  pub positions-full : length t.positions ≡ e.cells
  pub marks-full : length t.marks ≡ e.words
  pub packets-full : length packets ≡ e.cells
  pub keys-full : length rs.keys ≡ e.keys
  pub counts-full : length rs.counts ≡ e.records
  pub flags_full : length rs.flags ≡ e.records

-- every list ends at the place e
pub record FullRoom (e : Place) (m : Memory) : Type 0 where
  pub filter-full : length m.filter ≡ e.filter
  pub full : Full e m.table m.packets m.list

-- ---- the test of the lengths
module _ (e : Place) (m : Memory) where
  pub areas-full : areas_fit e m ≡ true → FullRoom e m
  unfolding areas_fit
  areas-full h =
      let filter = eqb (length m.filter) e.filter in
      let packets = eqb (length m.packets) e.cells in
      let xors = eqb (length m.table.xors) e.xors in
      let flows = eqb (length m.table.flows) e.cells in
      let unknowns = eqb (length m.table.unknowns) e.cells in
      let positions = eqb (length m.table.positions) e.cells in
      let marks = eqb (length m.table.marks) e.words in
      let keys = eqb (length m.list.keys) e.keys in
      let counts = eqb (length m.list.counts) e.records in
      let flags = eqb (length m.list.flags) e.records in
      let from-counts = counts && flags in
      let from-keys = keys && from-counts in
      let from-marks = marks && from-keys in
      let from-positions = positions && from-marks in
      let from-unknowns = unknowns && from-positions in
      let from-flows = flows && from-unknowns in
      let from-xors = xors && from-flows in
      let from-packets = packets && from-xors in
      let h₁ = and_r filter from-packets h in
      let h₂ = and_r packets from-xors h₁ in
      let h₃ = and_r xors from-flows h₂ in
      let h₄ = and_r flows from-unknowns h₃ in
      let h₅ = and_r unknowns from-positions h₄ in
      let h₆ = and_r positions from-marks h₅ in
      let h₇ = and_r marks from-keys h₆ in
      let h₈ = and_r keys from-counts h₇ in
      record {
        filter-full = eqb-true (length m.filter) e.filter (and_l filter from-packets h);
        full = record {
          packets-full = eqb-true (length m.packets) e.cells (and_l packets from-xors h₁);
          xors-full = eqb-true (length m.table.xors) e.xors (and_l xors from-flows h₂);
          flows-full = eqb-true (length m.table.flows) e.cells (and_l flows from-unknowns h₃);
          unknowns-full = eqb-true (length m.table.unknowns) e.cells (and_l unknowns from-positions h₄);
          positions-full = eqb-true (length m.table.positions) e.cells (and_l positions from-marks h₅);
          marks-full = eqb-true (length m.table.marks) e.words (and_l marks from-keys h₆);
          keys-full = eqb-true (length m.list.keys) e.keys (and_l keys from-counts h₇);
          counts-full = eqb-true (length m.list.counts) e.records (and_l counts flags h₈);
          flags_full = eqb-true (length m.list.flags) e.records (and_r counts flags h₈);
        };
      }

  pub full-areas : FullRoom e m → areas_fit e m ≡ true
  unfolding areas_fit
  full-areas f = rw (
    eq-eqb (length m.filter) e.filter f.filter-full,
    eq-eqb (length m.packets) e.cells f.full.packets-full,
    eq-eqb (length m.table.xors) e.xors f.full.xors-full,
    eq-eqb (length m.table.flows) e.cells f.full.flows-full,
    eq-eqb (length m.table.unknowns) e.cells f.full.unknowns-full,
    eq-eqb (length m.table.positions) e.cells f.full.positions-full,
    eq-eqb (length m.table.marks) e.words f.full.marks-full,
    eq-eqb (length m.list.keys) e.keys f.full.keys-full,
    eq-eqb (length m.list.counts) e.records f.full.counts-full,
    eq-eqb (length m.list.flags) e.records f.full.flags_full,
  )

-- ---- one session: room's lengths are those up to the seam
module _ (l : Layout) (z : Sizes) (m : Memory) where
  pub rooms-full : Rooms l z m → FullRoom (seam l z) m
  unfolding place_after
  rooms-full r = record {
    filter-full = r.filter-fits ∙ omega arith;
    full = record {
      packets-full = r.packets-fit ∙ omega arith;
      xors-full = r.table.xors-fit ∙ omega arith;
      flows-full = r.table.flows-fit ∙ omega arith;
      unknowns-full = r.table.unknowns-fit ∙ omega arith;
      positions-full = r.table.positions-fit ∙ omega arith;
      marks-full = r.table.marks-fit ∙ omega arith;
      keys-full = r.room.keys-fit ∙ omega arith;
      counts-full = r.room.counts-fit ∙ omega arith;
      flags_full = r.room.flags-fit ∙ omega arith;
    };
  }

  full-rooms : Lays l → Ranged z → FullRoom (seam l z) m → Rooms l z m
  unfolding place_after
  full-rooms lays ranged f = record {
    filter-fits = f.filter-full ∙ omega arith;
    packets-fit = f.full.packets-full ∙ omega arith;
    table = record {
      lays = lays;
      ranged = ranged;
      xors-fit = f.full.xors-full ∙ omega arith;
      flows-fit = f.full.flows-full ∙ omega arith;
      unknowns-fit = f.full.unknowns-full ∙ omega arith;
      positions-fit = f.full.positions-full ∙ omega arith;
      marks-fit = f.full.marks-full ∙ omega arith;
    };
    room = record {
      keys-fit = f.full.keys-full ∙ omega arith;
      counts-fit = f.full.counts-full ∙ omega arith;
      flags-fit = f.full.flags_full ∙ omega arith;
    };
  }

-- ---- both sessions: A's room ends at p, and B's comes after it
module _ (l : Layout) (z : Sizes) (p : Place) (m : Memory) (f : FullRoom (place_after l z p) m) where
  full-a : FullRoom p (room_a p m)
  unfolding place_after room_a
  full-a = record {
    filter-full = length-take-le p.filter m.filter (omega (arith, f.filter-full));
    full = record {
      packets-full = length-take-le p.cells m.packets (omega (arith, f.full.packets-full));
      xors-full = length-take-le p.xors m.table.xors (omega (arith, f.full.xors-full));
      flows-full = length-take-le p.cells m.table.flows (omega (arith, f.full.flows-full));
      unknowns-full = length-take-le p.cells m.table.unknowns (omega (arith, f.full.unknowns-full));
      positions-full = length-take-le p.cells m.table.positions (omega (arith, f.full.positions-full));
      marks-full = length-take-le p.words m.table.marks (omega (arith, f.full.marks-full));
      keys-full = length-take-le p.keys m.list.keys (omega (arith, f.full.keys-full));
      counts-full = length-take-le p.records m.list.counts (omega (arith, f.full.counts-full));
      flags_full = length-take-le p.records m.list.flags (omega (arith, f.full.flags_full));
    };
  }

  rooms-b : Lays l → Ranged z → Rooms l z (room_b p m)
  unfolding place_after room_b
  rooms-b lays ranged = record {
    filter-fits = length-drop p.filter m.filter ∙ omega (arith, f.filter-full);
    packets-fit = length-drop p.cells m.packets ∙ omega (arith, f.full.packets-full);
    table = record {
      lays = lays;
      ranged = ranged;
      xors-fit = length-drop p.xors m.table.xors ∙ omega (arith, f.full.xors-full);
      flows-fit = length-drop p.cells m.table.flows ∙ omega (arith, f.full.flows-full);
      unknowns-fit = length-drop p.cells m.table.unknowns ∙ omega (arith, f.full.unknowns-full);
      positions-fit = length-drop p.cells m.table.positions ∙ omega (arith, f.full.positions-full);
      marks-fit = length-drop p.words m.table.marks ∙ omega (arith, f.full.marks-full);
    };
    room = record {
      keys-fit = length-drop p.keys m.list.keys ∙ omega (arith, f.full.keys-full);
      counts-fit = length-drop p.records m.list.counts ∙ omega (arith, f.full.counts-full);
      flags-fit = length-drop p.records m.list.flags ∙ omega (arith, f.full.flags_full);
    };
  }

-- Theorem: lengths that pass the test are room's for each session
pub areas-rooms : (l : Layout) (y z : Sizes) (m : Memory) → Lays l → Ranged y → Ranged z → areas_fit (room_end l y z) m ≡ true
    → Rooms l y (room_a (seam l y) m) × Rooms l z (room_b (seam l y) m)
areas-rooms l y z m lays ranged-y ranged-z h =
    let f = areas-full (room_end l y z) m h in
    (full-rooms l y (room_a (seam l y) m) lays ranged-y (full-a l z (seam l y) m f), rooms-b l z (seam l y) m f lays ranged-z)

-- ---- the rooms of two sessions joined
full-joined : (l : Layout) (z : Sizes) (p : Place) (a b : Memory) → FullRoom p a → Rooms l z b → FullRoom (place_after l z p) (joined a b)
unfolding place_after joined joined_table joined_list
full-joined l z p a b f r = record {
  filter-full = length-append a.filter b.filter ∙ ap₂ ◌+◌ f.filter-full r.filter-fits;
  full = record {
    packets-full = length-append a.packets b.packets ∙ ap₂ ◌+◌ f.full.packets-full r.packets-fit;
    xors-full = length-append a.table.xors b.table.xors ∙ ap₂ ◌+◌ f.full.xors-full r.table.xors-fit;
    flows-full = length-append a.table.flows b.table.flows ∙ ap₂ ◌+◌ f.full.flows-full r.table.flows-fit;
    unknowns-full = length-append a.table.unknowns b.table.unknowns ∙ ap₂ ◌+◌ f.full.unknowns-full r.table.unknowns-fit;
    positions-full = length-append a.table.positions b.table.positions ∙ ap₂ ◌+◌ f.full.positions-full r.table.positions-fit;
    marks-full = length-append a.table.marks b.table.marks ∙ ap₂ ◌+◌ f.full.marks-full r.table.marks-fit;
    keys-full = length-append a.list.keys b.list.keys ∙ ap₂ ◌+◌ f.full.keys-full r.room.keys-fit;
    counts-full = length-append a.list.counts b.list.counts ∙ ap₂ ◌+◌ f.full.counts-full r.room.counts-fit;
    flags_full = length-append a.list.flags b.list.flags ∙ ap₂ ◌+◌ f.full.flags_full r.room.flags-fit;
  };
}

full-joined-a : (p : Place) (a b : Memory) → FullRoom p a → room_a p (joined a b) ≡ a
unfolding room_a joined joined_table joined_list
full-joined-a p a b f = λ i. record {
  filter = take_at a.filter b.filter p.filter f.filter-full i;
  table = record {
    xors = take_at a.table.xors b.table.xors p.xors f.full.xors-full i;
    flows = take_at a.table.flows b.table.flows p.cells f.full.flows-full i;
    unknowns = take_at a.table.unknowns b.table.unknowns p.cells f.full.unknowns-full i;
    positions = take_at a.table.positions b.table.positions p.cells f.full.positions-full i;
    marks = take_at a.table.marks b.table.marks p.words f.full.marks-full i;
  };
  packets = take_at a.packets b.packets p.cells f.full.packets-full i;
  list = record {
    keys = take_at a.list.keys b.list.keys p.keys f.full.keys-full i;
    counts = take_at a.list.counts b.list.counts p.records f.full.counts-full i;
    flags = take_at a.list.flags b.list.flags p.records f.full.flags_full i;
  };
}

full-joined-b : (p : Place) (a b : Memory) → FullRoom p a → room_b p (joined a b) ≡ b
unfolding room_b joined joined_table joined_list
full-joined-b p a b f = λ i. record {
  filter = drop_at a.filter b.filter p.filter f.filter-full i;
  table = record {
    xors = drop_at a.table.xors b.table.xors p.xors f.full.xors-full i;
    flows = drop_at a.table.flows b.table.flows p.cells f.full.flows-full i;
    unknowns = drop_at a.table.unknowns b.table.unknowns p.cells f.full.unknowns-full i;
    positions = drop_at a.table.positions b.table.positions p.cells f.full.positions-full i;
    marks = drop_at a.table.marks b.table.marks p.words f.full.marks-full i;
  };
  packets = drop_at a.packets b.packets p.cells f.full.packets-full i;
  list = record {
    keys = drop_at a.list.keys b.list.keys p.keys f.full.keys-full i;
    counts = drop_at a.list.counts b.list.counts p.records f.full.counts-full i;
    flags = drop_at a.list.flags b.list.flags p.records f.full.flags_full i;
  };
}

module _ (l : Layout) (y : Sizes) (a b : Memory) (r : Rooms l y a) where
  -- Theorem: the rooms of two sessions, joined, pass the test
  pub joined-fits : (z : Sizes) → Rooms l z b → areas_fit (room_end l y z) (joined a b) ≡ true
  joined-fits z q = full-areas (room_end l y z) (joined a b) (full-joined l z (seam l y) a b (rooms-full l y a r) q)

  -- Theorem: and the room of each is found in them again
  pub joined-a : room_a (seam l y) (joined a b) ≡ a
  joined-a = full-joined-a (seam l y) a b (rooms-full l y a r)

  pub joined-b : room_b (seam l y) (joined a b) ≡ b
  joined-b = full-joined-b (seam l y) a b (rooms-full l y a r)

-- ---- the words of each are words of both
pub words-a : (p : Place) (m : Memory) → Words m.table.marks → Words (room_a p m).table.marks
unfolding room_a
words-a p m = below-take (2 ^ 64) p.words m.table.marks (pow_pos 64)

pub words-b : (p : Place) (m : Memory) → Words m.table.marks → Words (room_b p m).table.marks
unfolding room_b
words-b p m = below-drop (2 ^ 64) p.words m.table.marks
