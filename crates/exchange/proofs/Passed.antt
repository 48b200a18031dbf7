-- Two sessions that passed the tests: where they meet, and what is left of both joined.
use Rattle.std.proofs.Common.{◌≡◌, sym, ap, subst, ◌∙◌, List, ◌++◌, length, take, drop, ℕ, true, arith}
use lib.ListN.{take-append-drop}
use Rattle.hash.specs.declared.Placing.{Placing}
use Rattle.layout.specs.Sizes.{filter_bytes}
use Rattle.layout.specs.declared.Layout.{Layout}
use Rattle.layout.specs.declared.Sizes.{Sizes}
use Rattle.list.specs.Records.{records}
use Rattle.table.specs.Table.{tab}
use Rattle.room.specs.Memory.{Memory, memory}
use Rattle.parts.specs.declared.Place.{Place}
use Rattle.parts.specs.Places.{place_after, origin, Near}
use Rattle.parts.specs.declared.Part.{Part}
use Rattle.parts.specs.Sides.{Side, side, Stands}
use Rattle.parts.specs.Parts.{switch_in, side_in}
use Rattle.rounds.specs.Joined.{seam, room_end, joined_table, joined_list}
use Rattle.rounds.specs.Rounds.{pair, exchange_sides}
use Rattle.rounds.specs.Meets.{Meets}
use Rattle.exchange.specs.Exchange.{areas_fit, room_a, room_b, joined, room_left}
use Rattle.exchange.specs.Passed.{Reaches, meet, placed_by, first, second, Ready}
use Rattle.exchange.proofs.Rooms.{areas-full, areas-rooms}

-- the first session ends inside the areas
pub seam-reaches : (l : Layout) (y z : Sizes) (m : Memory) → areas_fit (room_end l y z) m ≡ true → Reaches (seam l y) m
unfolding place_after
seam-reaches l y z m h = let f = areas-full (room_end l y z) m h in record {
  filter-in = omega (arith, f.filter-full);
  xors-in = omega (arith, f.full.xors-full);
  flows-in = omega (arith, f.full.flows-full);
  unknowns-in = omega (arith, f.full.unknowns-full);
  positions-in = omega (arith, f.full.positions-full);
  marks-in = omega (arith, f.full.marks-full);
  packets-in = omega (arith, f.full.packets-full);
  keys_in = omega (arith, f.full.keys-full);
  counts-in = omega (arith, f.full.counts-full);
  flags-in = omega (arith, f.full.flags_full);
}

-- where the code finds the first session to end
pub seam-at : (l : Layout) (z : Sizes) {at o : Place} → at ≡ place_after l z o → o ≡ origin → at ≡ seam l z
seam-at l z h i = h ∙ ap (place_after l z) i

pub reached : (p q : Placing) {m : Memory} {at o : Place} → areas_fit (room_end p.shape.layout p.shape.sizes q.shape.sizes) m ≡ true
    → at ≡ place_after p.shape.layout p.shape.sizes o → o ≡ origin → Reaches at m
reached p q {m} f h i =
    let l = p.shape.layout in
    let y = p.shape.sizes in
    subst (λ k. Reaches k m) (sym (seam-at l y h i)) (seam-reaches l y q.shape.sizes m f)

-- what the two loans of each area end as, put together
pub put-together : {f x c u o k w d n g : List ℕ} (a b : Memory) (s t : Side)
    → f ≡ a.filter ++ b.filter → x ≡ s.table.xors ++ t.table.xors → c ≡ s.table.flows ++ t.table.flows → u ≡ s.table.unknowns ++ t.table.unknowns
    → o ≡ s.table.positions ++ t.table.positions → k ≡ s.table.marks ++ t.table.marks → w ≡ s.packets ++ t.packets
    → d ≡ s.list.keys ++ t.list.keys → n ≡ s.list.counts ++ t.list.counts → g ≡ s.list.flags ++ t.list.flags
    → memory f (tab x c u o k) w (records d n g) ≡ joined (room_left a s) (room_left b t)
unfolding joined joined_table joined_list
put-together a b s t f x c u o k w d n g = λ i. memory (f i) (tab (x i) (c i) (u i) (o i) (k i)) (w i) (records (d i) (n i) (g i))

pub near-origin : Near origin
near-origin = record {
  filter-near = omega arith;
  cells-near = omega arith;
  xors-near = omega arith;
  words-near = omega arith;
  records-near = omega arith;
  keys-near = omega arith;
}

-- ---- the halves of the areas are the two rooms
module _ (p : Placing) (at : Place) (is : at ≡ meet p) (r : Memory) where
  pub first-filter : {f : List ℕ} → f ≡ take at.filter r.filter → f ≡ (room_a (meet p) r).filter
  unfolding room_a
  first-filter h = h ∙ ap (λ (q : Place). take q.filter r.filter) is

  pub second-filter : {f : List ℕ} → f ≡ drop at.filter r.filter → f ≡ (room_b (meet p) r).filter
  unfolding room_b
  second-filter h = h ∙ ap (λ (q : Place). drop q.filter r.filter) is

  pub first-side : (n : ℕ) (seen : List ℕ) {x c u o k w d m g : List ℕ} → x ≡ take at.xors r.table.xors → c ≡ take at.cells r.table.flows
      → u ≡ take at.cells r.table.unknowns → o ≡ take at.cells r.table.positions → k ≡ take at.words r.table.marks → w ≡ take at.cells r.packets
      → d ≡ take at.keys r.list.keys → m ≡ take at.records r.list.counts → g ≡ take at.records r.list.flags
      → side n (tab x c u o k) w (records d m g) seen ≡ first p n r seen
  unfolding room_a
  first-side n seen x c u o k w d m g =
      (λ i. side n (tab (x i) (c i) (u i) (o i) (k i)) (w i) (records (d i) (m i) (g i)) seen)
      ∙ ap (λ (q : Place). side n (room_a q r).table (room_a q r).packets (room_a q r).list seen) is

  pub second-side : (n : ℕ) (seen : List ℕ) {x c u o k w d m g : List ℕ} → x ≡ drop at.xors r.table.xors → c ≡ drop at.cells r.table.flows
      → u ≡ drop at.cells r.table.unknowns → o ≡ drop at.cells r.table.positions → k ≡ drop at.words r.table.marks → w ≡ drop at.cells r.packets
      → d ≡ drop at.keys r.list.keys → m ≡ drop at.records r.list.counts → g ≡ drop at.records r.list.flags
      → side n (tab x c u o k) w (records d m g) seen ≡ second p n r seen
  unfolding room_b
  second-side n seen x c u o k w d m g =
      (λ i. side n (tab (x i) (c i) (u i) (o i) (k i)) (w i) (records (d i) (m i) (g i)) seen)
      ∙ ap (λ (q : Place). side n (room_b q r).table (room_b q r).packets (room_b q r).list seen) is

  -- the filter is put together again
  pub filters-are : r.filter ≡ (room_a (meet p) r).filter ++ (room_b (meet p) r).filter
  unfolding room_a room_b
  filters-are = sym (take-append-drop (meet p).filter r.filter)

-- ---- the two parts that the code makes
module _ (p q : Placing) (n m : ℕ) (r : Memory) (u v : List ℕ) where
  pub ready-meets : Ready p q n m r u v → (a b : Part) → a.placing ≡ p → b.placing ≡ q → a.filter.now ≡ (room_a (meet p) r).filter
      → b.filter.now ≡ (room_b (meet p) r).filter → side_in a ≡ first p n r u → side_in b ≡ second p m r v → Meets a b
  ready-meets h a b i j f g x y =
      let rooms = areas-rooms p.shape.layout p.shape.sizes q.shape.sizes r p.shape.lays p.shape.ranged q.shape.ranged h.fits in
      record {
        layout-is = ap (λ (z : Placing). z.shape.layout) j ∙ h.layout-is ∙ sym (ap (λ (z : Placing). z.shape.layout) i);
        filter-a = ap length f ∙ rooms.0.filter-fits ∙ ap (λ (z : Placing). filter_bytes z.shape.sizes) (sym i);
        filter-b = ap length g ∙ rooms.1.filter-fits ∙ ap (λ (z : Placing). filter_bytes z.shape.sizes) (sym j);
        stands-a =
            subst (λ (z : Placing). Stands z.shape.layout (placed_by z) (side_in a)) (sym i)
            (subst (Stands p.shape.layout (placed_by p)) (sym x) h.stands-a);
        stands_b =
            subst (λ (z : Placing). Stands z.shape.layout (switch_in b) (side_in b)) (sym i)
            (subst (λ (z : Placing). Stands p.shape.layout (placed_by z) (side_in b)) (sym j)
            (subst (Stands p.shape.layout (placed_by q)) (sym y) h.stands_b));
      }

  pub sides-are : {f g : List ℕ} {x y : Side} → f ≡ (room_a (meet p) r).filter → g ≡ (room_b (meet p) r).filter → x ≡ first p n r u
      → y ≡ second p m r v
      → exchange_sides p.shape.layout (placed_by p) f (placed_by q) g (pair x y 0)
      ≡ exchange_sides p.shape.layout (placed_by p) (room_a (meet p) r).filter (placed_by q) (room_b (meet p) r).filter
      (pair (first p n r u) (second p m r v) 0)
  sides-are f g x y = λ i. exchange_sides p.shape.layout (placed_by p) (f i) (placed_by q) (g i) (pair (x i) (y i) 0)
