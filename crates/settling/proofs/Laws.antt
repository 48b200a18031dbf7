-- Peeling, then counting: what the code's two calls leave is what the definition says.
use mathlib.Core.Path.{◌≡◌, refl, sym, ap, subst, ◌∙◌}
use mathlib.Core.List.{List}
use Prim.Native.Nat.{ℕ}
use lib.ListN.{length, replicate}
use Rattle.std.specs.Prelude.{Ok, Err}
use Rattle.peeling.specs.declared.Damage.{Damage}
use Rattle.layout.specs.declared.Layout.{Layout}
use Rattle.layout.specs.declared.Sizes.{Sizes}
use Rattle.layout.specs.Sizes.{table_cells}
use Rattle.layout.proofs.Ranges.{table-high}
use Rattle.list.specs.Records.{Records}
use Rattle.found.specs.Seen.{Covers}
use Rattle.table.specs.Table.{Tab, tab}
use Rattle.table.proofs.Bounds.{bounded-counted}
use Rattle.peeling.specs.Peel.{Fits, Steady, Stop, Ended, ended, peels_of, listed_at}
use Rattle.peeling.proofs.Loop.{ended-keeps}
use Rattle.counting.specs.Book.{book}
use Rattle.counting.specs.Count as counts
use Rattle.counting.proofs.Loop as counting-last
use Rattle.settling.specs.Settle.{Settled, settled, stop_after, after_counts, then_counts, settle_of}

-- what fits for peeling fits for counting
counts-fits : (l : Layout) (z : Sizes) (salt n : ℕ) (t : Tab) (packets : List ℕ) (rs : Records) (seen : List ℕ) → Fits l z salt n t rs seen
    → length packets ≡ table_cells l z
    → counts.Fits l z n t.flows (book packets t.unknowns t.positions (replicate 24 0)) rs
counts-fits l z salt n t packets rs seen g h = record {
  lays = g.table.lays;
  ranged = g.table.ranged;
  room = g.room;
  listed = g.listed;
  cells = record {
    few = table-high l z g.table.lays g.table.ranged;
    flows-fit = g.table.flows-fit;
    packets-fit = h;
    unknowns-fit = g.table.unknowns-fit;
    positions-fit = g.table.positions-fit;
    ready-fit = refl;
  };
}

module _ (l : Layout) (z : Sizes) (salt n : ℕ) (t : Tab) (packets : List ℕ) (rs : Records)
    (seen : List ℕ) {r : Stop} {t' : Tab} {rs' : Records} {seen' : List ℕ}
    (p : ended r t' rs' seen' ≡ peels_of l z salt n t rs seen) where
  then_is : then_counts l z salt packets t' rs' seen' r ≡ settle_of l z salt n t packets rs seen
  unfolding settle_of
  then_is = ap (λ (x : Ended). then_counts l z salt packets x.table x.list x.seen x.answer) p

  -- a 14 while peeling ends it
  pub settle-stopped : {d : Damage} → r ≡ Err d → settled (Err d) t' packets rs' seen' ≡ settle_of l z salt n t packets rs seen
  unfolding then_counts
  settle-stopped e = (rw e at then_is)

  module _ {m : ℕ} (e : r ≡ Ok m) where
    pub settle-counted : {a : counts.Stop} {q : Stop} {packets' unknowns positions : List ℕ} {rs'' : Records}
        → counts.ended a packets' unknowns positions rs'' ≡ counts.counts_of l z salt m t'.flows packets t'.unknowns t'.positions rs'
        → q ≡ stop_after m a
        → settled q (tab t'.xors t'.flows unknowns positions t'.marks) packets' rs'' seen' ≡ settle_of l z salt n t packets rs seen
    unfolding then_counts after_counts
    settle-counted {packets' = packets'} {unknowns} {positions} {rs''} g h =
        ap (λ (x : Stop). settled x (tab t'.xors t'.flows unknowns positions t'.marks) packets' rs'' seen') h
        ∙ ap (after_counts m t' seen') g ∙ (rw e at then_is)

    -- all fits for counting
    pub count_fits : Steady l z salt n t rs seen → length packets ≡ table_cells l z
        → counts.Fits l z m t'.flows (book packets t'.unknowns t'.positions (replicate 24 0)) rs'
    count_fits f h =
        counts-fits l z salt m t' packets rs' seen' (rw e at (ended-keeps l z salt n t rs seen f p).fits) h

-- ---- what settling leaves fits again, and is bounded
pub record Lasts (l : Layout) (z : Sizes) (salt : ℕ) (s : Settled) : Type 0 where
  pub steady : Steady l z salt (listed_at s.answer) s.table s.list s.seen
  pub packets-fit : length s.packets ≡ table_cells l z

listed-after : (n : ℕ) (a : counts.Stop) → listed_at (stop_after n a) ≡ n
listed-after n (Ok u) = refl
listed-after n (Err c) = refl

module _ (l : Layout) (z : Sizes) (salt : ℕ) where
  after_last : (n : ℕ) (t : Tab) (seen : List ℕ) (rs : Records) → Steady l z salt n t rs seen → (e : counts.Ended) → counting-last.Lasts l z rs e
      → Lasts l z salt (after_counts n t seen e)
  unfolding after_counts
  after_last n t seen rs k e s = let f = k.fits in record {
    steady = subst (λ m. Steady l z salt m (tab t.xors t.flows e.unknowns e.positions t.marks) e.list seen) (sym (listed-after n e.answer)) (record {
      fits = record {
        table = record {
          lays = f.table.lays;
          ranged = f.table.ranged;
          xors-fit = f.table.xors-fit;
          flows-fit = f.table.flows-fit;
          unknowns-fit = s.unknowns-fit;
          positions-fit = s.positions-fit;
          marks-fit = f.table.marks-fit;
        };
        room = s.room;
        listed = f.listed;
        covers = subst (λ keys. Covers l z salt n keys seen) (sym s.keys_kept) f.covers;
      };
      bounded = bounded-counted l z salt n t rs k.bounded e.unknowns e.positions e.list s.handed-kept;
    });
    packets-fit = s.packets-fit;
  }

  then-last : (r : Stop) (t : Tab) (packets : List ℕ) (rs : Records) (seen : List ℕ) → Steady l z salt (listed_at r) t rs seen
      → length packets ≡ table_cells l z → Lasts l z salt (then_counts l z salt packets t rs seen r)
  unfolding then_counts
  then-last (Ok n) t packets rs seen k h = after_last n t seen rs k (counts.counts_of l z salt n t.flows packets t.unknowns t.positions rs)
      (counting-last.counts-last l z salt n t.flows packets t.unknowns t.positions rs (counts-fits l z salt n t packets rs seen k.fits h))
  then-last (Err d) t packets rs seen k h = record { steady = k; packets-fit = h }

  pub settle-lasts : (n : ℕ) (t : Tab) (packets : List ℕ) (rs : Records) (seen : List ℕ) → Steady l z salt n t rs seen → length packets ≡ table_cells l z
      → Lasts l z salt (settle_of l z salt n t packets rs seen)
  unfolding settle_of
  settle-lasts n t packets rs seen k h =
      let p = peels_of l z salt n t rs seen in
      then-last p.answer p.table packets p.list p.seen (ended-keeps l z salt n t rs seen k refl) h
