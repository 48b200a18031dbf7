-- The call: what its tests refuse, and what both sessions are where all are passed.
use Rattle.std.proofs.Common.{◌≡◌, sym, ap, subst, ◌∙◌, List, replicate, ℕ, true, false, ◌&&◌, Ok, Err, arith}
use Rattle.laws.proofs.Bools.{and-f}
use Rattle.layout.specs.declared.Layout.{Layout}
use Rattle.layout.specs.Sizes.{Lays, in_range}
use Rattle.layout.proofs.Ranges.{ranged, table-high}
use Rattle.hash.specs.declared.Placing.{Placing}
use Rattle.marks.specs.Marks.{Words}
use Rattle.index.proofs.Index.{empty-zeros}
use Rattle.test8.proofs.Answers as test8
use Rattle.test8.proofs.Passed.{listed-few, passed-bounded}
use Rattle.test8.proofs.Notes.{seen_covers}
use Rattle.room.specs.declared.Session.{Session}
use Rattle.room.specs.Memory.{Memory, Rooms}
use Rattle.parts.specs.Sides.{switch, side, Stands}
use Rattle.rounds.specs.Rounds.{pair, exchange_sides}
use Rattle.rounds.specs.Joined.{switch_of, seam, room_end}
use Rattle.exchange.specs.declared.ExchangeError.{ExchangeError}
use Rattle.exchange.specs.declared.ExchangeError.TheVariants.{NotSession}
use Rattle.exchange.specs.Exchange.{seen_in, side_of, room_a, room_b, areas_fit, exchanging, exchange_test, after_test, exchange_of, leaves}
use Rattle.exchange.specs.Passed.{Places, placed_by, first, second, Ready, exchanged}
use Rattle.exchange.proofs.Rooms.{areas-rooms, words-a, words-b}
use Rattle.exchange.proofs.Tests.{test_of, tested-sizes, passed}

-- ---- refusals
module _ (l : Layout) (s t : Session) (m : Memory) where
  pub bad-a : in_range s.sizes ≡ false → Err NotSession ≡ exchange_test l s t m
  bad-a h = sym (tested-sizes l s t m (ap (λ b. b && in_range t.sizes) h))

  pub bad-b : in_range t.sizes ≡ false → Err NotSession ≡ exchange_test l s t m
  bad-b h = sym (tested-sizes l s t m (ap (λ b. in_range s.sizes && b) h ∙ and-f (in_range s.sizes)))

  pub refused : {e : ExchangeError} → Err e ≡ exchange_test l s t m → exchanging (Err e) m ≡ exchange_of l s t m
  unfolding exchange_of after_test
  refused h = ap (after_test l s t m) h

-- ---- a session that passes the test stands in its room
side-stands : (l : Layout) (s : Session) (a : Memory) → Rooms l s.sizes a → Words a.table.marks → test_of l s a ≡ true
    → Stands l (switch_of s) (side_of l s a)
side-stands l s a r words h =
    let whole = test8.passed l s.sizes s.salt s.listed a.table a.list h in
    let few = listed-few l s.sizes s.salt s.listed a.table a.list whole in
    record {
      steady = record {
        fits = record {
          table = r.table;
          room = r.room;
          listed = few;
          covers = seen_covers l s.sizes s.salt a.list.keys (replicate 11264 0) s.listed
              (omega (arith, few, table-high l s.sizes r.table.lays r.table.ranged)) empty-zeros;
        };
        bounded = passed-bounded l s.sizes s.salt s.listed a.table a.list whole words;
      };
      packets-fit = r.packets-fit;
    }

-- ---- all tests are passed
module _ (l : Layout) (s t : Session) (m : Memory) (p q : Placing) (hp : Places l s p) (hq : Places l t q) {u v : List ℕ}
    (ui : u ≡ seen_in l s (room_a (seam l s.sizes) m) (replicate 11264 0)) (vi : v ≡ seen_in l t (room_b (seam l s.sizes) m) (replicate 11264 0))
    (h : Ok tt ≡ exchange_test l s t m) where
  pub both-ready : Lays l → Words m.table.marks → Ready p q s.listed t.listed m u v
  both-ready lays words =
      let g = passed l s t m (sym h) in
      let rooms = areas-rooms l s.sizes t.sizes m lays (ranged s.sizes g.ranged-a) (ranged t.sizes g.ranged-b) g.fits in
      let a = side-stands l s (room_a (seam l s.sizes) m) rooms.0 (words-a (seam l s.sizes) m words) g.session-a in
      let b = side-stands l t (room_b (seam l s.sizes) m) rooms.1 (words-b (seam l s.sizes) m words) g.session-b in
      record {
        layout-is = hq.0 ∙ sym hp.0;
        fits = (λ k. areas_fit (room_end (hp.0 k) (hp.1 k) (hq.1 k)) m) ∙ g.fits;
        stands-a =
            let is : Stands p.shape.layout (placed_by p) (first p s.listed m u) ≡ Stands l (switch_of s) (side_of l s (room_a (seam l s.sizes) m)) =
            λ k. let x = room_a (seam (hp.0 k) (hp.1 k)) m in
            Stands (hp.0 k) (switch (hp.1 k) (hp.2 k)) (side s.listed x.table x.packets x.list (ui k)) in
            subst (λ (X : Type 0). X) (sym is) a;
        stands_b =
            let is : Stands p.shape.layout (placed_by q) (second p t.listed m v) ≡ Stands l (switch_of t) (side_of l t (room_b (seam l s.sizes) m)) =
            λ k. let x = room_b (seam (hp.0 k) (hp.1 k)) m in
            Stands (hp.0 k) (switch (hq.1 k) (hq.2 k)) (side t.listed x.table x.packets x.list (vi k)) in
            subst (λ (X : Type 0). X) (sym is) b;
      }

  pub exchanged-is : exchanged p q s.listed t.listed m u v ≡ exchange_of l s t m
  unfolding exchange_of after_test
  exchanged-is =
      (λ k. let x = room_a (seam (hp.0 k) (hp.1 k)) m in
      let y = room_b (seam (hp.0 k) (hp.1 k)) m in
      leaves x y (exchange_sides (hp.0 k) (switch (hp.1 k) (hp.2 k)) x.filter (switch (hq.1 k) (hq.2 k)) y.filter
      (pair (side s.listed x.table x.packets x.list (ui k)) (side t.listed y.table y.packets y.list (vi k)) 0)))
      ∙ ap (after_test l s t m) h
