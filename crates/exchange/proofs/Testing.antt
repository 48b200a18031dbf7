-- The tests of the call, as the code goes through them.
use Rattle.std.proofs.Common.{◌≡◌, sym, ap, subst, ◌∙◌, List, replicate, ℕ, ◌*◌, Bool, true, false, ◌&&◌, cond, eqb, Ok, Err, arith}
use native.Mathlib.Nat.{mul-le-mul}
use Rattle.laws.proofs.Bools.{and_i, and-f}
use Rattle.layout.specs.declared.Layout.{Layout}
use Rattle.layout.specs.declared.Sizes.{Sizes}
use Rattle.layout.specs.Sizes.{Lays, Ranged, in_range, table_cells, filter_bytes}
use Rattle.layout.proofs.Ranges.{range-test, table-high, cell-high}
use Rattle.hash.specs.declared.Placing.{Placing}
use Rattle.list.specs.Records.{Room}
use Rattle.table.specs.Table.{Fit}
use Rattle.index.specs.Index.{Empty}
use Rattle.index.proofs.Index.{empty-zeros}
use Rattle.test8.specs.Test8.{over_listed, is_session}
use Rattle.test8.specs.Given.{seen_upto}
use Rattle.test8.proofs.Answers as test8
use Rattle.room.specs.declared.Session.{Session}
use Rattle.room.specs.Memory.{Memory, Rooms}
use Rattle.parts.specs.declared.Place.{Place}
use Rattle.parts.specs.Places.{place_after, origin, Near}
use Rattle.rounds.specs.Joined.{seam, room_end}
use Rattle.exchange.specs.declared.ExchangeError.TheVariants.{NotSession, BadRoom, OtherSlot}
use Rattle.exchange.specs.Exchange.{areas_fit, room_a, room_b, seen_in, exchange_test}
use Rattle.exchange.specs.Passed.{Places, Reaches}
use Rattle.exchange.proofs.Rooms.{areas-rooms}
use Rattle.exchange.proofs.Tests.{test_of, tested-room, tested-rest, tested-slot, tested-passed}
use Rattle.exchange.proofs.Passed.{seam-at, seam-reaches}

pub near-seam : (l : Layout) (y : Sizes) → Lays l → Ranged y → Near (seam l y)
unfolding place_after filter_bytes
near-seam l y lays r =
    let n = table-high l y lays r in
    let key = cell-high l y lays r in
    let short = lays.key_fits in
    let u = mul-le-mul {n₁ = table_cells l y} {m₁ = l.key} {n₂ = 1536} {m₂ = 480} n (omega (arith, key, short)) in
    let v = mul-le-mul {n₁ = 2 * table_cells l y} {m₁ = l.key} {n₂ = 3072} {m₂ = 480} (omega (arith, n)) (omega (arith, key, short)) in
    record {
      filter-near = omega (arith, r.f-high);
      cells-near = omega (arith, n);
      xors-near = omega (arith, u);
      words-near = omega (arith, n);
      records-near = omega (arith, n);
      keys-near = omega (arith, v);
    }

module _ (p q : Placing) (s t : Session) (m : Memory) (hp : Places p.shape.layout s p) (hq : Places p.shape.layout t q) {o at e : Place}
    (oi : o ≡ origin) (ai : at ≡ place_after p.shape.layout p.shape.sizes o) (ei : e ≡ place_after q.shape.layout q.shape.sizes at) where
  abbrev l : Layout
  l = p.shape.layout

  abbrev a : Memory
  a = room_a (seam l s.sizes) m

  abbrev b : Memory
  b = room_b (seam l s.sizes) m

  sizes-both : (in_range s.sizes && in_range t.sizes) ≡ true
  sizes-both =
      and_i (in_range s.sizes) (in_range t.sizes) (range-test s.sizes (subst Ranged hp.1 p.shape.ranged)) (range-test t.sizes (subst Ranged hq.1 q.shape.ranged))

  seam-is : at ≡ seam l s.sizes
  seam-is = seam-at l p.shape.sizes ai oi ∙ ap (seam l) hp.1

  end-at : e ≡ room_end l s.sizes t.sizes
  end-at = ei ∙ (λ k. place_after (hq.0 k) (hq.1 k) (seam-is k))

  pub room-bad : areas_fit e m ≡ false → Err BadRoom ≡ exchange_test l s t m
  room-bad h = sym (tested-room l s t m sizes-both (ap (λ x. areas_fit x m) (sym end-at) ∙ h))

  module _ (fit : areas_fit e m ≡ true) where
    fits-there : areas_fit (room_end l s.sizes t.sizes) m ≡ true
    fits-there = ap (λ x. areas_fit x m) (sym end-at) ∙ fit

    pub reaches : Reaches at m
    reaches = subst (λ x. Reaches x m) (sym seam-is) (seam-reaches l s.sizes t.sizes m fits-there)

    rooms : Rooms l s.sizes a × Rooms l t.sizes b
    rooms = areas-rooms l s.sizes t.sizes m p.shape.lays (subst Ranged hp.1 p.shape.ranged) (subst Ranged hq.1 q.shape.ranged) fits-there

    module _ {x y : Memory} (xi : x ≡ room_a at m) (yi : y ≡ room_b at m) where
      a-is : x ≡ a
      a-is = xi ∙ ap (λ k. room_a k m) seam-is

      b-is : y ≡ b
      b-is = yi ∙ ap (λ k. room_b k m) seam-is

      -- what the test of each needs
      pub need-a : {seen : List ℕ} → seen ≡ replicate 11264 0
          → Fit l p.shape.sizes x.table × Room l (2 * table_cells l p.shape.sizes) x.list × Empty seen
      need-a zeros = (
        subst (λ (v : Memory). Fit l p.shape.sizes v.table) (sym a-is) (subst (λ z. Fit l z a.table) (sym hp.1) rooms.0.table),
        subst (λ (v : Memory). Room l (2 * table_cells l p.shape.sizes) v.list) (sym a-is) (subst (λ z. Room l (2 * table_cells l z) a.list) (sym hp.1) rooms.0.room),
        subst Empty (sym zeros) empty-zeros,
      )

      pub need-b : {seen : List ℕ} → seen ≡ replicate 11264 0
          → Fit q.shape.layout q.shape.sizes y.table × Room q.shape.layout (2 * table_cells q.shape.layout q.shape.sizes) y.list × Empty seen
      need-b zeros = (
        subst (λ (v : Memory). Fit q.shape.layout q.shape.sizes v.table) (sym b-is)
            (subst (λ k. Fit k q.shape.sizes b.table) (sym hq.0) (subst (λ z. Fit l z b.table) (sym hq.1) rooms.1.table)),
        subst (λ (v : Memory). Room q.shape.layout (2 * table_cells q.shape.layout q.shape.sizes) v.list) (sym b-is)
            (subst (λ k. Room k (2 * table_cells k q.shape.sizes) b.list) (sym hq.0) (subst (λ z. Room l (2 * table_cells l z) b.list) (sym hq.1) rooms.1.room)),
        subst Empty (sym zeros) empty-zeros,
      )

      module _ {ra : Bool} (qa : ra ≡ is_session l p.shape.sizes p.salt s.listed x.table x.list) where
        is-a : ra ≡ test_of l s a
        is-a = qa ∙ (λ k. is_session l (hp.1 k) (hp.2 k) s.listed (a-is k).table (a-is k).list)

        pub not_a : ra ≡ false → Err NotSession ≡ exchange_test l s t m
        not_a h = sym (tested-rest l s t m sizes-both fits-there (ap (λ v. v && test_of l t b) (sym is-a ∙ h)))

        module _ (ha : ra ≡ true) {rb : Bool} (qb : rb ≡ is_session q.shape.layout q.shape.sizes q.salt t.listed y.table y.list) where
          yes-a : test_of l s a ≡ true
          yes-a = sym is-a ∙ ha

          is_b : rb ≡ test_of l t b
          is_b = qb ∙ (λ k. is_session (hq.0 k) (hq.1 k) (hq.2 k) t.listed (b-is k).table (b-is k).list)

          pub not-b : rb ≡ false → Err NotSession ≡ exchange_test l s t m
          not-b h = sym (tested-rest l s t m sizes-both fits-there (ap (λ v. test_of l s a && v) (sym is_b ∙ h) ∙ and-f (test_of l s a)))

          module _ (hb : rb ≡ true) where
            yes-b : test_of l t b ≡ true
            yes-b = sym is_b ∙ hb

            both : (test_of l s a && test_of l t b) ≡ true
            both = and_i (test_of l s a) (test_of l t b) yes-a yes-b

            pub other-slot : eqb s.slot t.slot ≡ false → Err OtherSlot ≡ exchange_test l s t m
            other-slot h = sym (tested-slot l s t m sizes-both fits-there both h)

            pub all-passed : eqb s.slot t.slot ≡ true → Ok tt ≡ exchange_test l s t m
            all-passed h = sym (tested-passed l s t m sizes-both fits-there both h)

            -- the indexes have got each listed key
            pub index-a : {seen new : List ℕ} → seen ≡ replicate 11264 0
                → new ≡ seen_upto l p.shape.sizes p.salt (cond (over_listed l p.shape.sizes s.listed) 0 s.listed) x.list.keys seen
                → new ≡ seen_in l s a (replicate 11264 0)
            index-a zeros w =
                w ∙ (λ k. seen_upto l (hp.1 k) (hp.2 k) (cond (over_listed l (hp.1 k) s.listed) 0 s.listed) (a-is k).list.keys (zeros k))
                ∙ ap (λ v. seen_upto l s.sizes s.salt (cond v 0 s.listed) a.list.keys (replicate 11264 0))
                (test8.passed l s.sizes s.salt s.listed a.table a.list yes-a).listed_in

            pub index-b : {seen new : List ℕ} → seen ≡ replicate 11264 0
                → new ≡ seen_upto q.shape.layout q.shape.sizes q.salt (cond (over_listed q.shape.layout q.shape.sizes t.listed) 0 t.listed) y.list.keys seen
                → new ≡ seen_in l t b (replicate 11264 0)
            index-b zeros w =
                w ∙ (λ k. seen_upto (hq.0 k) (hq.1 k) (hq.2 k) (cond (over_listed (hq.0 k) (hq.1 k) t.listed) 0 t.listed) (b-is k).list.keys (zeros k))
                ∙ ap (λ v. seen_upto l t.sizes t.salt (cond v 0 t.listed) b.list.keys (replicate 11264 0))
                (test8.passed l t.sizes t.salt t.listed b.table b.list yes-b).listed_in
