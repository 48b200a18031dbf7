-- The exchange of clean switches along any ways ends at rest, and with the lists at their joint closure, whatever the order.
use mathlib.Core.Path.{◌≡◌, sym, ap, ◌∙◌, subst}
use mathlib.Core.Logic.{inl, inr}
use mathlib.Core.Bool.{Bool, true, false}
use mathlib.Core.List.{List}
use Prim.Native.Nat.{ℕ, ◌≤◌, ◌<◌}
use native.Mathlib.Omega.{arith}
use lib.ListN.{length}
use lib.Dec.{ltb}
use Rattle.laws.proofs.Bools.{iff}
use Rattle.laws.proofs.Upto.{any_none}
use Rattle.theory.specs.Encode.{Key, among}
use Rattle.theory.specs.Session.{Session, keys_of, listed, handed_over}
use Rattle.theory.specs.HandOver.{Switch, hand_each, settle_at}
use Rattle.theory.specs.Runs.{start, AtRest}
use Rattle.theory.specs.Invariant.{Counted, Holds}
use Rattle.theory.specs.Demands.{HandedCounted}
use Rattle.theory.specs.Exchange.{hand_all, PassesOwn}
use Rattle.theory.specs.Family.{Family, ended, Ended, Way, both_ways, leads, SameWays, Within, hand_to, hand_along}
use Rattle.theory.specs.Family.{settle_one, round_along, any_grew, exchange_along}
use Rattle.theory.specs.Family.{AllCounted, FiltersApart, ClosedAlong, ClosureAlong}
use Rattle.theory.proofs.Runs.{listed-stays, listed-least}
use Rattle.theory.proofs.Confluence.{rest-closed}
use Rattle.theory.proofs.Settle.{settle-handed}
use Rattle.theory.proofs.Calls.{Goes, goes-holds, settle_goes, calls-go}
use Rattle.theory.proofs.Grown.{grown-length, grown-same}
use Rattle.theory.proofs.Generic.{put_all}
use Rattle.theory.proofs.Onward.{handed-from, within-at, within_both, both-same, along-keeps, exchange-keeps, Onward, onward-refl}
use Rattle.theory.proofs.Onward.{onward-trans, onward-hand, onward-settle, onward-upto, onward-along}
use Rattle.theory.proofs.Room.{AllFit, hand-fit, settle-fit, over-keeping}
use Rattle.theory.proofs.Along.{handed-in, flow-listed, list-goes, never_both, upto-below, given, hand-session, still-along, one-settles}
use borrow.Author.Tests.{ltb-false}

-- the switches below n; those from n on take no part
module _ (n : ℕ) (W : ℕ → Switch) (l : List Way) (within : Within n l) (e : (i : ℕ) → Counted (W i)) (p₀ : Family)
    (holds₀ : (i : ℕ) → i < n → Holds (W i) (e i) (p₀.session i)) (fit₀ : AllFit n W p₀) where
  abbrev final : Ended
  final = exchange_along n W l p₀

  abbrev GoesAt : ℕ → Session → Type 0
  GoesAt i s = (b : i < n) → Goes (W i) (e i) (p₀.session i) (holds₀ i b) s

  abbrev AllGo : Family → Type 0
  AllGo p = (i : ℕ) → GoesAt i (p.session i)

  go-start : AllGo p₀
  go-start i b = record { run = start; fits = fit₀ i b }

  go-settle : (i : ℕ) (p : Family) → i < n → AllGo p → AllGo (settle_one W i p).family
  go-settle i p _ g j b = one-settles W j (e j) (p₀.session j) (holds₀ j b) i p (g j b)

  go-hand : (v : Way) (p : Family) → AllGo p → GoesAt v.to (hand_all (W v.to) (given W v p) (p.session v.to)) → AllGo (hand_to W v p)
  unfolding hand_to
  go-hand v p g h = put_all v.to _ p.session GoesAt h g

  -- what is listed was counted here
  go-inside : (p : Family) → AllGo p → (i : ℕ) → i < n → (k : Key) → listed (p.session i) k ≡ true → among k (e i).flows ≡ true
  go-inside p g i b = (goes-holds (W i) (e i) (p₀.session i) (holds₀ i b) (g i b)).inside

  -- ---- where no flow of one switch passes the filter of another that did not count it
  go-apart : FiltersApart n W e → (v : Way) (p : Family) → leads l v.from v.to ≡ true → AllGo p → AllGo (hand_to W v p)
  go-apart apart v p y g =
      let i = v.from in
      let j = v.to in
      let b = (within-at n l within i j y).0 in
      go-hand v p g (λ c. list-goes (W j) (e j) (p₀.session j) (holds₀ j c) (given W v p) (p.session j) (g j c)
      (λ k m. apart i j b c k (go-inside p g i b k m)))

  -- Theorem: then every flow handed over was counted there
  pub apart-counted : FiltersApart n W e → AllCounted n W e final.family
  apart-counted apart i b = handed-in (λ k. among k (e i).flows) (final.family.session i)
      (go-inside final.family (exchange-keeps n W AllGo go-settle l (go-apart apart) p₀ go-start) i b)

  -- ---- where every flow handed over was counted there
  module _ (ours : AllCounted n W e final.family) where
    record Good (p : Family) : Type 0 where
      pub goes : AllGo p
      pub least : (X : ℕ → Key → Bool) → ClosedAlong n W e l p₀ X → (i : ℕ) → i < n → (k : Key) → listed (p.session i) k ≡ true → X i k ≡ true

    -- a session lists no more than sets that are closed hold
    goes-within : (X : ℕ → Key → Bool) → ClosedAlong n W e l p₀ X → (i : ℕ) → i < n → (s : Session) → GoesAt i s
        → ((k : Key) → handed_over s k ≡ true → X i k ≡ true) → (k : Key) → listed s k ≡ true → X i k ≡ true
    goes-within X c i b s g h = listed-least (W i) (e i) (p₀.session i) (holds₀ i b) (X i) (c.peels i b) (c.stood i b) (g b).run h

    good-settle : (i : ℕ) (p : Family) → i < n → Good p → Good (settle_one W i p).family
    unfolding settle_one
    good-settle i p b g =
        let s = p.session i in
        let go : GoesAt i (settle_at (W i) s).state = λ c. (settle_goes (W i) (e i) (p₀.session i) (holds₀ i c) s (g.goes i c)).0 in
        record {
          goes = go-settle i p b g.goes;
          least = λ X c. put_all i _ p.session (λ j t. j < n → (k : Key) → listed t k ≡ true → X j k ≡ true)
              (λ _. goes-within X c i b (settle_at (W i) s).state go
              (λ k h. handed-in (X i) s (g.least X c i b) k (rw (settle-handed (W i).size (W i).has s) at h))) (g.least X c);
        }

    good-hand : (v : Way) (p : Family) → leads l v.from v.to ≡ true → Good p
        → HandedCounted (e v.to).flows (hand_all (W v.to) (given W v p) (p.session v.to)) → Good (hand_to W v p)
    unfolding hand_to
    good-hand v p y g ours =
        let i = v.from in
        let j = v.to in
        let b = within-at n l within i j y in
        let s = p.session j in
        let t = hand_all (W j) (given W v p) s in
        let go : GoesAt j t = λ c. calls-go (W j) (e j) (p₀.session j) (holds₀ j c) (hand_each (given W v p)) s (g.goes j c) ours in
        record {
          goes = go-hand v p g.goes go;
          least = λ X c. put_all j t p.session (λ a u. a < n → (k : Key) → listed u k ≡ true → X a k ≡ true)
              (λ _. goes-within X c j b.1 t go (λ k h. elim (handed-from (W j) (given W v p) s k h) [
                | inl m ↦ handed-in (X j) s (g.least X c j b.1) k m
                | inr m ↦ c.along i j y k (ours k h) (g.least X c i b.0 k m)
              ])) (g.least X c);
        }

    -- what stands on the way to the end is good, as all that was handed over still stands there
    record Before (p : Family) : Type 0 where
      pub fits : AllFit n W p
      pub good : Onward p final.family → Good p

    before-start : Before p₀
    before-start = record { fits = fit₀; good = λ _. record { goes = go-start; least = λ X c. c.stood } }

    before-settle : (i : ℕ) (p : Family) → i < n → Before p → Before (settle_one W i p).family
    before-settle i p b h = record {
      fits = settle-fit n W i p h.fits;
      good = λ o. good-settle i p b (h.good (onward-trans p (settle_one W i p).family final.family (onward-settle W i p) o));
    }

    before-hand : (v : Way) (p : Family) → leads l v.from v.to ≡ true → Before p → Before (hand_to W v p)
    before-hand v p y h = record {
      fits = hand-fit n W v p h.fits;
      good = λ o. good-hand v p y (h.good (onward-trans p (hand_to W v p) final.family (onward-hand W v p) o))
          (λ k x. ours v.to (within-at n l within v.from v.to y).1 k
          (o.handed v.to k (subst (λ s. handed_over s k ≡ true) (sym (hand-session W v p)) x)));
    }

    record Finished (r : Ended) : Type 0 where
      pub ends : r.ending ≡ ended
      pub rest : (i : ℕ) → i < n → AtRest (W i).size (W i).has (r.family.session i)
      -- where no hand-over was answered with 12
      pub along : ((i : ℕ) → i < n → PassesOwn (W i) (e i)) → r.family.twelves ≡ 0
          → (i j : ℕ) → leads l i j ≡ true → (k : Key) → among k (e j).flows ≡ true → listed (r.family.session i) k ≡ true
          → listed (r.family.session j) k ≡ true

    good-final : Good final.family
    good-final = (exchange-keeps n W Before before-settle l before-hand p₀ before-start).good (onward-refl final.family)

    -- the last round, in which no list grew
    quiet-round : (p : Family) → Before p → final ≡ round_along n W l p → final.ending ≡ ended → any_grew n p final.family ≡ false → Finished final
    unfolding any_grew
    quiet-round p h is ends none =
        let q = hand_along W l p in
        let f = final.family in
        let o' : Onward q f = subst (λ r. Onward q r.family) (sym is) (onward-upto W n q) in
        let o = onward-along W l p in
        let gp = h.good (onward-trans p q f o o') in
        let gq = (along-keeps n W Before before-settle l before-hand p h).good o' in
        let len : Family → ℕ → ℕ = λ r i. length (r.session i).list in
        let le : (i : ℕ) → i < n → len f i ≤ len p i
        = λ i b. ltb-false (len p i) (len f i) (any_none n (λ j. ltb (len p j) (len f j)) none i b) in
        let more : (i : ℕ) → len p i ≤ len q i = λ i. omega (arith, grown-length (p.session i) (q.session i) (o.grown i)) in
        let more' : (i : ℕ) → len q i ≤ len f i = λ i. omega (arith, grown-length (q.session i) (f.session i) (o'.grown i)) in
        record {
          ends = ends;
          rest = λ i b. subst (AtRest (W i).size (W i).has)
              (sym (ap (λ r. r.family.session i) is ∙ upto-below W n q (sym (ap (λ r. r.ending) is) ∙ ends) i b))
              (settle_goes (W i) (e i) (p₀.session i) (holds₀ i b) (q.session i) (gq.goes i b)).2;
          along = λ own none-12 i j y k m x.
              let still = still-along W n l p within (λ a b. omega (arith, le a b, more a, more' a)) (omega (arith, o'.twelves-le, none-12)) in
              let keys : (a : ℕ) → a < n → keys_of (f.session a).list ≡ keys_of (p.session a).list
              = λ a b. grown-same (q.session a) (f.session a) (o'.grown a) (omega (arith, le a b, more a, more' a))
              ∙ ap (λ r. keys_of (r.session a).list) still.0 in
              let b = within-at n l within i j y in
              ap (among k) (keys j b.1) ∙ flow-listed (W j) (e j) (p₀.session j) (holds₀ j b.1) (p.session j) (gp.goes j b.1) k m
              (own j b.1 k m) ((still.1 i j y).answers k (ap (among k) (sym (keys i b.0)) ∙ x));
        }

    finish : Finished final
    unfolding settle_one
    finish = elim (over-keeping n W Before (λ p h. h.fits) before-settle l before-hand p₀ before-start) [
      | inr s ↦ quiet-round s.before s.holds s.is s.ends s.none-grew
      | inl s ↦
          (let i = s.switch in
          let p = s.before in
          let o = subst (λ r. Onward p r.family) (sym s.is) (onward-settle W i p) in
          let z = (settle_goes (W i) (e i) (p₀.session i) (holds₀ i s.below) (p.session i) ((s.holds.good o).goes i s.below)).1 in
          never_both i s.stop (ap (λ r. r.ending) s.is ∙ rw z) s.ends)
    ]

    -- Theorem: no 14 ends the exchange
    pub family-ends : final.ending ≡ ended
    family-ends = finish.ends

    -- Theorem: it leaves every switch at rest
    pub family-rests : (i : ℕ) → i < n → AtRest (W i).size (W i).has (final.family.session i)
    family-rests = finish.rest

    -- Theorem: with no answer 12 the lists are the joint closure
    pub family-closure : ((i : ℕ) → i < n → PassesOwn (W i) (e i)) → final.family.twelves ≡ 0 → ClosureAlong n W e l p₀ final.family
    family-closure own none-12 =
        let g = good-final in
        record {
          closed = record {
            stood = λ i b. listed-stays (W i) (e i) (p₀.session i) (holds₀ i b) (g.goes i b).run;
            peels = λ i b. rest-closed (W i) (e i) (final.family.session i) (goes-holds (W i) (e i) (p₀.session i) (holds₀ i b) (g.goes i b))
                (finish.rest i b);
            along = finish.along own none-12;
          };
          least = g.least;
        }

-- ---- the order makes no difference
module _ (n : ℕ) (W : ℕ → Switch) (e : (i : ℕ) → Counted (W i)) (p : Family) where
  closed_same : (l m : List Way) → SameWays l m → (X : ℕ → Key → Bool) → ClosedAlong n W e m p X → ClosedAlong n W e l p X
  closed_same l m same X c = record { stood = c.stood; peels = c.peels; along = λ i j y. c.along i j (sym (same i j) ∙ y) }

  closure-within : (l m : List Way) → SameWays l m → (q r : Family) → ClosureAlong n W e l p q → ClosureAlong n W e m p r
      → (i : ℕ) → i < n → (k : Key) → listed (q.session i) k ≡ true → listed (r.session i) k ≡ true
  closure-within l m same q r c d = c.least (λ i. listed (r.session i)) (closed_same l m same (λ i. listed (r.session i)) d.closed)

  -- Theorem: the joint closure is one: along the same ways, in any order, the same flows are listed
  pub closure-same : (l m : List Way) → SameWays l m → (q r : Family) → ClosureAlong n W e l p q → ClosureAlong n W e m p r
      → (i : ℕ) → i < n → (k : Key) → listed (q.session i) k ≡ listed (r.session i) k
  closure-same l m same q r c d i b k = iff (listed (q.session i) k) (listed (r.session i) k)
      (closure-within l m same q r c d i b k) (closure-within m l (λ a z. sym (same a z)) r q d c i b k)

  -- Theorem: where no flow of one switch passes the filter of another that did not count it, any two orders of the same pairs
  -- without an answer 12 end in the same flows at each switch
  pub orders-agree : ((i : ℕ) → i < n → Holds (W i) (e i) (p.session i)) → AllFit n W p → ((i : ℕ) → i < n → PassesOwn (W i) (e i))
      → FiltersApart n W e → (l m : List Way) → Within n l → Within n m → SameWays l m
      → (exchange_along n W (both_ways l) p).family.twelves ≡ 0 → (exchange_along n W (both_ways m) p).family.twelves ≡ 0 → (i : ℕ) → i < n → (k : Key)
      → listed ((exchange_along n W (both_ways l) p).family.session i) k ≡ listed ((exchange_along n W (both_ways m) p).family.session i) k
  orders-agree holds fit own apart l m b c same y z =
      let closure : (f : List Way) → Within n f → (exchange_along n W (both_ways f) p).family.twelves ≡ 0
      → ClosureAlong n W e (both_ways f) p (exchange_along n W (both_ways f) p).family
      = λ f a t. let w = within_both n f a in
      family-closure n W (both_ways f) w e p holds fit (apart-counted n W (both_ways f) w e p holds fit apart) own t in
      closure-same (both_ways l) (both_ways m) (both-same l m same) _ _ (closure l b y) (closure m c z)
