-- The exchange of two switches is that of a family along one pair: so it ends at rest, with both lists at their joint closure, and leaves sessions
-- of the same flowsets.
use mathlib.Core.Path.{◌≡◌, refl, sym, ap, ◌∙◌, subst}
use mathlib.Core.Logic.{inl, inr}
use mathlib.Core.Bool.{Bool, true, false, cond}
use mathlib.Core.List.{List, [], ◌∷◌}
use Prim.Native.Nat.{ℕ, zero, suc, ◌+◌, ◌*◌, ◌<◌}
use native.Mathlib.Omega.{arith}
use Rattle.laws.specs.Upto.{any_upto}
use Rattle.laws.proofs.Bools.{split}
use Rattle.theory.specs.Encode.{Key, among}
use Rattle.theory.specs.Session.{listed, Stop, settled, damage}
use Rattle.theory.specs.HandOver.{Switch, Call, calls, settle_at}
use Rattle.theory.specs.Fits.{Fits}
use Rattle.theory.specs.Runs.{PeelClosed, Stands, AtRest}
use Rattle.theory.specs.Invariant.{Counted, Holds}
use Rattle.theory.specs.Demands.{HandedCounted}
use Rattle.theory.specs.Exchange.{Pair, Ending, finished, stopped_a, stopped_b, Exchanged, hand_both, settle_both, round, grew, go_on, rounds}
use Rattle.theory.specs.Exchange.{then_rounds, exchange, PassesOwn, BothCounted, JointlyClosed, JointClosure}
use Rattle.theory.specs.Family.{Family, FamilyEnding, ended, stopped_at, Ended, both_ways, leads, Within, put_at, hand_to, hand_along}
use Rattle.theory.specs.Family.{and_then, settle_one, settle_upto, round_along, any_grew, rounds_along, sum_upto, rounds_room, exchange_along}
use Rattle.theory.specs.Family.{two, family_of, one_pair, AllCounted, ClosedAlong, ClosureAlong}
use Rattle.theory.specs.Thirteen.{ExchangeNever13}
use Rattle.theory.proofs.Onward.{within_both}
use Rattle.theory.proofs.Room.{AllFit, family-over, family-enough, family-never-13}
use Rattle.theory.proofs.Demands.{stands-calls}
use Rattle.theory.proofs.Along.{one-by-calls}
use Rattle.theory.proofs.Family.{family-ends, family-rests, family-closure}

-- ---- two switches as a family, and back
abbrev pub pair_of : Family → Pair
pair_of p = record { a = p.session 0; b = p.session 1; twelves = p.twelves }

abbrev pub end_of : FamilyEnding → Ending
end_of ended = finished
end_of (stopped_at zero s) = stopped_a s
end_of (stopped_at (suc i) s) = stopped_b s

abbrev pub exchanged_of : Ended → Exchanged
exchanged_of r = record { pair = pair_of r.family; ending = end_of r.ending }

module _ (A B : Switch) where
  abbrev W : ℕ → Switch
  W = two A B

  two-hand : (p : Family) → pair_of (hand_along W one_pair p) ≡ hand_both A B (pair_of p)
  unfolding both_ways hand_along hand_to put_at hand_both
  two-hand p = refl

  two-settle : (p : Family) → exchanged_of (settle_upto W 2 p) ≡ settle_both A B (pair_of p)
  unfolding settle_upto settle_one and_then put_at settle_both
  two-settle p = stops (settle_at A (p.session 0)).stop (settle_at B (p.session 1)).stop refl refl
    where
      stops : (s t : Stop) → (settle_at A (p.session 0)).stop ≡ s → (settle_at B (p.session 1)).stop ≡ t
          → exchanged_of (settle_upto W 2 p) ≡ settle_both A B (pair_of p)
      stops settled settled e f = rw (e, f)
      stops settled (damage c) e f = rw (e, f)
      stops (damage c) t e f = rw e

  two-round : (p : Family) → exchanged_of (round_along 2 W one_pair p) ≡ round A B (pair_of p)
  two-round p = two-settle (hand_along W one_pair p) ∙ ap (settle_both A B) (two-hand p)

  two-grew : (p q : Family) → any_grew 2 p q ≡ grew (pair_of p) (pair_of q)
  unfolding any_grew any_upto
  two-grew p q = refl

  two-on : (m : ℕ) → ((q : Family) → exchanged_of (rounds_along 2 W one_pair m q) ≡ rounds A B m (pair_of q))
      → (p : Family) (r : Ended) (end : FamilyEnding)
      → exchanged_of (and_then (λ q. cond (any_grew 2 p q) (rounds_along 2 W one_pair m q) r) r end)
      ≡ go_on (rounds A B m) (pair_of p) (exchanged_of r) (end_of end)
  unfolding and_then go_on
  two-on m ih p r ended = rw (sym (two-grew p r.family)) (elim (split (any_grew 2 p r.family)) [ inl y ↦ rw y (ih r.family) | inr y ↦ rw y ])
  two-on m ih p r (stopped_at zero s) = refl
  two-on m ih p r (stopped_at (suc i) s) = refl

  two-rounds : (m : ℕ) (p : Family) → exchanged_of (rounds_along 2 W one_pair m p) ≡ rounds A B m (pair_of p)
  unfolding rounds_along rounds
  two-rounds zero p = refl
  two-rounds (suc m) p =
      let r = round_along 2 W one_pair p in
      two-on m (λ q. two-rounds m q) p r r.ending ∙ ap (λ t. go_on (rounds A B m) (pair_of p) t t.ending) (two-round p)

  two_then : (m : ℕ) (r : Ended) (end : FamilyEnding)
      → exchanged_of (and_then (rounds_along 2 W one_pair m) r end) ≡ then_rounds A B m (exchanged_of r) (end_of end)
  unfolding and_then then_rounds
  two_then m r ended = two-rounds m r.family
  two_then m r (stopped_at zero s) = refl
  two_then m r (stopped_at (suc i) s) = refl

  two-room : rounds_room 2 W ≡ 2 * A.size + 2 * B.size
  unfolding sum_upto
  two-room = omega arith

  two-begins : (m : ℕ) (p : Pair)
      → exchanged_of (and_then (rounds_along 2 W one_pair m) (settle_upto W 2 (family_of p)) (settle_upto W 2 (family_of p)).ending)
      ≡ then_rounds A B m (settle_both A B p) (settle_both A B p).ending
  two-begins m p =
      let r = settle_upto W 2 (family_of p) in
      two_then m r r.ending ∙ ap (λ t. then_rounds A B m t t.ending) (two-settle (family_of p))

  -- Theorem: the exchange of two is the family's, along one pair
  pub two-are : (p : Pair) → exchanged_of (exchange_along 2 (two A B) one_pair (family_of p)) ≡ exchange A B p
  unfolding exchange_along exchange
  two-are p = two-begins (rounds_room 2 W + 1) p ∙ ap (λ m. then_rounds A B (m + 1) (settle_both A B p) (settle_both A B p).ending) two-room

  -- ---- any two sessions with room
  two-fit : (p : Pair) → Fits A.size p.a → Fits B.size p.b → AllFit 2 (two A B) (family_of p)
  two-fit p f g zero b = f
  two-fit p f g (suc i) b = g

  -- Theorem: with more rounds allowed, the exchange is the same
  pub exchange-enough : (p : Pair) → Fits A.size p.a → Fits B.size p.b → (m : ℕ) → 2 * A.size + 2 * B.size < m
      → then_rounds A B m (settle_both A B p) (settle_both A B p).ending ≡ exchange A B p
  exchange-enough p f g m h =
      sym (two-begins m p) ∙ ap exchanged_of (family-enough 2 (two A B) one_pair (family_of p) (two-fit p f g) m (omega (arith, two-room))) ∙ two-are p

-- the two ways to end: a settling of either stopped, or after some rounds one went through in which neither list grew
pub data PairOver (A B : Switch) (first : Pair) (r : Exchanged) : Type 0 where
  by-a : (s : Stop) → r.ending ≡ stopped_a s → PairOver A B first r
  by-b : (s : Stop) → r.ending ≡ stopped_b s → PairOver A B first r
  still : (m : ℕ) (p : Pair) → rounds A B m first ≡ record { pair = p; ending = finished } → r ≡ round A B p → r.ending ≡ finished
      → grew p r.pair ≡ false → PairOver A B first r

module _ (A B : Switch) where
  over-stopped : (first : Pair) (r : Ended) (i : ℕ) (s : Stop) → r.ending ≡ stopped_at i s → PairOver A B first (exchanged_of r)
  over-stopped first r zero s e = by-a s (ap end_of e)
  over-stopped first r (suc i) s e = by-b s (ap end_of e)

  -- Theorem: the exchange ends with a stop, or after a round in which neither list grew
  pub exchange-over : (p : Pair) → Fits A.size p.a → Fits B.size p.b → PairOver A B (settle_both A B p).pair (exchange A B p)
  exchange-over p f g =
      let r = exchange_along 2 (two A B) one_pair (family_of p) in
      let q = settle_upto (two A B) 2 (family_of p) in
      let first = (settle_both A B p).pair in
      let begins : pair_of q.family ≡ first = ap (λ t. t.pair) (two-settle A B (family_of p)) in
      subst (PairOver A B first) (two-are A B p) (elim (family-over 2 (two A B) one_pair (family_of p) (two-fit A B p f g)) [
        | inl s ↦ over-stopped first r s.switch s.stop s.ends
        | inr s ↦ still s.rounds (pair_of s.before)
            (ap (rounds A B s.rounds) (sym begins) ∙ sym (two-rounds A B s.rounds q.family) ∙ ap exchanged_of s.reached)
            (ap exchanged_of s.is ∙ two-round A B s.before) (ap end_of s.ends)
            (sym (two-grew A B s.before r.family) ∙ s.none-grew)
      ])

  -- Theorem: no settling of an exchange of sessions with room meets 13
  pub exchange-never-13 : (p : Pair) → Fits A.size p.a → Fits B.size p.b → ExchangeNever13 2 (two A B) one_pair (family_of p)
  exchange-never-13 p f g = family-never-13 2 (two A B) one_pair (family_of p) (two-fit A B p f g)

-- ---- clean switches
module _ (A B : Switch) (e : Counted A) (f : Counted B) (p₀ : Pair) where
  abbrev counts : (i : ℕ) → Counted (two A B i)
  counts zero = e
  counts (suc i) = f

  -- sets closed for two are closed for the family
  joint : (X Y : Key → Bool) → JointlyClosed A B e f p₀ X Y → ClosedAlong 2 (two A B) counts one_pair (family_of p₀) (two X Y)
  joint X Y j = record { stood = stood; peels = peels; along = λ a b _. along a b }
    where
      stood : (i : ℕ) → i < 2 → (k : Key) → listed (two p₀.a p₀.b i) k ≡ true → two X Y i k ≡ true
      stood zero _ = j.stood-a
      stood (suc i) _ = j.stood-b

      peels : (i : ℕ) → i < 2 → PeelClosed (two A B i).has (counts i).flows (two X Y i)
      peels zero _ = j.peels-a
      peels (suc i) _ = j.peels-b

      along : (a b : ℕ) → (k : Key) → among k (counts b).flows ≡ true → two X Y a k ≡ true → two X Y b k ≡ true
      along zero zero k m x = x
      along zero (suc b) k m x = j.from-a k m x
      along (suc a) zero k m x = j.from-b k m x
      along (suc a) (suc b) k m x = x

  two-closure : (q : Family) → ClosureAlong 2 (two A B) counts one_pair (family_of p₀) q → JointClosure A B e f p₀ (pair_of q)
  unfolding both_ways leads
  two-closure q c = record {
    closed = record {
      stood-a = c.closed.stood 0 (omega arith);
      stood-b = c.closed.stood 1 (omega arith);
      peels-a = c.closed.peels 0 (omega arith);
      peels-b = c.closed.peels 1 (omega arith);
      from-b = c.closed.along 1 0 refl;
      from-a = c.closed.along 0 1 refl;
    };
    least-a = λ X Y j. c.least (two X Y) (joint X Y j) 0 (omega arith);
    least-b = λ X Y j. c.least (two X Y) (joint X Y j) 1 (omega arith);
  }

  two-counted : (q : Family) → BothCounted A B e f (pair_of q) → AllCounted 2 (two A B) counts q
  two-counted q o zero _ = o.ours-a
  two-counted q o (suc zero) _ = o.ours_b
  two-counted q o (suc (suc i)) b = absurd (omega arith)

  module _ (hA : Holds A e p₀.a) (hB : Holds B f p₀.b) (fitA : Fits A.size p₀.a) (fitB : Fits B.size p₀.b)
      (ours : BothCounted A B e f (exchange A B p₀).pair) where
    abbrev final : Ended
    final = exchange_along 2 (two A B) one_pair (family_of p₀)

    within : Within 2 one_pair
    within = within_both 2 (record { from = 0; to = 1 } ∷ []) (unfold Within in (omega arith, omega arith, tt))

    holds : (i : ℕ) → i < 2 → Holds (two A B i) (counts i) (two p₀.a p₀.b i)
    holds zero _ = hA
    holds (suc i) _ = hB

    all-counted : AllCounted 2 (two A B) counts final.family
    all-counted = two-counted final.family (subst (λ r. BothCounted A B e f r.pair) (sym (two-are A B p₀)) ours)

    -- Theorem: no 14 ends the exchange
    pub exchange-ends : (exchange A B p₀).ending ≡ finished
    exchange-ends = sym (ap (λ r. r.ending) (two-are A B p₀))
        ∙ ap end_of (family-ends 2 (two A B) one_pair within counts (family_of p₀) holds (two-fit A B p₀ fitA fitB) all-counted)

    rests-at : (i : ℕ) → i < 2 → AtRest (two A B i).size (two A B i).has (final.family.session i)
    rests-at = family-rests 2 (two A B) one_pair within counts (family_of p₀) holds (two-fit A B p₀ fitA fitB) all-counted

    -- Theorem: both sessions are left at rest
    pub exchange-rests : AtRest A.size A.has (exchange A B p₀).pair.a × AtRest B.size B.has (exchange A B p₀).pair.b
    exchange-rests = (
      subst (λ (r : Exchanged). AtRest A.size A.has r.pair.a) (two-are A B p₀) (rests-at 0 (omega arith)),
      subst (λ (r : Exchanged). AtRest B.size B.has r.pair.b) (two-are A B p₀) (rests-at 1 (omega arith)),
    )

    -- Theorem: with no answer 12 each list is the joint closure
    pub exchange-closure : PassesOwn A e → PassesOwn B f → (exchange A B p₀).pair.twelves ≡ 0 → JointClosure A B e f p₀ (exchange A B p₀).pair
    exchange-closure ownA ownB none-12 = subst (λ r. JointClosure A B e f p₀ r.pair) (two-are A B p₀) (two-closure final.family
        (family-closure 2 (two A B) one_pair within counts (family_of p₀) holds (two-fit A B p₀ fitA fitB) all-counted own
        (ap (λ (r : Exchanged). r.pair.twelves) (two-are A B p₀) ∙ none-12)))
      where
        own : (i : ℕ) → i < 2 → PassesOwn (two A B i) (counts i)
        own zero _ = ownA
        own (suc i) _ = ownB

-- ---- one switch, whatever the other is
module _ (A B : Switch) (p : Pair) where
  -- Theorem: to each of the two an exchange is some hand-overs and settlings
  pub exchange-calls-a : (later : List Call) × ((exchange A B p).pair.a ≡ calls A later p.a)
  unfolding calls
  exchange-calls-a = subst (λ (r : Exchanged). (later : List Call) × (r.pair.a ≡ calls A later p.a)) (two-are A B p)
      (one-by-calls (two A B) 0 p.a 2 one_pair (family_of p) ([], refl))

  pub exchange-calls-b : (later : List Call) × ((exchange A B p).pair.b ≡ calls B later p.b)
  unfolding calls
  exchange-calls-b = subst (λ (r : Exchanged). (later : List Call) × (r.pair.b ≡ calls B later p.b)) (two-are A B p)
      (one-by-calls (two A B) 1 p.b 2 one_pair (family_of p) ([], refl))

  -- Theorem: where every flow that A accepted was counted there, its session stays one of its flowset; and so B's
  pub exchange-stands-a : (e : Counted A) → Stands A e p.a → HandedCounted e.flows (exchange A B p).pair.a → Stands A e (exchange A B p).pair.a
  exchange-stands-a e g ours =
      let c = exchange-calls-a in
      subst (Stands A e) (sym c.1) (stands-calls A e c.0 p.a g (subst (HandedCounted e.flows) c.1 ours))

  pub exchange-stands-b : (f : Counted B) → Stands B f p.b → HandedCounted f.flows (exchange A B p).pair.b → Stands B f (exchange A B p).pair.b
  exchange-stands-b f g ours =
      let c = exchange-calls-b in
      subst (Stands B f) (sym c.1) (stands-calls B f c.0 p.b g (subst (HandedCounted f.flows) c.1 ours))
