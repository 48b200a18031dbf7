-- The exchange call under demand 2's premises: it leaves sessions of the same flowsets; at both switches it ends with 0, at its end, each list is
-- the joint closure, and hand-overs add no count.
use mathlib.Core.Path.{◌≡◌, sym, ap, ap₂, subst, ◌∙◌}
use Rattle.layout.specs.declared.Layout.{Layout}
use Rattle.exchange.specs.Exchange.{exchange_number}
use Rattle.theory.specs.HandOver.{Switch}
use Rattle.theory.specs.Invariant.{Counted}
use Rattle.theory.specs.Runs.{Stands, AtRest}
use Rattle.theory.specs.Demands.{HandedCounted, Truthful, AtEnd}
use Rattle.theory.specs.Exchange.{Pair, BothCounted, JointClosure, CountsAlone, exchange}
use Rattle.theory.proofs.Demands.{stands-holds, truthful, rest-ends, counts_alone}
use Rattle.theory.proofs.Exchange.{exchange-ends, exchange-rests, exchange-closure, exchange-stands-a, exchange-stands-b}
use Rattle.demands.specs.Calls.{Live, viewed, switch_at, Passing}
use Rattle.demands.specs.Demands.{StandsAt}
use Rattle.joint.specs.Exchanges.{exchange_on, exchanged_a, exchanged_b, pair_before, pair_after}
use Rattle.joint.proofs.Exchanges.{exchange-pair, exchanged-a, exchanged-b, exchange-number, end_number, passing-a, passing-b, switch-a, switch-b}

-- ---- one switch, whatever session the other is
-- Theorem: where every flow that the first switch accepted was counted there, its session stays one of its flowset
pub first-stands : (l : Layout) (A : Switch) (F : Counted A) (u v : Live) → StandsAt l A F u → Passing l v → u.numbers.slot ≡ v.numbers.slot
    → HandedCounted F.flows (viewed l (exchanged_a l u v)) → StandsAt l A F (exchanged_a l u v)
first-stands l A F u v su pv slots ours =
    let left : viewed l (exchanged_a l u v) ≡ (exchange A (switch_at l v) (pair_before l u v)).pair.a
    = exchanged-a l u v su.passing pv slots ∙ ap (λ w. (exchange w (switch_at l v) (pair_before l u v)).pair.a) su.switch-is in
    record {
      switch-is = switch-a l u v su.passing pv slots ∙ su.switch-is;
      passing = passing-a l u v su.passing pv slots;
      stands = subst (Stands A F) (sym left)
          (exchange-stands-a A (switch_at l v) (pair_before l u v) F su.stands (subst (HandedCounted F.flows) left ours));
      own = su.own;
    }

-- Theorem: and so the second's
pub second-stands : (l : Layout) (B : Switch) (G : Counted B) (u v : Live) → Passing l u → StandsAt l B G v → u.numbers.slot ≡ v.numbers.slot
    → HandedCounted G.flows (viewed l (exchanged_b l u v)) → StandsAt l B G (exchanged_b l u v)
second-stands l B G u v pu sv slots ours =
    let left : viewed l (exchanged_b l u v) ≡ (exchange (switch_at l u) B (pair_before l u v)).pair.b
    = exchanged-b l u v pu sv.passing slots ∙ ap (λ w. (exchange (switch_at l u) w (pair_before l u v)).pair.b) sv.switch-is in
    record {
      switch-is = switch-b l u v pu sv.passing slots ∙ sv.switch-is;
      passing = passing-b l u v pu sv.passing slots;
      stands = subst (Stands B G) (sym left)
          (exchange-stands-b (switch_at l u) B (pair_before l u v) G sv.stands (subst (HandedCounted G.flows) left ours));
      own = sv.own;
    }

-- ---- both: 01 'A session', Exchange: "Under demand 2's premises at both switches"
module _ (l : Layout) (A B : Switch) (F : Counted A) (G : Counted B) (u v : Live) (su : StandsAt l A F u) (sv : StandsAt l B G v)
    (slots : u.numbers.slot ≡ v.numbers.slot) (ours : BothCounted A B F G (pair_after l u v)) where
  pair_is : pair_after l u v ≡ (exchange A B (pair_before l u v)).pair
  pair_is = exchange-pair l u v su.passing sv.passing slots
      ∙ ap₂ (λ a b. (exchange a b (pair_before l u v)).pair) su.switch-is sv.switch-is

  abbrev then : BothCounted A B F G (exchange A B (pair_before l u v)).pair
  then = subst (BothCounted A B F G) pair_is ours

  -- Theorem: no 14 ends it
  pub joint-ends : exchange_number (exchange_on l u v).answer ≡ 0
  joint-ends = exchange-number l u v su.passing sv.passing slots
      ∙ ap₂ (λ a b. end_number (exchange a b (pair_before l u v)).ending) su.switch-is sv.switch-is
      ∙ ap end_number (exchange-ends A B F G (pair_before l u v) (stands-holds A F (viewed l u) su.stands) (stands-holds B G (viewed l v) sv.stands)
      su.stands.fits sv.stands.fits then)

  -- Theorem: both sessions are of their flowsets still, so that any later call finds what it needs
  pub joint-stands : StandsAt l A F (exchanged_a l u v) × StandsAt l B G (exchanged_b l u v)
  joint-stands = (
    first-stands l A F u v su sv.passing slots ours.ours-a,
    second-stands l B G u v su.passing sv slots ours.ours_b,
  )

  -- Theorem: what both list, state and leave in the cells is true
  pub joint-true : Truthful F.key_length A.has F.flows F.packets (pair_after l u v).a
      × Truthful G.key_length B.has G.flows G.packets (pair_after l u v).b
  joint-true = (
    truthful A F (viewed l (exchanged_a l u v)) joint-stands.0.stands,
    truthful B G (viewed l (exchanged_b l u v)) joint-stands.1.stands,
  )

  rests : AtRest A.size A.has (pair_after l u v).a × AtRest B.size B.has (pair_after l u v).b
  rests = subst (λ (p : Pair). AtRest A.size A.has p.a × AtRest B.size B.has p.b) (sym pair_is)
      (exchange-rests A B F G (pair_before l u v) (stands-holds A F (viewed l u) su.stands) (stands-holds B G (viewed l v) sv.stands)
      su.stands.fits sv.stands.fits then)

  -- Theorem: at both, no cell has a single unlisted flow and no fully listed cell a single uncounted one
  pub joint-at-end : AtEnd A.has F.flows (pair_after l u v).a × AtEnd B.has G.flows (pair_after l u v).b
  joint-at-end = (
    rest-ends A F (viewed l (exchanged_a l u v)) joint-stands.0.stands rests.0,
    rest-ends B G (viewed l (exchanged_b l u v)) joint-stands.1.stands rests.1,
  )

  -- Theorem: the counts known are those that each flowset yields by itself
  pub joint-counts : CountsAlone A B F G (pair_after l u v)
  joint-counts = record {
    alone-a = counts_alone A F (viewed l (exchanged_a l u v)) joint-stands.0.stands rests.0;
    alone-b = counts_alone B G (viewed l (exchanged_b l u v)) joint-stands.1.stands rests.1;
  }

  -- Theorem: "and with no answer 12, each list is the joint closure" of what stood there
  pub joint-closure : (pair_after l u v).twelves ≡ 0 → JointClosure A B F G (pair_before l u v) (pair_after l u v)
  joint-closure none-12 = subst (JointClosure A B F G (pair_before l u v)) (sym pair_is)
      (exchange-closure A B F G (pair_before l u v) (stands-holds A F (viewed l u) su.stands) (stands-holds B G (viewed l v) sv.stands)
      su.stands.fits sv.stands.fits then su.own sv.own (ap (λ (p : Pair). p.twelves) (sym pair_is) ∙ none-12))
