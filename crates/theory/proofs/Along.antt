-- What one switch and a family do in an exchange: a list handed over to a session of a flowset; settlings in order of which none stopped;
-- hand-overs along ways without growth and without an answer 12, which were refused throughout.
use mathlib.Core.Path.{◌≡◌, refl, sym, ap, ◌∙◌, subst}
use mathlib.Core.Logic.{inl, inr}
use mathlib.Core.Bool.{Bool, true, false}
use mathlib.Core.List.{List, [], ◌∷◌, ◌++◌}
use Prim.Native.Nat.{ℕ, zero, suc, ◌≤◌, ◌<◌}
use native.Mathlib.Decide.{ℕ_discrete}
use native.Mathlib.Nat.{le_refl}
use native.Mathlib.Omega.{arith}
use lib.ListN.{length}
use lib.Dec.{eqb, leb}
use Rattle.laws.proofs.Bools.{split, clash}
use Rattle.theory.specs.Encode.{Key, among}
use Rattle.theory.specs.Session.{Session, keys_of, handed_of, listed, handed_over, Stop}
use Rattle.theory.specs.HandOver.{Switch, hand_answer, hand_over, Call, settling, call, calls, hand_each, settle_at}
use Rattle.theory.specs.Invariant.{Counted, Holds}
use Rattle.theory.specs.Exchange.{hand_all, twelves_in}
use Rattle.theory.specs.Family.{Family, FamilyEnding, ended, stopped_at, Ended, Way, leads, Within, put_at, hand_to, hand_along, and_then}
use Rattle.theory.specs.Family.{settle_one, settle_upto, exchange_along}
use Rattle.theory.proofs.Flow.{among-here, among_there}
use Rattle.theory.proofs.Records.{where-listed}
use Rattle.theory.proofs.Settle.{none-empty}
use Rattle.theory.proofs.HandOver.{accepts, calls-append}
use Rattle.theory.proofs.Calls.{Goes, goes-holds, settle_goes, hand-goes}
use Rattle.theory.proofs.Grown.{grown-length, Passed, passed}
use Rattle.theory.proofs.Generic.{put-here, put_other, put_all, put_same}
use Rattle.theory.proofs.Onward.{leads-cases, upto-keeps, exchange-keeps}
use Rattle.theory.proofs.Onward.{onward-hand, onward-along}
use Rattle.theory.proofs.Room.{then-ended}

-- ---- one switch
pub handed-in : (X : Key → Bool) (s : Session) → ((k : Key) → listed s k ≡ true → X k ≡ true) → (k : Key) → handed_over s k ≡ true → X k ≡ true
handed-in X s x k h = x k (where-listed (λ r. r.handed) s.list k h)

module _ (w : Switch) (e : Counted w) (s₀ : Session) (i₀ : Holds w e s₀) where
  -- a flow that passes the filter and was answered neither 0 nor 12 is listed
  pub flow-listed : (s : Session) → Goes w e s₀ i₀ s → (k : Key) → among k e.flows ≡ true → w.passes k ≡ true
      → (eqb (hand_answer w k s) 0 ≡ false) × (eqb (hand_answer w k s) 12 ≡ false) → listed s k ≡ true
  unfolding hand_answer
  flow-listed s g k m p q = elim (split (listed s k)) [
    | inl l ↦ l
    | inr l ↦
        let z = none-empty w e s₀ i₀ s (goes-holds w e s₀ i₀ g) k m l in
        elim (split (leb w.size (length (handed_of s.list)))) [
          | inl r ↦ clash refl (rw (p, l, z, r) at q.1)
          | inr r ↦ clash refl (rw (p, l, z, r) at q.0)
        ]
  ]

  -- a list whose keys that pass were counted here
  pub list-goes : (l : List Key) (s : Session) → Goes w e s₀ i₀ s
      → ((k : Key) → among k l ≡ true → w.passes k ≡ true → among k e.flows ≡ true) → Goes w e s₀ i₀ (hand_all w l s)
  unfolding calls call hand_each
  list-goes [] s g h = g
  list-goes (x ∷ l) s g h = list-goes l (hand_over w x s)
      (hand-goes w e s₀ i₀ x s g (λ z. h x (among-here x l) (accepts w x s z).filtered)) (λ k m. h k (among_there k x l m))

-- ---- settlings in order, where none stopped
then-went : (go : Family → Ended) (r : Ended) (end : FamilyEnding) → r.ending ≡ end → (and_then go r end).ending ≡ ended → end ≡ ended
unfolding and_then
then-went go r ended e h = refl
then-went go r (stopped_at i s) e h = sym e ∙ h

pub never_both : {A : Type 0} (i : ℕ) (s : Stop) {end : FamilyEnding} → end ≡ ended → end ≡ stopped_at i s → A
never_both i s {end = end} p q = absurd (let z : ◌≡◌ {A = ℕ} 0 1 = cc in omega arith)

module _ (W : ℕ → Switch) where
  settle_other : (i j : ℕ) (p : Family) → (j ≡ i → ⊥) → (settle_one W i p).family.session j ≡ p.session j
  unfolding settle_one
  settle_other i j p d = put_other i _ p.session j d

  upto-above : (m : ℕ) (p : Family) (i : ℕ) → m ≤ i → (settle_upto W m p).family.session i ≡ p.session i
  upto-above m p i b = upto-keeps m W (λ q. q.session i ≡ p.session i) (λ j q c h. settle_other j i q (λ z. omega arith) ∙ h)
      m (le_refl m) p refl

  pub upto-below : (m : ℕ) (p : Family) → (settle_upto W m p).ending ≡ ended → (i : ℕ) → i < m
      → (settle_upto W m p).family.session i ≡ (settle_at (W i) (p.session i)).state
  unfolding settle_upto settle_one
  upto-below zero p h i b = absurd (omega arith)
  upto-below (suc m) p h i b =
      let r = settle_upto W m p in
      let went = then-went (settle_one W m) r r.ending refl h in
      let s = (settle_at (W m) (r.family.session m)).state in
      let z = ap (λ t. t.family.session i) (then-ended (settle_one W m) r r.ending went) in
      elim (ℕ_discrete i m) [
        | yes e ↦ z ∙ subst (λ j. put_at m s r.family.session j ≡ (settle_at (W j) (p.session j)).state)
            (sym e) (put-here m _ r.family.session ∙ ap (λ s. (settle_at (W m) s).state) (upto-above m p m (le_refl m)))
        | no d ↦ z ∙ put_other m _ r.family.session i d ∙ upto-below m p went i (omega arith)
      ]

  -- ---- hand-overs along ways without growth and without an answer 12 were refused throughout
  family-path : (p q : Family) → p.session ≡ q.session → p.twelves ≡ q.twelves → p ≡ q
  family-path p q a b = ap (λ f. record { session = f; twelves = p.twelves }) a ∙ ap (λ t. record { session = q.session; twelves = t }) b

  module _ (v : Way) (p : Family) where
    abbrev pub given : List Key
    given = keys_of (p.session v.from).list

    pub hand-session : (hand_to W v p).session v.to ≡ hand_all (W v.to) given (p.session v.to)
    unfolding hand_to
    hand-session = put-here v.to _ p.session

    pub hand-away : (i : ℕ) → (i ≡ v.to → ⊥) → (hand_to W v p).session i ≡ p.session i
    unfolding hand_to
    hand-away i d = put_other v.to _ p.session i d

    hand-twelves : (hand_to W v p).twelves ≡ p.twelves → twelves_in (W v.to) given (p.session v.to) ≡ 0
    unfolding hand_to
    hand-twelves e = omega arith

    hand-none : hand_all (W v.to) given (p.session v.to) ≡ p.session v.to → (hand_to W v p).twelves ≡ p.twelves → hand_to W v p ≡ p
    unfolding hand_to
    hand-none e t = family-path (hand_to W v p) p (ap (λ s. put_at v.to s p.session) e ∙ put_same v.to p.session) t

  pub still-along : (n : ℕ) (l : List Way) (p : Family) → Within n l
      → ((i : ℕ) → i < n → length ((hand_along W l p).session i).list ≡ length (p.session i).list) → (hand_along W l p).twelves ≡ 0
      → (hand_along W l p ≡ p) × ((i j : ℕ) → leads l i j ≡ true → Passed (W j) (keys_of (p.session i).list) (p.session j))
  unfolding hand_along Within leads
  still-along n [] p b same z = (refl, λ i j y. clash y refl)
  still-along n (v ∷ l) p b same z =
      let q = hand_to W v p in
      let j = v.to in
      let o = onward-hand W v p in
      let o' = onward-along W l q in
      let twelves : q.twelves ≡ p.twelves = omega (arith, o.twelves-le, o'.twelves-le, z) in
      let long : length (q.session j).list ≡ length (p.session j).list = omega (
        arith,
        same j b.1,
        grown-length (p.session j) (q.session j) (o.grown j),
        grown-length (q.session j) ((hand_along W l q).session j) (o'.grown j),
      ) in
      let refused = passed (W j) (given v p) (p.session j) (ap (λ s. length s.list) (sym (hand-session v p)) ∙ long) (hand-twelves v p twelves) in
      let none : q ≡ p = hand-none v p refused.kept twelves in
      let later = still-along n l p b.2 (λ i c. ap (λ f. length ((hand_along W l f).session i).list) (sym none) ∙ same i c)
      (ap (λ f. (hand_along W l f).twelves) (sym none) ∙ z) in (
        ap (hand_along W l) none ∙ later.0,
        λ a c y. elim (leads-cases v l a c y) [
          | inl h ↦ rw (h.0, h.1) refused
          | inr h ↦ later.1 a c h
        ],
      )

-- ---- one switch of a family in an exchange, whatever the others are
module _ (W : ℕ → Switch) (i : ℕ) (s : Session) where
  -- what stands at this switch is what some hand-overs and settlings leave of s
  abbrev ByCalls : Family → Type 0
  ByCalls p = (later : List Call) × (p.session i ≡ calls (W i) later s)

  settled-by : (j : ℕ) (p : Family) → ByCalls p → ByCalls (settle_one W j p).family
  unfolding settle_one calls call
  settled-by j p b = elim (ℕ_discrete i j) [
    | no d ↦ (b.0, put_other j _ p.session i d ∙ b.1)
    | yes q ↦ (
      b.0 ++ (settling ∷ []),
      subst (λ a. put_at a (settle_at (W a) (p.session a)).state p.session i ≡ calls (W i) (b.0 ++ (settling ∷ [])) s) q
          (put-here i _ p.session ∙ ap (λ u. (settle_at (W i) u).state) b.1 ∙ sym (calls-append (W i) b.0 (settling ∷ []) s)),
    )
  ]

  handed-by : (v : Way) (p : Family) → ByCalls p → ByCalls (hand_to W v p)
  handed-by v p b = elim (ℕ_discrete i v.to) [
    | no d ↦ (b.0, hand-away W v p i d ∙ b.1)
    | yes q ↦ (
      b.0 ++ hand_each (given W v p),
      subst (λ a. (hand_to W v p).session a ≡ hand_all (W a) (given W v p) (p.session a)) (sym q) (hand-session W v p)
          ∙ ap (hand_all (W i) (given W v p)) b.1 ∙ sym (calls-append (W i) b.0 (hand_each (given W v p)) s),
    )
  ]

  -- Theorem: to each switch an exchange is some hand-overs and settlings
  pub one-by-calls : (n : ℕ) (l : List Way) (p : Family) → ByCalls p → ByCalls (exchange_along n W l p).family
  one-by-calls n l = exchange-keeps n W ByCalls (λ j p _. settled-by j p) l (λ v p _. handed-by v p)

module _ (W : ℕ → Switch) (i : ℕ) (e : Counted (W i)) (s₀ : Session) (i₀ : Holds (W i) e s₀) where
  abbrev pub GoesIn : Family → Type 0
  GoesIn p = Goes (W i) e s₀ i₀ (p.session i)

  pub one-settles : (j : ℕ) (p : Family) → GoesIn p → GoesIn (settle_one W j p).family
  unfolding settle_one
  one-settles j p g = put_all j _ p.session (λ a t. a ≡ i → Goes (W i) e s₀ i₀ t)
      (λ q. subst (λ a. Goes (W i) e s₀ i₀ (settle_at (W a) (p.session a)).state) (sym q) (settle_goes (W i) e s₀ i₀ (p.session i) g).0)
      (λ a q. subst (λ b. Goes (W i) e s₀ i₀ (p.session b)) (sym q) g) i refl
