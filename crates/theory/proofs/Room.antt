-- The exchange of any sessions that have room, whatever their cells hold: the rounds allowed are enough, it ends with a stop or after
-- a round in which no list grew, and no settling of it meets 13.
use mathlib.Core.Path.{◌≡◌, refl, sym, ap, ◌∙◌, subst}
use mathlib.Core.Logic.{◌⊎◌, inl, inr}
use mathlib.Core.Bool.{Bool, true, false, cond}
use mathlib.Core.List.{List}
use Prim.Native.Nat.{ℕ, zero, suc, ◌+◌, ◌*◌, ◌≤◌, ◌<◌}
use native.Mathlib.Nat.{le_refl}
use native.Mathlib.Omega.{arith}
use lib.ListN.{length}
use lib.Dec.{ltb}
use Rattle.laws.proofs.Bools.{split}
use Rattle.laws.proofs.Upto.{any_some}
use Rattle.theory.specs.Session.{keys_of, Stop, settled, damage}
use Rattle.theory.specs.HandOver.{Switch, hand_each, settle_at}
use Rattle.theory.specs.Fits.{Fits}
use Rattle.theory.specs.Family.{Family, FamilyEnding, ended, stopped_at, Ended, Way, leads, hand_to, hand_along, and_then, ending_at, settle_one}
use Rattle.theory.specs.Family.{settle_upto, round_along, any_grew, rounds_along, sum_upto, rounds_room, exchange_along}
use Rattle.theory.specs.Thirteen.{family_after, ExchangeNever13}
use Rattle.theory.proofs.Steps.{fits-length}
use Rattle.theory.proofs.Settle.{settle-fits, never-13}
use Rattle.theory.proofs.HandOver.{calls-fit}
use Rattle.theory.proofs.Grown.{grown-length}
use Rattle.theory.proofs.Generic.{sum-le, sum_lt, put_all}
use Rattle.theory.proofs.Onward.{Onward, onward-round, then_keeps, upto-keeps, along-keeps, round_keeps}
use borrow.Author.Tests.{ltb-true}

-- ---- what follows, where the ending is known
module _ (go : Family → Ended) (r : Ended) where
  pub then-ended : (end : FamilyEnding) → end ≡ ended → and_then go r end ≡ go r.family
  unfolding and_then
  then-ended end e = rw e

  pub then-stopped : (end : FamilyEnding) (i : ℕ) (s : Stop) → end ≡ stopped_at i s → and_then go r end ≡ r
  unfolding and_then
  then-stopped end i s e = rw e

then_same : (go gone : Family → Ended) (r : Ended) (end : FamilyEnding) → go r.family ≡ gone r.family → and_then go r end ≡ and_then gone r end
unfolding and_then
then_same go gone r ended e = e
then_same go gone r (stopped_at i s) e = refl

ending-cases : (i : ℕ) (stop : Stop) → (ending_at i stop ≡ ended) ⊎ ((c : Stop) × (ending_at i stop ≡ stopped_at i c))
ending-cases i settled = inl refl
ending-cases i (damage c) = inr (damage c, refl)

-- ---- the two ways to end: a settling stopped, from a family of which P holds
pub record Stopped (n : ℕ) (W : ℕ → Switch) (P : Family → Type 0) (r : Ended) : Type 0 where
  pub switch : ℕ
  pub before : Family
  pub stop : Stop
  pub below : switch < n
  pub holds : P before
  pub is : r ≡ settle_one W switch before
  pub ends : r.ending ≡ stopped_at switch stop

-- or after some rounds one went through in which no list grew, from a family of which P holds
pub record Still (n : ℕ) (W : ℕ → Switch) (l : List Way) (P : Family → Type 0) (first : Family) (r : Ended) : Type 0 where
  pub rounds : ℕ
  pub before : Family
  pub reached : rounds_along n W l rounds first ≡ record { family = before; ending = ended }
  pub holds : P before
  pub is : r ≡ round_along n W l before
  pub ends : r.ending ≡ ended
  pub none-grew : any_grew n before r.family ≡ false

abbrev pub Over : ℕ → (ℕ → Switch) → List Way → (Family → Type 0) → Family → Ended → Type 0
Over n W l P first r = Stopped n W P r ⊎ Still n W l P first r

-- every session has room
abbrev pub AllFit : ℕ → (ℕ → Switch) → Family → Type 0
AllFit n W p = (i : ℕ) → i < n → Fits (W i).size (p.session i)

abbrev pub lengths : ℕ → Family → ℕ
lengths n p = sum_upto n (λ i. length (p.session i).list)

module _ (n : ℕ) (W : ℕ → Switch) where
  pub hand-fit : (v : Way) (p : Family) → AllFit n W p → AllFit n W (hand_to W v p)
  unfolding hand_to
  hand-fit v p f = put_all v.to _ p.session (λ j s. j < n → Fits (W j).size s)
      (λ b. calls-fit (W v.to) (hand_each (keys_of (p.session v.from).list)) (p.session v.to) (f v.to b)) f

  pub settle-fit : (i : ℕ) (p : Family) → AllFit n W p → AllFit n W (settle_one W i p).family
  unfolding settle_one
  settle-fit i p f = put_all i _ p.session (λ j s. j < n → Fits (W j).size s)
      (λ b. settle-fits (W i).size (W i).has (p.session i) (f i b)) f

  room-left : (p : Family) → AllFit n W p → lengths n p ≤ rounds_room n W
  room-left p f = sum-le n (λ i. length (p.session i).list) (λ i. 2 * (W i).size) (λ i b. fits-length (W i).size (p.session i) (f i b))

  -- a round in which a list grew leaves less room
  longer : (p q : Family) → Onward p q → any_grew n p q ≡ true → lengths n p < lengths n q
  unfolding any_grew
  longer p q o y =
      let a : ℕ → ℕ = λ i. length (p.session i).list in
      let b : ℕ → ℕ = λ i. length (q.session i).list in
      let r = any_some n (λ i. ltb (a i) (b i)) y in
      sum_lt n a b (λ i _. omega (arith, grown-length (p.session i) (q.session i) (o.grown i)))
      r.0 r.1 (ltb-true (a r.0) (b r.0) r.2)

  -- ---- with what hand-overs and settlings keep
  module _ (P : Family → Type 0) (fits : (p : Family) → P p → AllFit n W p)
      (settle-kept : (i : ℕ) (p : Family) → i < n → P p → P (settle_one W i p).family) where
    upto-over : (m : ℕ) → m ≤ n → (p : Family) → P p → ((settle_upto W m p).ending ≡ ended) ⊎ Stopped n W P (settle_upto W m p)
    unfolding settle_upto settle_one
    upto-over zero b p h = inl refl
    upto-over (suc m) b p h =
        let r = settle_upto W m p in
        let q = r.family in
        elim (upto-over m (omega arith) p h) [
          | inr s ↦ inr (subst (Stopped n W P) (sym (then-stopped (settle_one W m) r r.ending s.switch s.stop s.ends)) s)
          | inl e ↦ (let z = then-ended (settle_one W m) r r.ending e in elim (ending-cases m (settle_at (W m) (q.session m)).stop) [
            | inl f ↦ inl (ap (λ t. t.ending) z ∙ f)
            | inr f ↦ inr (record {
              switch = m;
              before = q;
              stop = f.0;
              below = omega arith;
              holds = upto-keeps n W P settle-kept m (omega arith) p h;
              is = z;
              ends = ap (λ t. t.ending) z ∙ f.1;
            })
          ])
        ]

    module _ (l : List Way) (hand-kept : (v : Way) (p : Family) → leads l v.from v.to ≡ true → P p → P (hand_to W v p)) where
      abbrev OverFrom : Family → Ended → Type 0
      OverFrom = Over n W l P

      -- a round more before them
      over-later : (p q : Family) (r : Ended) → ((m : ℕ) → rounds_along n W l (suc m) p ≡ rounds_along n W l m q) → OverFrom q r → OverFrom p r
      over-later p q r step (inl s) = inl s
      over-later p q r step (inr s) = inr (record {
        rounds = suc s.rounds;
        before = s.before;
        reached = step s.rounds ∙ s.reached;
        holds = s.holds;
        is = s.is;
        ends = s.ends;
        none-grew = s.none-grew;
      })

      rounds-over : (m : ℕ) (p : Family) → P p → rounds_room n W < m + lengths n p → OverFrom p (rounds_along n W l m p)
      unfolding rounds_along
      rounds-over zero p h f = absurd (omega (arith, room-left p (fits p h)))
      rounds-over (suc m) p h f =
          let r = round_along n W l p in
          let on : ℕ → Family → Ended = λ t q. cond (any_grew n p q) (rounds_along n W l t q) r in
          elim (upto-over n (le_refl n) (hand_along W l p) (along-keeps n W P settle-kept l hand-kept p h)) [
            | inr s ↦ subst (OverFrom p) (sym (then-stopped (on m) r r.ending s.switch s.stop s.ends)) (inl s)
            | inl e ↦
                (let step : (t : ℕ) (b : Bool) → any_grew n p r.family ≡ b
                → and_then (on t) r r.ending ≡ cond b (rounds_along n W l t r.family) r
                = λ t b y. then-ended (on t) r r.ending e ∙ ap (λ c. cond c (rounds_along n W l t r.family) r) y in
                elim (split (any_grew n p r.family)) [
                  | inl y ↦ subst (OverFrom p) (sym (step m true y)) (over-later p r.family (rounds_along n W l m r.family)
                      (λ t. step t true y) (rounds-over m r.family (round_keeps n W P settle-kept l hand-kept p h)
                      (omega (arith, longer p r.family (onward-round W n l p) y))))
                  | inr y ↦ subst (OverFrom p) (sym (step m false y))
                      (inr (record { rounds = 0; before = p; reached = refl; holds = h; is = refl; ends = e; none-grew = y }))
                ])
          ]

      -- Theorem: the exchange ends with a stop, or after a round in which no list grew
      pub over-keeping : (p : Family) → P p → OverFrom (settle_upto W n p).family (exchange_along n W l p)
      unfolding exchange_along
      over-keeping p h =
          let r = settle_upto W n p in
          let go = rounds_along n W l (rounds_room n W + 1) in
          elim (upto-over n (le_refl n) p h) [
            | inr s ↦ subst (OverFrom r.family) (sym (then-stopped go r r.ending s.switch s.stop s.ends)) (inl s)
            | inl e ↦ subst (OverFrom r.family) (sym (then-ended go r r.ending e))
                (rounds-over (rounds_room n W + 1) r.family (upto-keeps n W P settle-kept n (le_refl n) p h) (omega arith))
          ]

  -- ---- any sessions with room
  module _ (l : List Way) where
    pub family-over : (p : Family) → AllFit n W p → Over n W l (AllFit n W) (settle_upto W n p).family (exchange_along n W l p)
    family-over = over-keeping (AllFit n W) (λ p f. f) (λ i p _. settle-fit i p) l (λ v p _. hand-fit v p)

    -- Theorem: any two numbers of rounds that are enough for the room left give the same
    pub rounds-enough : (m m' : ℕ) (p : Family) → AllFit n W p → rounds_room n W < m + lengths n p → rounds_room n W < m' + lengths n p
        → rounds_along n W l m p ≡ rounds_along n W l m' p
    unfolding rounds_along
    rounds-enough zero m' p f g g' = absurd (omega (arith, room-left p f))
    rounds-enough (suc m) zero p f g g' = absurd (omega (arith, room-left p f))
    rounds-enough (suc m) (suc m') p f g g' =
        let r = round_along n W l p in
        let fit = round_keeps n W (AllFit n W) (λ i q _. settle-fit i q) l (λ v q _. hand-fit v q) p f in
        then_same (λ q. cond (any_grew n p q) (rounds_along n W l m q) r) (λ q. cond (any_grew n p q) (rounds_along n W l m' q) r) r r.ending
        (elim (split (any_grew n p r.family)) [
          | inr y ↦ rw y
          | inl y ↦ (let more = longer p r.family (onward-round W n l p) y in
              rw y (rounds-enough m m' r.family fit (omega arith) (omega arith)))
        ])

    -- Theorem: with more rounds allowed, the exchange is the same
    pub family-enough : (p : Family) → AllFit n W p → (m : ℕ) → rounds_room n W < m
        → and_then (rounds_along n W l m) (settle_upto W n p) (settle_upto W n p).ending ≡ exchange_along n W l p
    unfolding exchange_along
    family-enough p f m g =
        let r = settle_upto W n p in
        then_same (rounds_along n W l m) (rounds_along n W l (rounds_room n W + 1)) r r.ending
        (rounds-enough m (rounds_room n W + 1) r.family (upto-keeps n W (AllFit n W) (λ i q _. settle-fit i q) n (le_refl n) p f)
        (omega arith) (omega arith))

    -- ---- answer 13
    upto-fit : (m : ℕ) → m ≤ n → (p : Family) → AllFit n W p → AllFit n W (settle_upto W m p).family
    upto-fit = upto-keeps n W (AllFit n W) (λ i q _. settle-fit i q)

    along-fit : (p : Family) → AllFit n W p → AllFit n W (hand_along W l p)
    along-fit = along-keeps n W (AllFit n W) (λ i q _. settle-fit i q) l (λ v q _. hand-fit v q)

    after-fit : (p : Family) → AllFit n W p → (m : ℕ) → AllFit n W (family_after n W l p m)
    unfolding family_after
    after-fit p f zero = upto-fit n (le_refl n) p f
    after-fit p f (suc m) = upto-fit n (le_refl n) (hand_along W l (family_after n W l p m)) (along-fit (family_after n W l p m) (after-fit p f m))

    -- Theorem: no settling of it meets 13
    pub family-never-13 : (p : Family) → AllFit n W p → ExchangeNever13 n W l p
    family-never-13 p f = record {
      at_first = λ i b. never-13 (W i) _ (upto-fit i (omega arith) p f i b);
      in-round = λ m i b. never-13 (W i) _ (upto-fit i (omega arith) _ (along-fit (family_after n W l p m) (after-fit p f m)) i b);
    }

    -- one of the families that this speaks of
    abbrev pub Through : Family → Family → Type 0
    Through p q = (r : ℕ) × (q ≡ family_after n W l p r)

    rounds-from : (p : Family) (m k : ℕ) → Through p (rounds_along n W l m (family_after n W l p k)).family
    unfolding rounds_along family_after
    rounds-from p zero k = (k, refl)
    rounds-from p (suc m) k =
        let q = family_after n W l p k in
        let r = round_along n W l q in
        then_keeps (Through p) (λ f. cond (any_grew n q f) (rounds_along n W l m f) r) r r.ending (suc k, refl)
        (λ h. elim (split (any_grew n q r.family)) [ inl y ↦ rw y (rounds-from p m (suc k)) | inr y ↦ rw y h ])

    -- Theorem: the exchange goes through these families: any number of its rounds ends in one of them, and so does the whole
    pub rounds-through : (m : ℕ) (p : Family) → Through p (rounds_along n W l m (settle_upto W n p).family).family
    unfolding family_after
    rounds-through m p = rounds-from p m 0

    pub exchange-through : (p : Family) → Through p (exchange_along n W l p).family
    unfolding exchange_along family_after
    exchange-through p =
        let r = settle_upto W n p in
        then_keeps (Through p) (rounds_along n W l (rounds_room n W + 1)) r r.ending (0, refl) (λ _. rounds-through (rounds_room n W + 1) p)
