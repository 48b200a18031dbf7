-- What every hand-over and settling keeps, the exchange keeps; it takes nothing back: lists only grow, flows handed over stay so,
-- and the number of answers 12 never falls. True of any sessions.
use mathlib.Core.Path.{◌≡◌, refl, sym, ◌∙◌}
use mathlib.Core.Logic.{◌⊎◌, inl, inr}
use mathlib.Core.Bool.{Bool, true, false, cond, ◌&&◌, ◌||◌, and_comm}
use mathlib.Core.List.{List, [], ◌∷◌}
use Prim.Native.Nat.{ℕ, zero, suc, ◌+◌, ◌≤◌, ◌<◌}
use native.Mathlib.Nat.{le_refl}
use native.Mathlib.Omega.{arith}
use lib.Dec.{eqb}
use Rattle.laws.proofs.Bools.{split, clash, and_l, and_r, or-e, or_r}
use Rattle.theory.specs.Encode.{Key, same_key, among}
use Rattle.theory.specs.Session.{Session, keys_of, handed_over}
use Rattle.theory.specs.HandOver.{Switch, hand_answer, hand_over, call, calls, hand_each, settle_at}
use Rattle.theory.specs.Exchange.{hand_all}
use Rattle.theory.specs.Family.{Family, FamilyEnding, ended, stopped_at, Ended, Way, both_ways, leads, SameWays, Within, put_at, hand_to}
use Rattle.theory.specs.Family.{hand_along, and_then, settle_one, settle_upto, round_along, any_grew, rounds_along, rounds_room, exchange_along}
use Rattle.theory.proofs.Flow.{same-eq, among-here, among_there}
use Rattle.theory.proofs.Records.{handed-take}
use Rattle.theory.proofs.Settle.{settle-handed}
use Rattle.theory.proofs.HandOver.{handed-stays}
use Rattle.theory.proofs.Grown.{Grown, grown-refl, grown-trans, settle-grown, calls-grown}
use Rattle.theory.proofs.Generic.{put_all}
use borrow.Author.Tests.{eqb-true, eq-eqb}

-- what was handed over by handing over a list was handed over before, or is in the list
pub handed-from : (w : Switch) (l : List Key) (s : Session) (k : Key) → handed_over (hand_all w l s) k ≡ true
    → (handed_over s k ≡ true) ⊎ (among k l ≡ true)
unfolding calls call hand_each
handed-from w [] s k h = inl h
handed-from w (x ∷ l) s k h = elim (handed-from w l (hand_over w x s) k h) [
  | inr m ↦ inr (among_there k x l m)
  | inl m ↦ elim (one m) [ inl a ↦ inl a | inr e ↦ inr (rw e (among-here x l)) ]
]
  where
    one : handed_over (hand_over w x s) k ≡ true → (handed_over s k ≡ true) ⊎ (k ≡ x)
    one m = unfold hand_over in elim (split (eqb (hand_answer w x s) 0)) [
      | inr z ↦ inl (rw z at m)
      | inl z ↦ elim (or-e (handed_over s k) (same_key k x) (sym (handed-take w.has s x k) ∙ (rw z at m))) [
        | inl a ↦ inl a
        | inr e ↦ inr (same-eq k x e)
      ]
    ]

-- ---- the ways of a list
pub leads-here : (v : Way) (l : List Way) → leads (v ∷ l) v.from v.to ≡ true
unfolding leads
leads-here v l = rw (eq-eqb v.from v.from refl, eq-eqb v.to v.to refl)

pub leads-later : (v : Way) (l : List Way) (i j : ℕ) → leads l i j ≡ true → leads (v ∷ l) i j ≡ true
unfolding leads
leads-later v l i j y = or_r (eqb i v.from && eqb j v.to) (leads l i j) y

pub leads-cases : (v : Way) (l : List Way) (i j : ℕ) → leads (v ∷ l) i j ≡ true → ((i ≡ v.from) × (j ≡ v.to)) ⊎ (leads l i j ≡ true)
unfolding leads
leads-cases v l i j y =
    let a = eqb i v.from in
    let b = eqb j v.to in
    elim (or-e (a && b) (leads l i j) y) [
      | inl z ↦ inl (eqb-true i v.from (and_l a b z), eqb-true j v.to (and_r a b z))
      | inr z ↦ inr z
    ]

pub within-at : (n : ℕ) (l : List Way) → Within n l → (i j : ℕ) → leads l i j ≡ true → (i < n) × (j < n)
unfolding Within leads
within-at n [] b i j y = clash y refl
within-at n (v ∷ l) b i j y = elim (leads-cases v l i j y) [
  | inl z ↦ (omega (arith, z.0, b.0), omega (arith, z.1, b.1))
  | inr z ↦ within-at n l b.2 i j z
]

pub within_both : (n : ℕ) (l : List Way) → Within n l → Within n (both_ways l)
unfolding Within both_ways
within_both n [] b = tt
within_both n (v ∷ l) b = (b.0, b.1, (b.1, b.0, within_both n l b.2))

both-leads : (l : List Way) (i j : ℕ) → leads (both_ways l) i j ≡ (leads l i j || leads l j i)
unfolding leads both_ways
both-leads [] i j = refl
both-leads (v ∷ l) i j = rw (both-leads l i j, and_comm (eqb i v.to) (eqb j v.from))
    (or_swap (eqb i v.from && eqb j v.to) (eqb j v.from && eqb i v.to) (leads l i j) (leads l j i))
  where
    or_swap : (a b c d : Bool) → (a || (b || (c || d))) ≡ ((a || c) || (b || d))
    or_swap true b c d = refl
    or_swap false true true d = refl
    or_swap false true false d = refl
    or_swap false false c d = refl

pub both-same : (l m : List Way) → SameWays l m → SameWays (both_ways l) (both_ways m)
both-same l m same i j = both-leads l i j ∙ rw (same i j, same j i) (sym (both-leads m i j))

-- ---- what each settling keeps, and each hand-over along a way of the list
pub then_keeps : (P : Family → Type 0) (go : Family → Ended) (r : Ended) (end : FamilyEnding) → P r.family
    → (P r.family → P (go r.family).family) → P (and_then go r end).family
unfolding and_then
then_keeps P go r ended h on = on h
then_keeps P go r (stopped_at i s) h on = h

module _ (n : ℕ) (W : ℕ → Switch) (P : Family → Type 0) (settle-kept : (i : ℕ) (p : Family) → i < n → P p → P (settle_one W i p).family) where
  pub upto-keeps : (m : ℕ) → m ≤ n → (p : Family) → P p → P (settle_upto W m p).family
  unfolding settle_upto
  upto-keeps zero b p h = h
  upto-keeps (suc m) b p h = then_keeps P (settle_one W m) (settle_upto W m p) (settle_upto W m p).ending (upto-keeps m (omega arith) p h)
      (settle-kept m (settle_upto W m p).family (omega arith))

  module _ (l : List Way) (hand-kept : (v : Way) (p : Family) → leads l v.from v.to ≡ true → P p → P (hand_to W v p)) where
    part-keeps : (m : List Way) → ((i j : ℕ) → leads m i j ≡ true → leads l i j ≡ true) → (p : Family) → P p → P (hand_along W m p)
    unfolding hand_along
    part-keeps [] b p h = h
    part-keeps (v ∷ m) b p h =
        part-keeps m (λ i j y. b i j (leads-later v m i j y)) (hand_to W v p) (hand-kept v p (b v.from v.to (leads-here v m)) h)

    pub along-keeps : (p : Family) → P p → P (hand_along W l p)
    along-keeps = part-keeps l (λ i j y. y)

    pub round_keeps : (p : Family) → P p → P (round_along n W l p).family
    round_keeps p h = upto-keeps n (le_refl n) (hand_along W l p) (along-keeps p h)

    rounds-keep : (m : ℕ) (p : Family) → P p → P (rounds_along n W l m p).family
    unfolding rounds_along
    rounds-keep zero p h = h
    rounds-keep (suc m) p h =
        let r = round_along n W l p in
        then_keeps P (λ q. cond (any_grew n p q) (rounds_along n W l m q) r) r r.ending (round_keeps p h)
        (λ g. elim (split (any_grew n p r.family)) [ inl y ↦ rw y (rounds-keep m r.family g) | inr y ↦ rw y g ])

    pub exchange-keeps : (p : Family) → P p → P (exchange_along n W l p).family
    unfolding exchange_along
    exchange-keeps p h = then_keeps P (rounds_along n W l (rounds_room n W + 1)) (settle_upto W n p) (settle_upto W n p).ending
        (upto-keeps n (le_refl n) p h) (rounds-keep (rounds_room n W + 1) (settle_upto W n p).family)

-- ---- nothing is taken back
pub record Onward (p q : Family) : Type 0 where
  pub grown : (i : ℕ) → Grown (p.session i) (q.session i)
  pub handed : (i : ℕ) (k : Key) → handed_over (p.session i) k ≡ true → handed_over (q.session i) k ≡ true
  pub twelves-le : p.twelves ≤ q.twelves

pub onward-refl : (p : Family) → Onward p p
onward-refl p = record { grown = λ i. grown-refl (p.session i); handed = λ i k h. h; twelves-le = le_refl _ }

pub onward-trans : (p q r : Family) → Onward p q → Onward q r → Onward p r
onward-trans p q r f g = record {
  grown = λ i. grown-trans (p.session i) (q.session i) (r.session i) (f.grown i) (g.grown i);
  handed = λ i k h. g.handed i k (f.handed i k h);
  twelves-le = omega (arith, f.twelves-le, g.twelves-le);
}

module _ (W : ℕ → Switch) where
  -- the session of one switch goes on, and the others stay
  put-onward : (i : ℕ) (s : Session) (p : Family) (t : ℕ) → Grown (p.session i) s
      → ((k : Key) → handed_over (p.session i) k ≡ true → handed_over s k ≡ true) → p.twelves ≤ t
      → Onward p (record { session = put_at i s p.session; twelves = t })
  put-onward i s p t g h le = record {
    grown = put_all i s p.session (λ j u. Grown (p.session j) u) g (λ j. grown-refl (p.session j));
    handed = put_all i s p.session (λ j u. (k : Key) → handed_over (p.session j) k ≡ true → handed_over u k ≡ true) h (λ j k y. y);
    twelves-le = le;
  }

  pub onward-hand : (v : Way) (p : Family) → Onward p (hand_to W v p)
  unfolding hand_to
  onward-hand v p =
      let l = keys_of (p.session v.from).list in
      let s = p.session v.to in
      put-onward v.to (hand_all (W v.to) l s) p _ (calls-grown (W v.to) (hand_each l) s)
      (λ k. handed-stays (W v.to) (hand_each l) k s) (omega arith)

  pub onward-settle : (i : ℕ) (p : Family) → Onward p (settle_one W i p).family
  unfolding settle_one
  onward-settle i p =
      let s = p.session i in
      put-onward i (settle_at (W i) s).state p p.twelves (settle-grown (W i).size (W i).has s)
      (λ k h. rw (settle-handed (W i).size (W i).has s) h) (le_refl _)

  module _ (p₀ : Family) where
    hand_on : (v : Way) (p : Family) → Onward p₀ p → Onward p₀ (hand_to W v p)
    hand_on v p o = onward-trans p₀ p (hand_to W v p) o (onward-hand v p)

    settle-on : (i : ℕ) (p : Family) → Onward p₀ p → Onward p₀ (settle_one W i p).family
    settle-on i p o = onward-trans p₀ p (settle_one W i p).family o (onward-settle i p)

  pub onward-upto : (m : ℕ) (p : Family) → Onward p (settle_upto W m p).family
  onward-upto m p = upto-keeps m W (Onward p) (λ i q _. settle-on p i q) m (le_refl m) p (onward-refl p)

  pub onward-along : (l : List Way) (p : Family) → Onward p (hand_along W l p)
  onward-along l p = along-keeps 0 W (Onward p) (λ i q _. settle-on p i q) l (λ v q _. hand_on p v q) p (onward-refl p)

  pub onward-round : (n : ℕ) (l : List Way) (p : Family) → Onward p (round_along n W l p).family
  onward-round n l p = onward-trans p (hand_along W l p) (round_along n W l p).family (onward-along l p) (onward-upto n (hand_along W l p))
