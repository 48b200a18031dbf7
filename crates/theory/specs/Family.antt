-- The exchange of a family of switches along ways from one to another, and the joint closure of their lists; two switches are one case.
use Rattle.std.specs.Prelude.{◌≡◌, Bool, true, false, cond, ◌&&◌, ◌||◌, List, [], ◌∷◌, ℕ, zero, suc, ◌+◌, ◌*◌, ◌<◌, length, eqb, ltb}
use Rattle.laws.specs.Upto.{any_upto}
use Rattle.theory.specs.Encode.{Key, among}
use Rattle.theory.specs.Session.{Session, keys_of, listed, Stop, settled, damage}
use Rattle.theory.specs.HandOver.{Switch, settle_at}
use Rattle.theory.specs.Runs.{PeelClosed}
use Rattle.theory.specs.Invariant.{Counted}
use Rattle.theory.specs.Demands.{HandedCounted}
use Rattle.theory.specs.Exchange.{Pair, hand_all, twelves_in}

-- the session of each switch, and the number of answers 12 so far
pub record Family : Type 0 where
  pub session : ℕ → Session
  pub twelves : ℕ

-- 01 'A session', Exchange: "A 13 or 14 ends it and names the switch and the cell"; 02 l takes out 13
pub data FamilyEnding : Type 0 where
  ended : FamilyEnding
  stopped_at : ℕ → Stop → FamilyEnding

-- how the exchange ended, and what stands then
pub record Ended : Type 0 where
  pub family : Family
  pub ending : FamilyEnding

-- ---- the ways along which lists are handed over
-- one switch's list to another
pub record Way : Type 0 where
  pub from : ℕ
  pub to : ℕ

-- 01 'A session', Exchange: "A's list in order to B, then B's to A", for each pair in order
unfoldable pub both_ways : List Way → List Way
both_ways [] = []
both_ways (v ∷ l) = v ∷ record { from = v.to; to = v.from } ∷ both_ways l

-- whether the list has the way from i to j
unfoldable pub leads : List Way → ℕ → ℕ → Bool
leads [] i j = false
leads (v ∷ l) i j = (eqb i v.from && eqb j v.to) || leads l i j

-- the same ways, in any order
abbrev pub SameWays : List Way → List Way → Type 0
SameWays l m = (i j : ℕ) → leads l i j ≡ leads m i j

-- the ways are between switches below n
unfoldable pub Within : ℕ → List Way → Type 0
Within n [] = Unit {0}
Within n (v ∷ l) = (v.from < n) × (v.to < n) × Within n l

-- ---- hand-overs
-- the values of f, with that at i replaced
unfoldable pub put_at : {T : Type 0} → ℕ → T → (ℕ → T) → ℕ → T
put_at i s f j = cond (eqb j i) s (f j)

-- 01 'A session', Exchange: "hands A's list in order to B"
unfoldable pub hand_to : (ℕ → Switch) → Way → Family → Family
hand_to W v p =
    let l = keys_of (p.session v.from).list in
    let s = p.session v.to in
    record { session = put_at v.to (hand_all (W v.to) l s) p.session; twelves = p.twelves + twelves_in (W v.to) l s }

-- and so along each way in order
unfoldable pub hand_along : (ℕ → Switch) → List Way → Family → Family
hand_along W [] p = p
hand_along W (v ∷ l) p = hand_along W l (hand_to W v p)

-- ---- settlings
-- on from what stands, unless a stop ended it
unfoldable pub and_then : (Family → Ended) → Ended → FamilyEnding → Ended
and_then go r ended = go r.family
and_then go r (stopped_at i s) = r

-- switch i's settling ended so
abbrev pub ending_at : ℕ → Stop → FamilyEnding
ending_at i settled = ended
ending_at i (damage c) = stopped_at i (damage c)

-- switch i settled
unfoldable pub settle_one : (ℕ → Switch) → ℕ → Family → Ended
settle_one W i p =
    let r = settle_at (W i) (p.session i) in
    record { family = record { session = put_at i r.state p.session; twelves = p.twelves }; ending = ending_at i r.stop }

-- the switches below n settled in order, up to the first that stops
unfoldable pub settle_upto : (ℕ → Switch) → ℕ → Family → Ended
settle_upto W zero p = record { family = p; ending = ended }
settle_upto W (suc n) p = and_then (settle_one W n) (settle_upto W n p) (settle_upto W n p).ending

-- ---- rounds
-- 01 'A session', Exchange: "a round hands A's list in order to B, then B's to A, and settles both"
abbrev pub round_along : ℕ → (ℕ → Switch) → List Way → Family → Ended
round_along n W l p = settle_upto W n (hand_along W l p)

-- a list grew
unfoldable pub any_grew : ℕ → Family → Family → Bool
any_grew n p q = any_upto n (λ i. ltb (length (p.session i).list) (length (q.session i).list))

-- 01 'A session', Exchange: "it ends after a round in which neither list grew"
unfoldable pub rounds_along : ℕ → (ℕ → Switch) → List Way → ℕ → Family → Ended
rounds_along n W l zero p = record { family = p; ending = ended }
rounds_along n W l (suc m) p =
    let r = round_along n W l p in
    and_then (λ q. cond (any_grew n p q) (rounds_along n W l m q) r) r r.ending

-- the sum of the values at 0, 1, .. below n
unfoldable pub sum_upto : ℕ → (ℕ → ℕ) → ℕ
sum_upto zero f = 0
sum_upto (suc n) f = sum_upto n f + f n

-- lists of 2 N records can grow in no more rounds than they have room for
abbrev pub rounds_room : ℕ → (ℕ → Switch) → ℕ
rounds_room n W = sum_upto n (λ i. 2 * (W i).size)

-- 01 'A session', Exchange: "settle A, settle B; a round .."
unfoldable pub exchange_along : ℕ → (ℕ → Switch) → List Way → Family → Ended
exchange_along n W l p = and_then (rounds_along n W l (rounds_room n W + 1)) (settle_upto W n p) (settle_upto W n p).ending

-- ---- two switches as a family
abbrev pub two : {T : Type 0} → T → T → ℕ → T
two x y zero = x
two x y (suc i) = y

abbrev pub family_of : Pair → Family
family_of p = record { session = two p.a p.b; twelves = p.twelves }

abbrev pub one_pair : List Way
one_pair = both_ways (record { from = 0; to = 1 } ∷ [])

-- ---- what it ends in
-- demand 2's premise at each switch: every flow handed over was counted there
abbrev pub AllCounted : ℕ → (W : ℕ → Switch) → ((i : ℕ) → Counted (W i)) → Family → Type 0
AllCounted n W e q = (i : ℕ) → i < n → HandedCounted (e i).flows (q.session i)

-- no flow of one switch passes the filter of another that did not count it
abbrev pub FiltersApart : ℕ → (W : ℕ → Switch) → ((i : ℕ) → Counted (W i)) → Type 0
FiltersApart n W e = (i j : ℕ) → i < n → j < n → (k : Key) → among k (e i).flows ≡ true → (W j).passes k ≡ true → among k (e j).flows ≡ true

-- sets of flows, one for each switch, that hold what stood there, what each table then peels, and along each way the other's flows
-- that were counted here
pub record ClosedAlong (n : ℕ) (W : ℕ → Switch) (e : (i : ℕ) → Counted (W i)) (l : List Way) (p : Family) (X : ℕ → Key → Bool) : Type 0 where
  pub stood : (i : ℕ) → i < n → (k : Key) → listed (p.session i) k ≡ true → X i k ≡ true
  pub peels : (i : ℕ) → i < n → PeelClosed (W i).has (e i).flows (X i)
  pub along : (i j : ℕ) → leads l i j ≡ true → (k : Key) → among k (e j).flows ≡ true → X i k ≡ true → X j k ≡ true

-- 01 'A session', Exchange: "each list is the joint closure: the least that holds what stood there, what its table then peels,
-- and the other's flows that were counted here"
pub record ClosureAlong (n : ℕ) (W : ℕ → Switch) (e : (i : ℕ) → Counted (W i)) (l : List Way) (p q : Family) : Type 0 where
  pub closed : ClosedAlong n W e l p (λ i. listed (q.session i))
  pub least : (X : ℕ → Key → Bool) → ClosedAlong n W e l p X → (i : ℕ) → i < n → (k : Key) → listed (q.session i) k ≡ true → X i k ≡ true
