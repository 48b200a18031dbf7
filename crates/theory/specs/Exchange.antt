-- The exchange of two switches in rounds, and the joint closure of their lists.
use Rattle.std.specs.Prelude.{◌≡◌, Bool, true, cond, ◌||◌, List, [], ◌∷◌, ℕ, zero, suc, ◌+◌, ◌*◌, length, eqb, ltb}
use Rattle.theory.specs.Encode.{Key, among}
use Rattle.theory.specs.Session.{Session, keys_of, listed, count_of, Stop, settled, damage}
use Rattle.theory.specs.HandOver.{Switch, hand_answer, hand_over, calls, hand_each, settle_at}
use Rattle.theory.specs.Runs.{PeelClosed}
use Rattle.theory.specs.Invariant.{Counted, received}
use Rattle.theory.specs.Demands.{HandedCounted}

-- the two sessions, and the number of answers 12 so far
pub record Pair : Type 0 where
  pub a : Session
  pub b : Session
  pub twelves : ℕ

-- 01 'A session', Exchange: "A 13 or 14 ends it and names the switch and the cell"; 02 l takes out 13
pub data Ending : Type 0 where
  finished : Ending
  stopped_a : Stop → Ending
  stopped_b : Stop → Ending

-- how the exchange ended, and what stands then
pub record Exchanged : Type 0 where
  pub pair : Pair
  pub ending : Ending

-- a list handed over in order, and how many of its keys are answered with 12
abbrev pub hand_all : Switch → List Key → Session → Session
hand_all w l s = calls w (hand_each l) s

unfoldable pub twelves_in : Switch → List Key → Session → ℕ
twelves_in w [] s = 0
twelves_in w (x ∷ l) s = cond (eqb (hand_answer w x s) 12) 1 0 + twelves_in w l (hand_over w x s)

-- 01 'A session', Exchange: "hands A's list in order to B, then B's to A"
unfoldable pub hand_both : Switch → Switch → Pair → Pair
hand_both A B p =
    let b₁ = hand_all B (keys_of p.a.list) p.b in
    record {
      a = hand_all A (keys_of b₁.list) p.a;
      b = b₁;
      twelves = p.twelves + twelves_in B (keys_of p.a.list) p.b + twelves_in A (keys_of b₁.list) p.a;
    }

-- B's settling ended so
abbrev pub after_b : Session → Session → ℕ → Stop → Exchanged
after_b s t n settled = record { pair = record { a = s; b = t; twelves = n }; ending = finished }
after_b s t n (damage c) = record { pair = record { a = s; b = t; twelves = n }; ending = stopped_b (damage c) }

-- A's settling ended so: B is settled only where A's went through
abbrev pub after_a : Switch → Session → Session → ℕ → Stop → Exchanged
after_a B s t n settled = after_b s (settle_at B t).state n (settle_at B t).stop
after_a B s t n (damage c) = record { pair = record { a = s; b = t; twelves = n }; ending = stopped_a (damage c) }

-- A settled, then B, unless A's settling stops
unfoldable pub settle_both : Switch → Switch → Pair → Exchanged
settle_both A B p = after_a B (settle_at A p.a).state p.b p.twelves (settle_at A p.a).stop

-- 01 'A session', Exchange: "a round hands A's list in order to B, then B's to A, and settles both"
abbrev pub round : Switch → Switch → Pair → Exchanged
round A B p = settle_both A B (hand_both A B p)

-- a list grew
abbrev pub grew : Pair → Pair → Bool
grew p q = ltb (length p.a.list) (length q.a.list) || ltb (length p.b.list) (length q.b.list)

-- another round where a list grew
unfoldable pub go_on : (Pair → Exchanged) → Pair → Exchanged → Ending → Exchanged
go_on go p r finished = cond (grew p r.pair) (go r.pair) r
go_on go p r (stopped_a s) = r
go_on go p r (stopped_b s) = r

-- 01 'A session', Exchange: "it ends after a round in which neither list grew"
unfoldable pub rounds : Switch → Switch → ℕ → Pair → Exchanged
rounds A B zero p = record { pair = p; ending = finished }
rounds A B (suc m) p = go_on (rounds A B m) p (round A B p) (round A B p).ending

-- the rounds, where the two settlings before them went through
unfoldable pub then_rounds : Switch → Switch → ℕ → Exchanged → Ending → Exchanged
then_rounds A B m r finished = rounds A B m r.pair
then_rounds A B m r (stopped_a s) = r
then_rounds A B m r (stopped_b s) = r

-- 01 'A session', Exchange: "settle A, settle B; a round .."; lists of 2 N records can grow in no more rounds than they have room for
unfoldable pub exchange : Switch → Switch → Pair → Exchanged
exchange A B p = then_rounds A B (2 * A.size + 2 * B.size + 1) (settle_both A B p) (settle_both A B p).ending

-- the flows that a switch counted pass its own filter
abbrev pub PassesOwn : (w : Switch) → Counted w → Type 0
PassesOwn w e = (k : Key) → among k e.flows ≡ true → w.passes k ≡ true

-- 01 'A session', Exchange: "Under demand 2's premises at both switches": every flow handed over was counted there
pub record BothCounted (A B : Switch) (e : Counted A) (f : Counted B) (q : Pair) : Type 0 where
  pub ours-a : HandedCounted e.flows q.a
  pub ours_b : HandedCounted f.flows q.b

-- two sets of flows that hold what stood there, what each table then peels, and the other's flows that were counted here
pub record JointlyClosed (A B : Switch) (e : Counted A) (f : Counted B) (p : Pair) (X Y : Key → Bool) : Type 0 where
  pub stood-a : (k : Key) → listed p.a k ≡ true → X k ≡ true
  pub stood-b : (k : Key) → listed p.b k ≡ true → Y k ≡ true
  pub peels-a : PeelClosed A.has e.flows X
  pub peels-b : PeelClosed B.has f.flows Y
  pub from-b : (k : Key) → among k e.flows ≡ true → Y k ≡ true → X k ≡ true
  pub from-a : (k : Key) → among k f.flows ≡ true → X k ≡ true → Y k ≡ true

-- 01 'A session', Exchange: "each list is the joint closure: the least that holds what stood there, what its table then peels,
-- and the other's flows that were counted here"
pub record JointClosure (A B : Switch) (e : Counted A) (f : Counted B) (p q : Pair) : Type 0 where
  pub closed : JointlyClosed A B e f p (listed q.a) (listed q.b)
  pub least-a : (X Y : Key → Bool) → JointlyClosed A B e f p X Y → (k : Key) → listed q.a k ≡ true → X k ≡ true
  pub least-b : (X Y : Key → Bool) → JointlyClosed A B e f p X Y → (k : Key) → listed q.b k ≡ true → Y k ≡ true

-- 01 'A session', Exchange: "Counts known after settling are then those the flowset yields by itself", at both switches
pub record CountsAlone (A B : Switch) (e : Counted A) (f : Counted B) (q : Pair) : Type 0 where
  pub alone-a : (k : Key) → count_of q.a.list k ≡ count_of (settle_at A (received A e)).state.list k
  pub alone-b : (k : Key) → count_of q.b.list k ≡ count_of (settle_at B (received B f)).state.list k
