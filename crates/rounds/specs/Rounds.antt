-- The rounds of an exchange of two sessions: 01 'A session', "Exchange of A and B".
use Rattle.std.specs.Prelude.{cond, List, ℕ, zero, suc, ◌+◌, ◌*◌, Ok, Err}
use Rattle.layout.specs.declared.Layout.{Layout}
use Rattle.layout.specs.Sizes.{table_cells}
use Rattle.peeling.specs.Peel.{Stop}
use Rattle.parts.specs.Sides.{Switch, Side, settle_side, hand_list, with_given}
use Rattle.ending.specs.Over.{Ending, ending_a, ending_b, is_over}

-- both sides, and the number of answers 12 so far
pub record Pair : Type 0 where
  pub a : Side
  pub b : Side
  pub twelves : ℕ

abbrev pub pair : Side → Side → ℕ → Pair
pair a b twelves = record { a = a; b = b; twelves = twelves }

-- how settlings ended, and what stands then
pub record Ended : Type 0 where
  pub ending : Ending
  pub pair : Pair

abbrev pub ended : Ending → Pair → Ended
ended ending p = record { ending = ending; pair = p }

-- B is settled only where A's settling went through
unfoldable pub then_b : Layout → Switch → Side → Side → ℕ → Stop → Ended
then_b l B a b twelves (Ok n) = let t = settle_side l B b in ended (ending_b t.stop) (pair a t.left twelves)
then_b l B a b twelves (Err d) = ended (ending_a (Err d)) (pair a b twelves)

-- 01 'A session', Exchange: "settle A, settle B"
unfoldable pub settle_both : Layout → Switch → Switch → Pair → Ended
settle_both l A B p = let s = settle_side l A p.a in then_b l B s.left p.b p.twelves s.stop

-- 01 'A session', Exchange: "hands A's list in order to B, then B's to A"; f and g are the received filters
unfoldable pub hand_both : Layout → Switch → List ℕ → Switch → List ℕ → Pair → Pair
hand_both l A f B g p =
    let to_b = hand_list l B g p.a.list.keys p.a.listed p.b in
    let to_a = hand_list l A f to_b.list.keys to_b.listed p.a in
    pair (with_given p.a to_a) (with_given p.b to_b) (p.twelves + to_b.twelves + to_a.twelves)

-- 01 'A session', Exchange: "a round hands A's list in order to B, then B's to A, and settles both"
unfoldable pub round : Layout → Switch → List ℕ → Switch → List ℕ → Pair → Ended
round l A f B g p = settle_both l A B (hand_both l A f B g p)

-- at most so many rounds
unfoldable pub rounds : ℕ → Layout → Switch → List ℕ → Switch → List ℕ → Pair → Ended
rounds zero l A f B g p = ended (Ok tt) p
rounds (suc m) l A f B g p =
    let r = round l A f B g p in
    let q = r.pair in
    cond (is_over p.a.listed p.b.listed q.a.listed q.b.listed r.ending) r (rounds m l A f B g q)

-- lists of 2 N records can grow in no more rounds than they have room for
abbrev pub most_rounds : Layout → Switch → Switch → ℕ
most_rounds l A B = 2 * table_cells l A.sizes + 2 * table_cells l B.sizes + 1

-- the rounds, where the two settlings before them went through
unfoldable pub then_rounds : Layout → Switch → List ℕ → Switch → List ℕ → Pair → Ending → Ended
then_rounds l A f B g p (Ok done) = rounds (most_rounds l A B) l A f B g p
then_rounds l A f B g p (Err d) = ended (Err d) p

-- 01 'A session', Exchange: "settle A, settle B; a round ..; it ends after a round in which neither list grew"
unfoldable pub exchange_sides : Layout → Switch → List ℕ → Switch → List ℕ → Pair → Ended
exchange_sides l A f B g p = let r = settle_both l A B p in then_rounds l A f B g r.pair r.ending
