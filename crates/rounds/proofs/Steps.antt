-- What settling both and handing lists over leaves of the two sessions.
use Rattle.std.proofs.Common.{◌≡◌, refl, ap, ◌∙◌, List, length, ℕ, ◌+◌, ◌*◌, ◌≤◌, ◌<◌, Ok, Err, arith}
use Rattle.std.specs.Prelude.{⊤}
use native.Mathlib.Nat.{mul-le-mul}
use Rattle.laws.proofs.Rows.{row_within}
use Rattle.layout.specs.declared.Layout.{Layout}
use Rattle.layout.specs.Sizes.{table_cells, filter_bytes}
use Rattle.layout.proofs.Ranges.{table-high}
use Rattle.list.proofs.Laws.{length-key}
use Rattle.peeling.specs.Peel.{Stop}
use Rattle.settling.proofs.Laws.{settle-lasts}
use Rattle.ending.specs.declared.Switch.TheVariants as by
use Rattle.ending.specs.declared.Stopped.{Stopped}
use Rattle.ending.specs.Over.{Ending, ending_of}
use Rattle.parts.specs.Sides.{Switch, Side, Stands, Rested, rested, settle_side, given, hand_list, with_given}
use Rattle.parts.proofs.Hands.{keys-ready}
use Rattle.rounds.specs.Rounds.{Pair, pair, ended, then_b, settle_both, hand_both, round}

-- settling keeps all in its room
pub settled-stands : (l : Layout) (w : Switch) (s : Side) → Stands l w s → Stands l w (settle_side l w s).left
unfolding settle_side
settled-stands l w s h =
    let r = settle-lasts l w.sizes w.salt s.listed s.table s.packets s.list s.seen h.steady h.packets-fit in
    record { steady = r.steady; packets-fit = r.packets-fit }

-- ---- how both settlings end
module _ (l : Layout) (A B : Switch) where
  stop-a : (x b : Side) (twelves : ℕ) (r : Stop) {d : Stopped} → Err d ≡ ending_of by.A r
      → ended (Err d) (pair x b twelves) ≡ then_b l B x b twelves r
  unfolding then_b
  stop-a x b twelves (Ok n) q = absurd (cc)
  stop-a x b twelves (Err e) q = ap (λ o. ended o (pair x b twelves)) q

  on-b : (x b : Side) (twelves : ℕ) (r : Stop) {u : ⊤} → Ok u ≡ ending_of by.A r
      → ended (ending_of by.B (settle_side l B b).stop) (pair x (settle_side l B b).left twelves) ≡ then_b l B x b twelves r
  unfolding then_b
  on-b x b twelves (Ok n) q = refl
  on-b x b twelves (Err e) q = absurd (cc)

  module _ (p : Pair) {r : Stop} {x : Side} (e : rested r x ≡ settle_side l A p.a) where
    then-is : then_b l B x p.b p.twelves r ≡ settle_both l A B p
    unfolding settle_both
    then-is = ap (λ (s : Rested). then_b l B s.left p.b p.twelves s.stop) e

    pub both-stopped : {d : Stopped} → Err d ≡ ending_of by.A r → ended (Err d) (pair x p.b p.twelves) ≡ settle_both l A B p
    both-stopped q = stop-a x p.b p.twelves r q ∙ then-is

    pub both-settled : {u : ⊤} → Ok u ≡ ending_of by.A r → {r' : Stop} {y : Side} → rested r' y ≡ settle_side l B p.b → {o : Ending} → o ≡ ending_of by.B r'
        → ended o (pair x y p.twelves) ≡ settle_both l A B p
    both-settled q {r'} {y} f {o} i =
        ap (λ v. ended v (pair x y p.twelves)) i
        ∙ ap (λ (s : Rested). ended (ending_of by.B s.stop) (pair x s.left p.twelves)) f
        ∙ on-b x p.b p.twelves r q ∙ then-is

-- ---- lists handed over
-- the keys of a session
key-sized : (l : Layout) (w : Switch) (s : Side) → Stands l w s → (i : ℕ) → i < s.listed → i * l.key + l.key ≤ length s.list.keys
key-sized l w s h i q =
    omega (arith, row_within i (2 * table_cells l w.sizes) l.key (omega (arith, q, h.steady.fits.listed)), h.steady.fits.room.keys-fit)

-- its list fills no more than its keys' bytes
pub keys-within : (l : Layout) (w : Switch) (s : Side) → Stands l w s → s.listed * l.key ≤ length s.list.keys
keys-within l w s h = let most = mul-le-mul {n₁ = s.listed} {m₁ = l.key} {n₂ = 2 * table_cells l w.sizes} {m₂ = l.key} h.steady.fits.listed (omega arith) in
    omega (arith, most, h.steady.fits.room.keys-fit)

pub listed-few : (l : Layout) (w : Switch) (s : Side) → Stands l w s → s.listed ≤ 3072
listed-few l w s h = let fits = h.steady.fits in omega (arith, fits.listed, table-high l w.sizes fits.table.lays fits.table.ranged)

pub given-stands : (l : Layout) (w : Switch) (filter : List ℕ) (from : Side) (v : Switch) (to : Side) → Stands l v from → Stands l w to
    → length filter ≡ filter_bytes w.sizes
    → Stands l w (with_given to (hand_list l w filter from.list.keys from.listed to))
unfolding hand_list
given-stands l w filter from v to g h f = record {
  steady = keys-ready l w.sizes w.salt filter from.list.keys from.listed f
      (λ i q. length-key l from.list.keys i (key-sized l v from g i q)) (given to.listed 0 to.table to.list to.seen) h.steady;
  packets-fit = h.packets-fit;
}

-- ---- a round keeps both in their room
pub record Stand (l : Layout) (A B : Switch) (p : Pair) : Type 0 where
  pub stands-a : Stands l A p.a
  pub stands_b : Stands l B p.b

module _ (l : Layout) (A B : Switch) where
  then-stands : (a b : Side) (twelves : ℕ) → Stands l A a → Stands l B b → (x : Stop) → Stand l A B (then_b l B a b twelves x).pair
  unfolding then_b
  then-stands a b twelves f g (Ok n) = record { stands-a = f; stands_b = settled-stands l B b g }
  then-stands a b twelves f g (Err d) = record { stands-a = f; stands_b = g }

  pub both-stand : (p : Pair) → Stand l A B p → Stand l A B (settle_both l A B p).pair
  unfolding settle_both
  both-stand p h =
      then-stands (settle_side l A p.a).left p.b p.twelves (settled-stands l A p.a h.stands-a) h.stands_b (settle_side l A p.a).stop

  module _ (f g : List ℕ) (f-fits : length f ≡ filter_bytes A.sizes) (g-fits : length g ≡ filter_bytes B.sizes) (p : Pair) (h : Stand l A B p) where
    pub hand-stands : Stand l A B (hand_both l A f B g p)
    unfolding hand_both
    hand-stands =
        let b = given-stands l B g p.a A p.b h.stands-a h.stands_b g-fits in
        let to_b = hand_list l B g p.a.list.keys p.a.listed p.b in
        record { stands-a = given-stands l A f (with_given p.b to_b) B p.a b h.stands-a f-fits; stands_b = b }

    pub round-stands : Stand l A B (round l A f B g p).pair
    unfolding round
    round-stands = both-stand (hand_both l A f B g p) hand-stands
