-- What an exchange leaves of two sessions is what lists can be, and FlowXOR stays bytes.
use mathlib.Core.Logic.{inl, inr}
use mathlib.Core.List.{List}
use Prim.Native.Nat.{ℕ, zero, suc}
use Rattle.std.specs.Prelude.{Ok, Err}
use Rattle.laws.specs.BigEndian.{Bytes}
use Rattle.laws.proofs.Bools.{split}
use Rattle.laws.proofs.Upto.{each_keeps}
use Rattle.layout.specs.Sizes.{ipv4_layout}
use Rattle.list.specs.Records.{key_at}
use Rattle.peeling.specs.Peel.{Stop}
use Rattle.parts.specs.Sides.{Switch, Side, settle_side, Given, given, hand_at, hand_keys, hand_list}
use Rattle.rounds.specs.Rounds.{Pair, then_b, settle_both, hand_both, round, rounds, most_rounds, then_rounds, exchange_sides}
use Rattle.ending.specs.Over.{Ending, is_over}
use Rattle.follows.proofs.Kept.{Keep, xor-bytes, settled-keeps, handed-keeps}

-- one session, whose list has room for m records
abbrev SideKept : ℕ → Side → Type 0
SideKept m s = Keep m s.table s.list

module _ (m : ℕ) (w : Switch) where
  side-settled : (s : Side) → SideKept m s → SideKept m (settle_side ipv4_layout w s).left
  unfolding settle_side
  side-settled s h = settled-keeps m w.sizes w.salt s.listed s.table s.packets s.list s.seen h

  abbrev GivenKept : Given → Type 0
  GivenKept g = Keep m g.table g.list

  side-handed : (filter keys : List ℕ) (k : ℕ) (s : Side) → Bytes keys → SideKept m s → GivenKept (hand_list ipv4_layout w filter keys k s)
  unfolding hand_list hand_keys hand_at
  side-handed filter keys k s bytes h =
      each_keeps GivenKept k (hand_at ipv4_layout w filter keys) (given s.listed 0 s.table s.list s.seen) h
      (λ i x l q. handed-keeps m w.sizes w.salt x.listed (key_at ipv4_layout keys i) filter x.table x.list x.seen (xor-bytes keys i bytes) q)

-- both
module _ (m n : ℕ) (A B : Switch) where
  abbrev BothKept : Pair → Type 0
  BothKept p = SideKept m p.a × SideKept n p.b

  then-kept : (a b : Side) (twelves : ℕ) (s : Stop) → SideKept m a → SideKept n b → BothKept (then_b ipv4_layout B a b twelves s).pair
  unfolding then_b
  then-kept a b twelves (Ok k) h q = (h, side-settled n B b q)
  then-kept a b twelves (Err d) h q = (h, q)

  both-settled : (p : Pair) → BothKept p → BothKept (settle_both ipv4_layout A B p).pair
  unfolding settle_both
  both-settled p h =
      let s = settle_side ipv4_layout A p.a in
      then-kept s.left p.b p.twelves s.stop (side-settled m A p.a h.0) h.1

  module _ (f g : List ℕ) where
    both-handed : (p : Pair) → BothKept p → BothKept (hand_both ipv4_layout A f B g p)
    unfolding hand_both
    both-handed p h =
        let to_b = hand_list ipv4_layout B g p.a.list.keys p.a.listed p.b in
        let kept = side-handed n B g p.a.list.keys p.a.listed p.b h.0.1.bytes h.1 in
        (side-handed m A f to_b.list.keys to_b.listed p.a kept.1.bytes h.0, kept)

    round-kept : (p : Pair) → BothKept p → BothKept (round ipv4_layout A f B g p).pair
    unfolding round
    round-kept p h = both-settled (hand_both ipv4_layout A f B g p) (both-handed p h)

    rounds-kept : (k : ℕ) (p : Pair) → BothKept p → BothKept (rounds k ipv4_layout A f B g p).pair
    unfolding rounds
    rounds-kept zero p h = h
    rounds-kept (suc k) p h =
        let r = round ipv4_layout A f B g p in
        let q = r.pair in
        elim (split (is_over p.a.listed p.b.listed q.a.listed q.b.listed r.ending)) [
          | inl e ↦ rw e (round-kept p h)
          | inr e ↦ rw e (rounds-kept k q (round-kept p h))
        ]

    then-rounds : (p : Pair) (o : Ending) → BothKept p → BothKept (then_rounds ipv4_layout A f B g p o).pair
    unfolding then_rounds
    then-rounds p (Ok done) h = rounds-kept (most_rounds ipv4_layout A B) p h
    then-rounds p (Err d) h = h

    pub exchange-kept : (p : Pair) → BothKept p → BothKept (exchange_sides ipv4_layout A f B g p).pair
    unfolding exchange_sides
    exchange-kept p h = let r = settle_both ipv4_layout A B p in then-rounds r.pair r.ending (both-settled p h)
