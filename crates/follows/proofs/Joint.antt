-- The exchange over records is the exchange over numbers, so that its theorems hold of it.
use mathlib.Core.Path.{◌≡◌, sym, ap, subst, ◌∙◌}
use Prim.Native.Nat.{◌+◌}
use lib.ListN.{length}
use Rattle.laws.specs.BigEndian.{Bytes}
use Rattle.layout.specs.Sizes.{ipv4_layout}
use Rattle.exchange.specs.Exchange.{Exchanging, exchanging, exchange_of, exchange_number, side_of}
use Rattle.rounds.specs.Joined.{switch_of}
use Rattle.rounds.specs.Rounds.{pair}
use Rattle.exchange.specs.Exchange as numbers
use Rattle.theory.specs.HandOver.{Switch}
use Rattle.theory.specs.Invariant.{Counted}
use Rattle.theory.specs.Demands.{Truthful, AtEnd}
use Rattle.theory.specs.Exchange.{Pair, BothCounted, JointClosure, CountsAlone}
use Rattle.demands.specs.Calls.{Passing}
use Rattle.demands.specs.Demands.{StandsAt}
use Rattle.joint.specs.Exchanges as joint
use Rattle.joint.proofs.Exchanges.{done, exchange-passed}
use Rattle.joint.proofs.Joint as theorems
use Rattle.records.proofs.Trip.{Sound, apart-sound}
use Rattle.calls.specs.Calls.{as_numbers, as_records, over_records}
use Rattle.follows.specs.Calls.{Held, as_live}
use Rattle.follows.specs.Exchanges.{exchange_on, left_on, pair_after}
use Rattle.follows.proofs.Kept.{Keep, back}
use Rattle.follows.proofs.Sides.{exchange-kept}
use Rattle.follows.proofs.Joined.{numbers-joined, sound-joined}

module _ (u v : Held) (bytes-u : Bytes u.room.table.xors) (bytes-v : Bytes v.room.table.xors)
    (pu : Passing ipv4_layout (as_live u)) (pv : Passing ipv4_layout (as_live v)) (slots : u.numbers.slot ≡ v.numbers.slot) where
  abbrev result : Exchanging
  result = joint.exchange_on ipv4_layout (as_live u) (as_live v)

  -- what lists can be, and bytes, at both switches
  pub kept : let d = done ipv4_layout (as_live u) (as_live v) pu pv slots in
      Keep (length u.room.list) d.pair.a.table d.pair.a.list × Keep (length v.room.list) d.pair.b.table d.pair.b.list
  kept =
      let a = as_numbers u.room in
      let b = as_numbers v.room in
      exchange-kept (length u.room.list) (length v.room.list) (switch_of u.numbers) (switch_of v.numbers) a.filter b.filter
      (pair (side_of ipv4_layout u.numbers a) (side_of ipv4_layout v.numbers b) 0)
      ((bytes-u, apart-sound u.room.list), (bytes-v, apart-sound v.room.list))

  pub left-sound : Sound (length u.room.list + length v.room.list) result.room.list
  unfolding numbers.joined
  left-sound =
      let d = done ipv4_layout (as_live u) (as_live v) pu pv slots in
      subst (λ (x : Exchanging). Sound (length u.room.list + length v.room.list) x.room.list)
      (sym (exchange-passed ipv4_layout (as_live u) (as_live v) pu pv slots))
      (sound-joined (length u.room.list) (length v.room.list) d.pair.a.list d.pair.b.list kept.0.1 kept.1.1)

  -- Theorem: what the exchange over records leaves, taken apart, is what the exchange over numbers leaves, and they answer alike
  pub exchange-follows : left_on u v ≡ result
  unfolding over_records
  exchange-follows =
      ap (λ (x : Exchanging). exchanging x.answer (as_numbers (as_records x.room)))
      (ap (exchange_of ipv4_layout u.numbers v.numbers) (numbers-joined u.room v.room))
      ∙ ap (exchanging result.answer) (back _ result.room left-sound)

  pub pair-follows : pair_after u v ≡ joint.pair_after ipv4_layout (as_live u) (as_live v)
  pair-follows = ap (joint.pair_left ipv4_layout u.numbers v.numbers) exchange-follows

module _ (A B : Switch) (F : Counted A) (G : Counted B) (u v : Held) (bytes-u : Bytes u.room.table.xors) (bytes-v : Bytes v.room.table.xors)
    (su : StandsAt ipv4_layout A F (as_live u)) (sv : StandsAt ipv4_layout B G (as_live v)) (slots : u.numbers.slot ≡ v.numbers.slot)
    (ours : BothCounted A B F G (pair_after u v)) where
  abbrev follows : left_on u v ≡ joint.exchange_on ipv4_layout (as_live u) (as_live v)
  follows = exchange-follows u v bytes-u bytes-v su.passing sv.passing slots

  abbrev same : pair_after u v ≡ joint.pair_after ipv4_layout (as_live u) (as_live v)
  same = pair-follows u v bytes-u bytes-v su.passing sv.passing slots

  abbrev there : BothCounted A B F G (joint.pair_after ipv4_layout (as_live u) (as_live v))
  there = subst (BothCounted A B F G) same ours

  -- Theorem: no 14 ends it
  pub joint-ends : exchange_number (exchange_on u v).answer ≡ 0
  joint-ends = ap (λ (x : Exchanging). exchange_number x.answer) follows
      ∙ theorems.joint-ends ipv4_layout A B F G (as_live u) (as_live v) su sv slots there

  -- Theorem: both sessions, with their found flows as numbers, are of their flowsets still
  pub joint-stands : StandsAt ipv4_layout A F (joint.after_a ipv4_layout u.numbers (left_on u v))
      × StandsAt ipv4_layout B G (joint.after_b ipv4_layout u.numbers v.numbers (left_on u v))
  joint-stands = subst (λ (x : Exchanging). StandsAt ipv4_layout A F (joint.after_a ipv4_layout u.numbers x)
      × StandsAt ipv4_layout B G (joint.after_b ipv4_layout u.numbers v.numbers x)) (sym follows)
      (theorems.joint-stands ipv4_layout A B F G (as_live u) (as_live v) su sv slots there)

  -- Theorem: what both list, state and leave in the cells is true
  pub joint-true : Truthful F.key_length A.has F.flows F.packets (pair_after u v).a
      × Truthful G.key_length B.has G.flows G.packets (pair_after u v).b
  joint-true = subst (λ (p : Pair). Truthful F.key_length A.has F.flows F.packets p.a
      × Truthful G.key_length B.has G.flows G.packets p.b) (sym same)
      (theorems.joint-true ipv4_layout A B F G (as_live u) (as_live v) su sv slots there)

  -- Theorem: at both, no cell has a single unlisted flow and no fully listed cell a single uncounted one
  pub joint-at-end : AtEnd A.has F.flows (pair_after u v).a × AtEnd B.has G.flows (pair_after u v).b
  joint-at-end = subst (λ (p : Pair). AtEnd A.has F.flows p.a × AtEnd B.has G.flows p.b) (sym same)
      (theorems.joint-at-end ipv4_layout A B F G (as_live u) (as_live v) su sv slots there)

  -- Theorem: the counts known are those that each flowset yields by itself
  pub joint-counts : CountsAlone A B F G (pair_after u v)
  joint-counts = subst (CountsAlone A B F G) (sym same) (theorems.joint-counts ipv4_layout A B F G (as_live u) (as_live v) su sv slots there)

  -- Theorem: with no answer 12 each list is the joint closure of what stood there
  pub joint-closure : (pair_after u v).twelves ≡ 0 → JointClosure A B F G (joint.pair_before ipv4_layout (as_live u) (as_live v)) (pair_after u v)
  joint-closure none-12 = subst (JointClosure A B F G (joint.pair_before ipv4_layout (as_live u) (as_live v))) (sym same)
      (theorems.joint-closure ipv4_layout A B F G (as_live u) (as_live v) su sv slots there (ap (λ (p : Pair). p.twelves) (sym same) ∙ none-12))
