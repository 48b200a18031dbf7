-- The exchange call on two sessions that pass the test is the theory's exchange.
use mathlib.Core.Path.{◌≡◌, refl, sym, ap, ap₂, subst, ◌∙◌}
use Prim.Native.Nat.{ℕ}
use lib.ListN.{length}
use borrow.Author.Tests.{eq-eqb}
use Rattle.laws.proofs.Bools.{and_i}
use Rattle.std.specs.Prelude.{Ok, Err}
use Rattle.layout.specs.declared.Layout.{Layout}
use Rattle.layout.specs.declared.Sizes.{Sizes}
use Rattle.layout.specs.Sizes.{filter_bytes, in_range}
use Rattle.room.specs.Memory.{Memory, Rooms}
use Rattle.parts.specs.Sides as sides
use Rattle.rounds.specs.Rounds.{Ended, exchange_sides, pair}
use Rattle.rounds.specs.Joined.{seam, switch_of}
use Rattle.exchange.specs.Exchange.{room_a, room_b, joined, after_test, exchange_of, leaves, answer_of, side_of, room_left, exchange_number}
use Rattle.ending.specs.declared.Switch.{Switch}
use Rattle.ending.specs.declared.Switch.TheVariants as switch
use Rattle.ending.specs.Over.{Ending}
use Rattle.exchange.proofs.Rooms.{joined-fits, joined-a, joined-b}
use Rattle.exchange.proofs.Tests.{tested-passed}
use Rattle.theory.specs.Session.{Stop, damage, stop_number}
use Rattle.theory.specs.Exchange as theory
use Rattle.link.specs.Held.{Lent}
use Rattle.demands.specs.Calls.{Live, live, with_listed, viewed, switch_at, Passing}
use Rattle.joint.specs.Exchanges.{listed_a, listed_b, twelves_of, exchange_on, exchanged_a, exchanged_b, pair_before, pair_after}
use Rattle.demands.proofs.Steps.{tests-pass}
use Rattle.joint.proofs.Pairs.{EndShows, stopped_as, ending_as, exchange-shows}

-- the numbers of an answer
answer-a : (o : Ending) (a b t n : ℕ) → listed_a (answer_of o a b t) n ≡ a
answer-a (Ok done) a b t n = refl
answer-a (Err d) a b t n = refl

answer-b : (o : Ending) (a b t n : ℕ) → listed_b (answer_of o a b t) n ≡ b
answer-b (Ok done) a b t n = refl
answer-b (Err d) a b t n = refl

answer-twelves : (o : Ending) (a b t : ℕ) → twelves_of (answer_of o a b t) ≡ t
answer-twelves (Ok done) a b t = refl
answer-twelves (Err d) a b t = refl

-- 01's number for the theory's ending
abbrev pub end_number : theory.Ending → ℕ
end_number theory.finished = 0
end_number (theory.stopped_a s) = stop_number s
end_number (theory.stopped_b s) = stop_number s

-- it is the number of the stop, at either switch
number-stopped : (w : Switch) (s : Stop) → stop_number s ≡ end_number (stopped_as w s)
number-stopped switch.A s = refl
number-stopped switch.B s = refl

-- lists of a session's lengths are its room
lent-rooms : (l : Layout) (z : Sizes) (m : Memory) → Lent l z m.table m.packets m.list → length m.filter ≡ filter_bytes z → Rooms l z m
lent-rooms l z m h f = record { filter-fits = f; packets-fit = h.packets-fit; table = h.table; room = h.room }

pair_path : {p q : theory.Pair} → p.a ≡ q.a → p.b ≡ q.b → p.twelves ≡ q.twelves → p ≡ q
pair_path a b t = λ i. record { a = a i; b = b i; twelves = t i }

module _ (l : Layout) (u v : Live) (pu : Passing l u) (pv : Passing l v) (slots : u.numbers.slot ≡ v.numbers.slot) where
  abbrev A : sides.Switch
  A = switch_of u.numbers

  abbrev B : sides.Switch
  B = switch_of v.numbers

  abbrev pub done : Ended
  done = exchange_sides l A u.room.filter B v.room.filter (pair (side_of l u.numbers u.room) (side_of l v.numbers v.room) 0)

  rooms-a : Rooms l u.numbers.sizes u.room
  rooms-a = lent-rooms l u.numbers.sizes u.room pu.lent pu.filter-fits

  rooms-b : Rooms l v.numbers.sizes v.room
  rooms-b = lent-rooms l v.numbers.sizes v.room pv.lent pv.filter-fits

  abbrev together : Memory
  together = joined u.room v.room

  is-a : room_a (seam l u.numbers.sizes) together ≡ u.room
  is-a = joined-a l u.numbers.sizes u.room v.room rooms-a

  is_b : room_b (seam l u.numbers.sizes) together ≡ v.room
  is_b = joined-b l u.numbers.sizes u.room v.room rooms-a

  -- nothing is refused
  pub exchange-passed : exchange_on l u v ≡ leaves u.room v.room done
  unfolding exchange_of after_test
  exchange-passed =
      let sizes = and_i (in_range u.numbers.sizes) (in_range v.numbers.sizes) (tests-pass l u pu).sizes (tests-pass l v pv).sizes in
      let fits = joined-fits l u.numbers.sizes u.room v.room rooms-a v.numbers.sizes rooms-b in
      let slot = eq-eqb u.numbers.slot v.numbers.slot slots in
      rw (tested-passed l u.numbers v.numbers together sizes fits (rw (is-a, is_b, pu.passes, pv.passes)) slot, is-a, is_b)

  abbrev result : theory.Exchanged
  result = theory.exchange (switch_at l u) (switch_at l v) (pair_before l u v)

  shown : EndShows l A u.room.filter B v.room.filter done result
  shown = exchange-shows l A u.room.filter B v.room.filter (pair (side_of l u.numbers u.room) (side_of l v.numbers v.room) 0) (pair_before l u v)
      (record {
        shows-a = record { lent = pu.lent; passes = pu.passes; seen_as = refl };
        shows-b = record { lent = pv.lent; passes = pv.passes; seen_as = refl };
        twelves-are = refl;
      })

  abbrev pub left_a : Memory
  left_a = room_left u.room done.pair.a

  abbrev pub left_b : Memory
  left_b = room_left v.room done.pair.b

  left-rooms : Rooms l u.numbers.sizes left_a
  left-rooms = lent-rooms l u.numbers.sizes left_a shown.pair-shows.shows-a.lent pu.filter-fits

  -- what stands at each switch then
  pub live-a : exchanged_a l u v ≡ live (with_listed u.numbers done.pair.a.listed) left_a
  live-a =
      let p = done.pair in
      rw exchange-passed (ap₂ (λ n m. live (with_listed u.numbers n) m)
      (answer-a done.ending p.a.listed p.b.listed p.twelves u.numbers.listed)
      (joined-a l u.numbers.sizes left_a left_b left-rooms))

  pub live-b : exchanged_b l u v ≡ live (with_listed v.numbers done.pair.b.listed) left_b
  live-b =
      let p = done.pair in
      rw exchange-passed (ap₂ (λ n m. live (with_listed v.numbers n) m)
      (answer-b done.ending p.a.listed p.b.listed p.twelves v.numbers.listed)
      (joined-b l u.numbers.sizes left_a left_b left-rooms))

  -- Theorem: what the call leaves is what the theory's exchange leaves
  pub exchange-pair : pair_after l u v ≡ result.pair
  exchange-pair =
      let p = done.pair in
      pair_path (ap (viewed l) live-a ∙ shown.pair-shows.shows-a.seen_as) (ap (viewed l) live-b ∙ shown.pair-shows.shows-b.seen_as)
      (rw exchange-passed (answer-twelves done.ending p.a.listed p.b.listed p.twelves) ∙ shown.pair-shows.twelves-are)

  pub exchanged-a : viewed l (exchanged_a l u v) ≡ result.pair.a
  exchanged-a = ap (λ (p : theory.Pair). p.a) exchange-pair

  pub exchanged-b : viewed l (exchanged_b l u v) ≡ result.pair.b
  exchanged-b = ap (λ (p : theory.Pair). p.b) exchange-pair

  -- Theorem: both sessions pass the test again, and their switches are as they were
  pub passing-a : Passing l (exchanged_a l u v)
  passing-a = subst (Passing l) (sym live-a)
      (record { lent = shown.pair-shows.shows-a.lent; filter-fits = pu.filter-fits; passes = shown.pair-shows.shows-a.passes })

  pub passing-b : Passing l (exchanged_b l u v)
  passing-b = subst (Passing l) (sym live-b)
      (record { lent = shown.pair-shows.shows-b.lent; filter-fits = pv.filter-fits; passes = shown.pair-shows.shows-b.passes })

  pub switch-a : switch_at l (exchanged_a l u v) ≡ switch_at l u
  switch-a = ap (switch_at l) live-a

  pub switch-b : switch_at l (exchanged_b l u v) ≡ switch_at l v
  switch-b = ap (switch_at l) live-b

  number_is : (o : Ending) (a b t : ℕ) → exchange_number (answer_of o a b t) ≡ end_number (ending_as l A u.room.filter B v.room.filter o)
  number_is (Ok x) a b t = refl
  number_is (Err d) a b t = number-stopped d.switch (damage d.cell)

  -- Theorem: and it answers with the theory's number
  pub exchange-number : exchange_number (exchange_on l u v).answer ≡ end_number result.ending
  exchange-number = rw exchange-passed
      (number_is done.ending done.pair.a.listed done.pair.b.listed done.pair.twelves ∙ ap end_number shown.ends_as)
