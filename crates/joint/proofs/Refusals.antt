-- Demand 1's table goes on (demands, Refusals): the exchange call. Each entry's premises begin with what the entries before it did not find.
use mathlib.Core.Path.{◌≡◌, refl, ap₂, ◌∙◌}
use mathlib.Core.Bool.{Bool, true, false, ◌&&◌}
use Prim.Native.Nat.{ℕ}
use lib.Dec.{eqb}
use Rattle.std.specs.Prelude.{Ok, Err}
use Rattle.layout.specs.declared.Layout.{Layout}
use Rattle.layout.specs.Sizes.{in_range}
use Rattle.layout.specs.Numbers.{Returned, only, with_twelves, with_switch}
use Rattle.test8.specs.Test8.{is_session}
use Rattle.room.specs.declared.Session.{Session}
use Rattle.room.specs.Memory.{Memory}
use Rattle.ending.specs.declared.Switch.{Switch}
use Rattle.ending.specs.declared.Switch.TheVariants as switch
use Rattle.ending.specs.Over.{Ending, switch_number}
use Rattle.rounds.specs.Rounds.{pair}
use Rattle.rounds.specs.Joined.{switch_of, seam, room_end}
use Rattle.exchange.specs.Exchange.{exchange_of, after_test, exchange_returns, answer_of, areas_fit, room_a, room_b, side_of}
use Rattle.exchange.proofs.Tests.{tested-sizes, tested-room, tested-rest, tested-slot}
use Rattle.theory.specs.Session as theory
use Rattle.theory.specs.Exchange as theory-exchange
use Rattle.demands.specs.Calls.{Live, switch_at, Passing}
use Rattle.joint.specs.Exchanges.{exchange_on, pair_before}
use Rattle.joint.proofs.Pairs.{stopped_as, ending_as, exchange-shows}
use Rattle.joint.proofs.Exchanges.{done, exchange-passed}

-- ---- exchange: 8 sizes of either, 16, 8 the rest of either, 15; the room of both is lent as one
module _ (l : Layout) (s t : Session) (m : Memory) where
  abbrev a : Memory
  a = room_a (seam l s.sizes) m

  abbrev b : Memory
  b = room_b (seam l s.sizes) m

  -- this is returned; both are kept
  abbrev pub ExchangeRefused : Returned → Type 0
  ExchangeRefused r = let x = exchange_of l s t m in (exchange_returns x.answer ≡ r) × (x.room ≡ m)

  pub exchange-8-sizes : (in_range s.sizes && in_range t.sizes) ≡ false → ExchangeRefused (only 8)
  unfolding exchange_of after_test
  exchange-8-sizes e = rw (tested-sizes l s t m e) (refl, refl)

  module _ (sizes : (in_range s.sizes && in_range t.sizes) ≡ true) where
    pub exchange-16 : areas_fit (room_end l s.sizes t.sizes) m ≡ false → ExchangeRefused (only 16)
    unfolding exchange_of after_test
    exchange-16 e = rw (tested-room l s t m sizes e) (refl, refl)

    module _ (room : areas_fit (room_end l s.sizes t.sizes) m ≡ true) where
      abbrev both : Bool
      both = is_session l s.sizes s.salt s.listed a.table a.list && is_session l t.sizes t.salt t.listed b.table b.list

      pub exchange-8 : both ≡ false → ExchangeRefused (only 8)
      unfolding exchange_of after_test
      exchange-8 e = rw (tested-rest l s t m sizes room e) (refl, refl)

      pub exchange-15 : both ≡ true → eqb s.slot t.slot ≡ false → ExchangeRefused (only 15)
      unfolding exchange_of after_test
      exchange-15 e f = rw (tested-slot l s t m sizes room e f) (refl, refl)

-- ---- 14, on two sessions that pass the test: the number, the switch and the cell are those at which the theory's exchange stops, and the
-- answers 12 are its own
abbrev pub stopped_at : ℕ → theory.Stop → ℕ → Returned
stopped_at switch theory.settled twelves = with_twelves 0 twelves
stopped_at switch (theory.damage c) twelves = with_switch 14 switch c twelves

abbrev pub end_returns : theory-exchange.Ending → ℕ → Returned
end_returns theory-exchange.finished twelves = with_twelves 0 twelves
end_returns (theory-exchange.stopped_a s) twelves = stopped_at 1 s twelves
end_returns (theory-exchange.stopped_b s) twelves = stopped_at 2 s twelves

-- a 14 returns the number of its switch, and the cell
returns-stopped : (w : Switch) (c t : ℕ) → with_switch 14 (switch_number w) c t ≡ end_returns (stopped_as w (theory.damage c)) t
returns-stopped switch.A c t = refl
returns-stopped switch.B c t = refl

module _ (l : Layout) (u v : Live) (pu : Passing l u) (pv : Passing l v) (slots : u.numbers.slot ≡ v.numbers.slot) where
  abbrev result : theory-exchange.Exchanged
  result = theory-exchange.exchange (switch_at l u) (switch_at l v) (pair_before l u v)

  returns_is : (o : Ending) (a b t : ℕ) → exchange_returns (answer_of o a b t)
      ≡ end_returns (ending_as l (switch_of u.numbers) u.room.filter (switch_of v.numbers) v.room.filter o) t
  returns_is (Ok x) a b t = refl
  returns_is (Err d) a b t = returns-stopped d.switch d.cell t

  pub exchange-returns : exchange_returns (exchange_on l u v).answer ≡ end_returns result.ending result.pair.twelves
  exchange-returns =
      let e = done l u v pu pv slots in
      let shown = exchange-shows l (switch_of u.numbers) u.room.filter (switch_of v.numbers) v.room.filter
      (pair (side_of l u.numbers u.room) (side_of l v.numbers v.room) 0) (pair_before l u v)
      (record {
        shows-a = record { lent = pu.lent; passes = pu.passes; seen_as = refl };
        shows-b = record { lent = pv.lent; passes = pv.passes; seen_as = refl };
        twelves-are = refl;
      }) in
      rw (exchange-passed l u v pu pv slots)
      (returns_is e.ending e.pair.a.listed e.pair.b.listed e.pair.twelves ∙ ap₂ end_returns shown.ends_as shown.pair-shows.twelves-are)
