-- What the theorems of this crate say: the exchange call on two sessions as the theory sees it.
use Rattle.std.specs.Prelude.{ℕ, Ok, Err}
use Rattle.layout.specs.declared.Layout.{Layout}
use Rattle.room.specs.declared.Session.{Session}
use Rattle.exchange.specs.declared.ExchangeError.TheVariants.{NotSession, BadRoom, OtherSlot, Damaged}
use Rattle.exchange.specs.Exchange.{Exchanged, Exchanging, exchange_of, joined, room_a, room_b}
use Rattle.rounds.specs.Joined.{seam}
use Rattle.theory.specs.Exchange.{Pair}
use Rattle.demands.specs.Calls.{Live, live, with_listed, viewed}

-- the flows that each session lists after an exchange, and the answers 12 in it; a refusal lists no more than before and counts none
abbrev pub listed_a : Exchanged → ℕ → ℕ
listed_a (Ok lists) n = lists.a
listed_a (Err (Damaged switch c lists)) n = lists.a
listed_a (Err NotSession) n = n
listed_a (Err BadRoom) n = n
listed_a (Err OtherSlot) n = n

abbrev pub listed_b : Exchanged → ℕ → ℕ
listed_b (Ok lists) n = lists.b
listed_b (Err (Damaged switch c lists)) n = lists.b
listed_b (Err NotSession) n = n
listed_b (Err BadRoom) n = n
listed_b (Err OtherSlot) n = n

abbrev pub twelves_of : Exchanged → ℕ
twelves_of (Ok lists) = lists.twelves
twelves_of (Err (Damaged switch c lists)) = lists.twelves
twelves_of (Err NotSession) = 0
twelves_of (Err BadRoom) = 0
twelves_of (Err OtherSlot) = 0

-- the call on two sessions whose room is joined, and what stands then, as the theory sees it
abbrev pub exchange_on : Layout → Live → Live → Exchanging
exchange_on l u v = exchange_of l u.numbers v.numbers (joined u.room v.room)

abbrev pub pair_before : Layout → Live → Live → Pair
pair_before l u v = record { a = viewed l u; b = viewed l v; twelves = 0 }

-- what stands of s and of t after an exchange of the two that left x
abbrev pub after_a : Layout → Session → Exchanging → Live
after_a l s x = live (with_listed s (listed_a x.answer s.listed)) (room_a (seam l s.sizes) x.room)

abbrev pub after_b : Layout → Session → Session → Exchanging → Live
after_b l s t x = live (with_listed t (listed_b x.answer t.listed)) (room_b (seam l s.sizes) x.room)

abbrev pub pair_left : Layout → Session → Session → Exchanging → Pair
pair_left l s t x = record { a = viewed l (after_a l s x); b = viewed l (after_b l s t x); twelves = twelves_of x.answer }

-- after the call
abbrev pub exchanged_a : Layout → Live → Live → Live
exchanged_a l u v = after_a l u.numbers (exchange_on l u v)

abbrev pub exchanged_b : Layout → Live → Live → Live
exchanged_b l u v = after_b l u.numbers v.numbers (exchange_on l u v)

abbrev pub pair_after : Layout → Live → Live → Pair
pair_after l u v = pair_left l u.numbers v.numbers (exchange_on l u v)
