-- The exchange over records on two sessions, as the theory sees it.
use Rattle.std.specs.Prelude.{◌++◌, take, drop}
use Rattle.layout.specs.Sizes.{ipv4_layout}
use Rattle.parts.specs.declared.Place.{Place}
use Rattle.exchange.specs.Exchange.{Exchanged, Exchanging, exchanging, room_a, room_b}
use Rattle.rounds.specs.Joined.{joined_table, seam}
use Rattle.theory.specs.Exchange.{Pair}
use Rattle.demands.specs.Calls.{with_listed}
use Rattle.joint.specs.Exchanges.{listed_a, listed_b, pair_left}
use Rattle.calls.specs.Calls.{Lent, lent, Called, as_numbers}
use Rattle.pairing.specs.Pairing.{exchange_records}
use Rattle.follows.specs.Calls.{Held, held}

-- the rooms of two sessions joined
unfoldable pub joined : Lent → Lent → Lent
joined a b = lent (a.filter ++ b.filter) (joined_table a.table b.table) (a.packets ++ b.packets) (a.list ++ b.list)

-- the call on two sessions whose room is joined, and what stands then, as the theory sees it
abbrev pub exchange_on : Held → Held → Called Exchanged
exchange_on u v = exchange_records u.numbers v.numbers (joined u.room v.room)

-- with the found flows as numbers
abbrev pub left_on : Held → Held → Exchanging
left_on u v = let x = exchange_on u v in exchanging x.answer (as_numbers x.room)

abbrev pub pair_after : Held → Held → Pair
pair_after u v = pair_left ipv4_layout u.numbers v.numbers (left_on u v)

-- ---- each session's part of the room then
-- joined room up to a place, and from it on
unfoldable pub lent_a : Place → Lent → Lent
lent_a p m = let r = room_a p (as_numbers m) in lent r.filter r.table r.packets (take p.records m.list)

unfoldable pub lent_b : Place → Lent → Lent
lent_b p m = let r = room_b p (as_numbers m) in lent r.filter r.table r.packets (drop p.records m.list)

-- what stands of u and of v after the call
abbrev pub exchanged_a : Held → Held → Held
exchanged_a u v =
    let x = exchange_on u v in
    held (with_listed u.numbers (listed_a x.answer u.numbers.listed)) (lent_a (seam ipv4_layout u.numbers.sizes) x.room)

abbrev pub exchanged_b : Held → Held → Held
exchanged_b u v =
    let x = exchange_on u v in
    held (with_listed v.numbers (listed_b x.answer v.numbers.listed)) (lent_b (seam ipv4_layout u.numbers.sizes) x.room)
