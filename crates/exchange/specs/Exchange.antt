-- The call of the exchange: its tests, its room and its answers: 01 'A session', "Exchange of A and B", and the table of numbers.
use Rattle.std.specs.Prelude.{Bool, not, cond, ◌&&◌, List, ◌++◌, ℕ, eqb, length, replicate, take, drop, Result, Ok, Err, ⊤}
use Rattle.layout.specs.declared.Layout.{Layout}
use Rattle.layout.specs.Sizes.{in_range}
use Rattle.layout.specs.Numbers.{Returned, only, with_twelves, with_switch}
use Rattle.list.specs.Records.{records}
use Rattle.table.specs.Table.{tab}
use Rattle.test8.specs.Given.{seen_upto}
use Rattle.test8.specs.Test8.{is_session}
use Rattle.room.specs.declared.Session.{Session}
use Rattle.room.specs.Memory.{Memory, memory}
use Rattle.parts.specs.declared.Place.{Place}
use Rattle.parts.specs.Sides.{Side, side}
use Rattle.ending.specs.Over.{Ending, switch_number}
use Rattle.rounds.specs.Rounds.{pair, Ended, exchange_sides}
use Rattle.rounds.specs.Joined.{switch_of, seam, room_end, joined_table, joined_list}
use Rattle.exchange.specs.declared.Lists.{Lists}
use Rattle.exchange.specs.declared.ExchangeError.{ExchangeError}
use Rattle.exchange.specs.declared.ExchangeError.TheVariants.{NotSession, BadRoom, OtherSlot, Damaged}

-- 01's table of numbers, 16: "lent room of the wrong length": none is
unfoldable pub areas_fit : Place → Memory → Bool
areas_fit e m =
    eqb (length m.filter) e.filter && (eqb (length m.packets) e.cells && (eqb (length m.table.xors) e.xors
    && (eqb (length m.table.flows) e.cells && (eqb (length m.table.unknowns) e.cells
    && (eqb (length m.table.positions) e.cells && (eqb (length m.table.marks) e.words
    && (eqb (length m.list.keys) e.keys && (eqb (length m.list.counts) e.records && eqb (length m.list.flags) e.records))))))))

-- the room of A, and of B after it
unfoldable pub room_a : Place → Memory → Memory
room_a p m =
    memory (take p.filter m.filter)
    (tab (take p.xors m.table.xors) (take p.cells m.table.flows) (take p.cells m.table.unknowns)
    (take p.cells m.table.positions) (take p.words m.table.marks))
    (take p.cells m.packets)
    (records (take p.keys m.list.keys) (take p.records m.list.counts) (take p.records m.list.flags))

unfoldable pub room_b : Place → Memory → Memory
room_b p m =
    memory (drop p.filter m.filter)
    (tab (drop p.xors m.table.xors) (drop p.cells m.table.flows) (drop p.cells m.table.unknowns)
    (drop p.cells m.table.positions) (drop p.words m.table.marks))
    (drop p.cells m.packets)
    (records (drop p.keys m.list.keys) (drop p.records m.list.counts) (drop p.records m.list.flags))

-- the rooms of two sessions joined
unfoldable pub joined : Memory → Memory → Memory
joined a b = memory (a.filter ++ b.filter) (joined_table a.table b.table) (a.packets ++ b.packets) (joined_list a.list b.list)

-- what an exchange answers: what each session then lists, or why not
abbrev pub Exchanged : Type 0
Exchanged = Result Lists ExchangeError

abbrev pub lists_of : ℕ → ℕ → ℕ → Lists
lists_of a b twelves = record { a = a; b = b; twelves = twelves }

pub record Exchanging : Type 0 where
  pub answer : Exchanged
  pub room : Memory

abbrev pub exchanging : Exchanged → Memory → Exchanging
exchanging answer m = record { answer = answer; room = m }

-- how it ended, with the flows that each then lists and the answers 12
abbrev pub answer_of : Ending → ℕ → ℕ → ℕ → Exchanged
answer_of (Ok done) a b twelves = Ok (lists_of a b twelves)
answer_of (Err d) a b twelves = Err (Damaged d.switch d.cell (lists_of a b twelves))

-- a session that passed the test, with each listed key in its index
abbrev pub seen_in : Layout → Session → Memory → List ℕ → List ℕ
seen_in l s m seen = seen_upto l s.sizes s.salt s.listed m.list.keys seen

abbrev pub side_of : Layout → Session → Memory → Side
side_of l s m = side s.listed m.table m.packets m.list (seen_in l s m (replicate 11264 0))

abbrev pub room_left : Memory → Side → Memory
room_left m s = memory m.filter s.table s.packets s.list

abbrev pub leaves : Memory → Memory → Ended → Exchanging
leaves a b e =
    let p = e.pair in
    exchanging (answer_of e.ending p.a.listed p.b.listed p.twelves) (joined (room_left a p.a) (room_left b p.b))

-- what the tests of the call answer
abbrev pub Tested : Type 0
Tested = Result ⊤ ExchangeError

-- 01's table of numbers: sizes of either (8), lengths (16), the rest of the test of 8 of either, two different slots (15)
unfoldable pub exchange_test : Layout → Session → Session → Memory → Tested
exchange_test l s t m =
    let a = room_a (seam l s.sizes) m in
    let b = room_b (seam l s.sizes) m in
    cond (not (in_range s.sizes && in_range t.sizes)) (Err NotSession)
    (cond (not (areas_fit (room_end l s.sizes t.sizes) m)) (Err BadRoom)
    (cond (not (is_session l s.sizes s.salt s.listed a.table a.list
    && is_session l t.sizes t.salt t.listed b.table b.list)) (Err NotSession)
    (cond (not (eqb s.slot t.slot)) (Err OtherSlot) (Ok tt))))

-- 01's table of numbers, 8, 15 and 16: "all memory kept"
unfoldable pub after_test : Layout → Session → Session → Memory → Tested → Exchanging
after_test l s t m (Err e) = exchanging (Err e) m
after_test l s t m (Ok done) =
    let a = room_a (seam l s.sizes) m in
    let b = room_b (seam l s.sizes) m in
    leaves a b (exchange_sides l (switch_of s) a.filter (switch_of t) b.filter (pair (side_of l s a) (side_of l t b) 0))

unfoldable pub exchange_of : Layout → Session → Session → Memory → Exchanging
exchange_of l s t m = after_test l s t m (exchange_test l s t m)

-- 01's number and values for each answer
abbrev pub error_returns : ExchangeError → Returned
error_returns NotSession = only 8
error_returns OtherSlot = only 15
error_returns BadRoom = only 16
error_returns (Damaged switch c lists) = with_switch 14 (switch_number switch) c lists.twelves

abbrev pub exchange_returns : Exchanged → Returned
exchange_returns (Ok lists) = with_twelves 0 lists.twelves
exchange_returns (Err e) = error_returns e

abbrev pub error_number : ExchangeError → ℕ
error_number e = (error_returns e).number

abbrev pub exchange_number : Exchanged → ℕ
exchange_number a = (exchange_returns a).number
