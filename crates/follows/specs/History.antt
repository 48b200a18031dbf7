-- What can have happened to a session over records since it was opened.
use Rattle.std.specs.Prelude.{◌≡◌}
use Rattle.laws.specs.BigEndian.{Bytes}
use Rattle.layout.specs.Sizes.{ipv4_layout}
use Rattle.packet.specs.declared.Key.{Key}
use Rattle.demands.specs.Calls.{Passing}
use Rattle.follows.specs.Calls.{Held, as_live, handing, settling, call_on}
use Rattle.follows.specs.Exchanges.{exchanged_a, exchanged_b}

-- any hand-overs, settlings, and exchanges of one slot with any other sessions that pass the test of 8, as the first or the second of the two;
-- v is what opening left, and the others' FlowXOR are bytes, as a slice of bytes has them
pub data RecordHistory (v : Held) : Held → Type 0 where
  opened : RecordHistory v v
  handed : {u : Held} (key : Key) → RecordHistory v u → RecordHistory v (call_on (handing key) u)
  settled : {u : Held} → RecordHistory v u → RecordHistory v (call_on settling u)
  exchanged-first : {u : Held} (t : Held) → Bytes t.room.table.xors → Passing ipv4_layout (as_live t) → u.numbers.slot ≡ t.numbers.slot
      → RecordHistory v u → RecordHistory v (exchanged_a u t)
  exchanged-second : {u : Held} (t : Held) → Bytes t.room.table.xors → Passing ipv4_layout (as_live t) → t.numbers.slot ≡ u.numbers.slot
      → RecordHistory v u → RecordHistory v (exchanged_b t u)
