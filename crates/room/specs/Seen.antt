-- The room that is lent for a session as one value, lent to be read.
use Rattle.std.specs.Prelude.{List, ℕ}
use denote.Bor.{Bor}
use Rattle.list.specs.Seen.{list_seen}
use Rattle.table.specs.Seen.{tab_seen}
use Rattle.room.specs.Memory.{Memory, memory}
use Rattle.room.specs.declared.Room.{Room}

-- what the slices hold
abbrev pub memory_seen : Room → Memory
memory_seen r = memory r.filter.now (tab_seen r.table) r.packets.now (list_seen r.list)

-- the room of slices that are lent one by one
abbrev pub room_with : Bor (List ℕ) → Bor (List ℕ) → Bor (List ℕ) → Bor (List ℕ) → Bor (List ℕ) → Bor (List ℕ) → Bor (List ℕ) → Bor (List ℕ)
    → Bor (List ℕ) → Bor (List ℕ) → Room
room_with filter xors flows packets unknowns positions marks keys counts flags = record {
  filter = filter;
  table = record { xors = xors; flows = flows; unknowns = unknowns; positions = positions; marks = marks };
  packets = packets;
  list = record { keys = keys; counts = counts; flags = flags };
}
