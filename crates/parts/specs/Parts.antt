-- A session of an exchange as one value, and what its methods need and leave.
use Rattle.std.specs.Prelude.{List, ◌≡◌, ℕ, ◌*◌, ◌≤◌, length}
use Rattle.layout.specs.Sizes.{filter_bytes}
use Rattle.list.specs.Records.{Records, records}
use Rattle.table.specs.Table.{Tab, tab}
use Rattle.peeling.specs.Peel.{Steady}
use Rattle.parts.specs.declared.Part.{Part}
use Rattle.parts.specs.Sides.{Switch, switch, Side, side, Given, given}

-- what the lent slices hold
abbrev pub tab_in : Part → Tab
tab_in p = tab p.xors.now p.flows.now p.unknowns.now p.positions.now p.marks.now

abbrev pub list_in : Part → Records
list_in p = records p.keys.now p.counts.now p.flags.now

-- the session that they hold
abbrev pub switch_in : Part → Switch
switch_in p = switch p.placing.shape.sizes p.placing.salt

abbrev pub side_in : Part → Side
side_in p = side p.listed (tab_in p) p.packets.now (list_in p) p.seen.now

-- and where so many keys were answered with 12
abbrev pub given_in : Part → ℕ → Given
given_in p twelves = given p.listed twelves (tab_in p) (list_in p) p.seen.now

-- the same slices are lent to the same session, whatever they hold
abbrev pub PartKept : Part → Part → Type 0
PartKept p q =
    (p.xors.ghost_name ≡ q.xors.ghost_name) × (p.flows.ghost_name ≡ q.flows.ghost_name) × (p.packets.ghost_name ≡ q.packets.ghost_name)
    × (p.unknowns.ghost_name ≡ q.unknowns.ghost_name) × (p.positions.ghost_name ≡ q.positions.ghost_name) × (p.marks.ghost_name ≡ q.marks.ghost_name)
    × (p.keys.ghost_name ≡ q.keys.ghost_name) × (p.counts.ghost_name ≡ q.counts.ghost_name) × (p.flags.ghost_name ≡ q.flags.ghost_name)
    × (p.seen.ghost_name ≡ q.seen.ghost_name)
    × (p.xors.ref_ptr ≡ q.xors.ref_ptr) × (p.flows.ref_ptr ≡ q.flows.ref_ptr) × (p.packets.ref_ptr ≡ q.packets.ref_ptr)
    × (p.unknowns.ref_ptr ≡ q.unknowns.ref_ptr) × (p.positions.ref_ptr ≡ q.positions.ref_ptr) × (p.marks.ref_ptr ≡ q.marks.ref_ptr)
    × (p.keys.ref_ptr ≡ q.keys.ref_ptr) × (p.counts.ref_ptr ≡ q.counts.ref_ptr) × (p.flags.ref_ptr ≡ q.flags.ref_ptr)
    × (p.seen.ref_ptr ≡ q.seen.ref_ptr)
    × (p.placing ≡ q.placing) × (p.filter ≡ q.filter)

-- a session with marks and numbers as the test of 8 has them, its filter, and m keys of its layout
pub record Takes (p : Part) (keys : List ℕ) (m : ℕ) : Type 0 where
  pub steady : Steady p.placing.shape.layout p.placing.shape.sizes p.placing.salt p.listed (tab_in p) (list_in p) p.seen.now
  pub filter-fits : length p.filter.now ≡ filter_bytes p.placing.shape.sizes
  pub keys_in : m * p.placing.shape.layout.key ≤ length keys
  pub few : m ≤ 65536
