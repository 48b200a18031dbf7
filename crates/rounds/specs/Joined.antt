-- Two sessions beside each other in joined areas, A's part first.
use Rattle.std.specs.Prelude.{◌++◌}
use Rattle.layout.specs.declared.Layout.{Layout}
use Rattle.layout.specs.declared.Sizes.{Sizes}
use Rattle.list.specs.Records.{Records, records}
use Rattle.table.specs.Table.{Tab, tab}
use Rattle.room.specs.declared.Session.{Session}
use Rattle.parts.specs.declared.Place.{Place}
use Rattle.parts.specs.Sides.{Switch, switch}
use Rattle.parts.specs.Places.{origin, place_after}

abbrev pub switch_of : Session → Switch
switch_of s = switch s.sizes s.salt

-- where A's part ends and B's begins in the room that is lent for both, and where B's ends
abbrev pub seam : Layout → Sizes → Place
seam l y = place_after l y origin

abbrev pub room_end : Layout → Sizes → Sizes → Place
room_end l y z = place_after l z (seam l y)

-- the cells and the lists of two sessions joined
unfoldable pub joined_table : Tab → Tab → Tab
joined_table t u = tab (t.xors ++ u.xors) (t.flows ++ u.flows) (t.unknowns ++ u.unknowns) (t.positions ++ u.positions) (t.marks ++ u.marks)

unfoldable pub joined_list : Records → Records → Records
joined_list rs vs = records (rs.keys ++ vs.keys) (rs.counts ++ vs.counts) (rs.flags ++ vs.flags)
