-- Sessions beside each other in lent room, one area of each kind: the places where their parts begin and end.
use Rattle.std.specs.Prelude.{◌+◌, ◌*◌, ◌≤◌}
use Rattle.layout.specs.declared.Layout.{Layout}
use Rattle.layout.specs.declared.Sizes.{Sizes}
use Rattle.layout.specs.Sizes.{table_cells, filter_bytes}
use Rattle.marks.specs.Marks.{words_for}
use Rattle.parts.specs.declared.Place.{Place}

-- the place of the first session
abbrev pub origin : Place
origin = record { filter = 0; cells = 0; xors = 0; words = 0; records = 0; keys = 0 }

-- the place after a session's part: the lengths that room's `Rooms` asks for
unfoldable pub place_after : Layout → Sizes → Place → Place
place_after l z p =
    let n = table_cells l z in
    record {
      filter = p.filter + filter_bytes z;
      cells = p.cells + n;
      xors = p.xors + n * l.key;
      words = p.words + words_for n;
      records = p.records + 2 * n;
      keys = p.keys + 2 * n * l.key;
    }

-- places of which at most seven sessions lie before
pub record Near (p : Place) : Type 0 where
  pub filter-near : p.filter ≤ 53760
  pub cells-near : p.cells ≤ 10752
  pub xors-near : p.xors ≤ 5160960
  pub words-near : p.words ≤ 168
  pub records-near : p.records ≤ 21504
  pub keys-near : p.keys ≤ 10321920
