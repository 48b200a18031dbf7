-- One of the sessions of an exchange: 01 'A session', Exchange.
use Rattle.std.specs.Prelude.{◌≡◌, List, ℕ, ◌+◌, length}
use Rattle.laws.specs.Upto.{each_upto}
use Rattle.layout.specs.declared.Layout.{Layout}
use Rattle.layout.specs.declared.Sizes.{Sizes}
use Rattle.layout.specs.Sizes.{table_cells}
use Rattle.list.specs.Records.{Records, key_at}
use Rattle.table.specs.Table.{Tab}
use Rattle.peeling.specs.Peel.{Steady, Stop, listed_at}
use Rattle.settling.specs.Settle.{settle_of}
use Rattle.handing.specs.Hand.{Handing, hand_of, taken_by, twelve_by}

-- what places a switch's keys
pub record Switch : Type 0 where
  pub sizes : Sizes
  pub salt : ℕ

abbrev pub switch : Sizes → ℕ → Switch
switch z salt = record { sizes = z; salt = salt }

-- what the exchange changes of a session: how many flows are listed, the cells, the list, and the index of the listed flows
pub record Side : Type 0 where
  pub listed : ℕ
  pub table : Tab
  pub packets : List ℕ
  pub list : Records
  pub seen : List ℕ

abbrev pub side : ℕ → Tab → List ℕ → Records → List ℕ → Side
side n t packets rs seen = record { listed = n; table = t; packets = packets; list = rs; seen = seen }

-- what the steps need
pub record Stands (l : Layout) (w : Switch) (s : Side) : Type 0 where
  pub steady : Steady l w.sizes w.salt s.listed s.table s.list s.seen
  pub packets-fit : length s.packets ≡ table_cells l w.sizes

-- ---- settling
-- how it ended, and what stands then
pub record Rested : Type 0 where
  pub stop : Stop
  pub left : Side

abbrev pub rested : Stop → Side → Rested
rested stop s = record { stop = stop; left = s }

unfoldable pub settle_side : Layout → Switch → Side → Rested
settle_side l w s =
    let e = settle_of l w.sizes w.salt s.listed s.table s.packets s.list s.seen in
    record { stop = e.answer; left = side (listed_at e.answer) e.table e.packets e.list e.seen }

-- ---- a list handed over
-- how many flows are listed, how many keys were answered with 12, and what hand-overs change
pub record Given : Type 0 where
  pub listed : ℕ
  pub twelves : ℕ
  pub table : Tab
  pub list : Records
  pub seen : List ℕ

abbrev pub given : ℕ → ℕ → Tab → Records → List ℕ → Given
given n twelves t rs seen = record { listed = n; twelves = twelves; table = t; list = rs; seen = seen }

-- a key is handed over, and its answer counted
abbrev pub after_hand : Given → Handing → Given
after_hand g h = given (g.listed + taken_by h.answer) (g.twelves + twelve_by h.answer) h.table h.list h.seen

-- the key at position i of a list handed over
unfoldable pub hand_at : Layout → Switch → List ℕ → List ℕ → ℕ → Given → Given
hand_at l w filter keys i g = after_hand g (hand_of l w.sizes w.salt g.listed (key_at l keys i) filter g.table g.list g.seen)

-- 01 'A session', Exchange: "hands A's list in order": its first m keys
unfoldable pub hand_keys : Layout → Switch → List ℕ → List ℕ → ℕ → Given → Given
hand_keys l w filter keys m g = each_upto m (hand_at l w filter keys) g

unfoldable pub hand_list : Layout → Switch → List ℕ → List ℕ → ℕ → Side → Given
hand_list l w filter keys m s = hand_keys l w filter keys m (given s.listed 0 s.table s.list s.seen)

-- a session after hand-overs
abbrev pub with_given : Side → Given → Side
with_given s g = side g.listed g.table s.packets g.list g.seen
