-- What the code of the call needs of two sessions, and what it leaves of two that passed the tests.
use Rattle.std.specs.Prelude.{◌≡◌, ◌≤◌, true, List, ℕ, length}
use Rattle.layout.specs.declared.Layout.{Layout}
use Rattle.hash.specs.declared.Placing.{Placing}
use Rattle.room.specs.declared.Session.{Session}
use Rattle.room.specs.Memory.{Memory}
use Rattle.parts.specs.declared.Place.{Place}
use Rattle.parts.specs.Sides.{Switch, switch, Side, side, Stands}
use Rattle.rounds.specs.Rounds.{pair, exchange_sides}
use Rattle.rounds.specs.Joined.{seam, room_end}
use Rattle.exchange.specs.Exchange.{areas_fit, room_a, room_b, Exchanging, leaves}

-- it places the keys of this session
abbrev pub Places : Layout → Session → Placing → Type 0
Places l s p = (p.shape.layout ≡ l) × (p.shape.sizes ≡ s.sizes) × (p.salt ≡ s.salt)

abbrev pub placed_by : Placing → Switch
placed_by p = switch p.shape.sizes p.salt

-- a place in each of the areas
pub record Reaches (p : Place) (m : Memory) : Type 0 where
  pub filter-in : p.filter ≤ length m.filter
  pub xors-in : p.xors ≤ length m.table.xors
  pub flows-in : p.cells ≤ length m.table.flows
  pub unknowns-in : p.cells ≤ length m.table.unknowns
  pub positions-in : p.cells ≤ length m.table.positions
  pub marks-in : p.words ≤ length m.table.marks
  pub packets-in : p.cells ≤ length m.packets
  pub keys_in : p.keys ≤ length m.list.keys
  pub counts-in : p.records ≤ length m.list.counts
  pub flags-in : p.records ≤ length m.list.flags

-- where the two sessions meet, and the sessions, of which n and m flows are listed
abbrev pub meet : Placing → Place
meet p = seam p.shape.layout p.shape.sizes

abbrev pub first : Placing → ℕ → Memory → List ℕ → Side
first p n r seen = let a = room_a (meet p) r in side n a.table a.packets a.list seen

abbrev pub second : Placing → ℕ → Memory → List ℕ → Side
second p m r seen = let b = room_b (meet p) r in side m b.table b.packets b.list seen

-- they passed the tests
pub record Ready (p q : Placing) (n m : ℕ) (r : Memory) (u v : List ℕ) : Type 0 where
  pub layout-is : q.shape.layout ≡ p.shape.layout
  pub fits : areas_fit (room_end p.shape.layout p.shape.sizes q.shape.sizes) r ≡ true
  pub stands-a : Stands p.shape.layout (placed_by p) (first p n r u)
  pub stands_b : Stands p.shape.layout (placed_by q) (second p m r v)

-- what an exchange of them answers and leaves
abbrev pub exchanged : Placing → Placing → ℕ → ℕ → Memory → List ℕ → List ℕ → Exchanging
exchanged p q n m r u v =
    let a = room_a (meet p) r in
    let b = room_b (meet p) r in
    leaves a b (exchange_sides p.shape.layout (placed_by p) a.filter (placed_by q) b.filter (pair (first p n r u) (second p m r v) 0))
