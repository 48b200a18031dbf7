-- A table that no flowset encodes to, on which demand 3 fails: why its premises are there. k = 2, four cells.
use Rattle.std.specs.Prelude.{true, cond, ◌||◌, List, [], ◌∷◌, ℕ, eqb, get_or}
use Rattle.theory.specs.Encode.{Key, Cell, Table, Placement}
use Rattle.theory.specs.Session.{keys_of, opened, Stop}
use Rattle.theory.specs.HandOver.{Switch, Call, calls, settle_at}
use Rattle.theory.specs.Report.{State, report}

-- keys of one byte: 1 and 6 at cells 0 and 2, 2 at 0 and 3, 5 at 1 and 2
unfoldable pub placed : Placement
placed x c =
    let b = get_or x 0 0 in
    cond (eqb b 2) (eqb c 0 || eqb c 3) (cond (eqb b 5) (eqb c 1 || eqb c 2) (eqb c 0 || eqb c 2))

abbrev pub switch : Switch
switch = record { size = 4; has = placed; passes = λ x. true }

abbrev pub cell : ℕ → ℕ → ℕ → Cell
cell x flows packets = record { flow_xor = x ∷ []; flow_count = flows; packet_count = packets }

-- cells 0 (4, 2, 3), 2 (1, 1, 1) and 3 (5, 1, 2); cell 1 is zero
unfoldable pub table : Table
table c = cond (eqb c 0) (cell 4 2 3) (cond (eqb c 2) (cell 1 1 1) (cond (eqb c 3) (cell 5 1 2) (cell 0 0 0)))

-- how a settling after these calls ends: its answer, the listed keys, the report's state
pub record End : Type 0 where
  pub stop : Stop
  pub keys : List Key
  pub state : State

unfoldable pub ends : List Call → End
ends l =
    let r = settle_at switch (calls switch l (opened table)) in
    record { stop = r.stop; keys = keys_of r.state.list; state = (report 4 r.state).state }
