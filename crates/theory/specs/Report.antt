-- The report, worked out from list and cells.
use Rattle.std.specs.Prelude.{Bool, cond, ◌&&◌, ℕ, length, eqb, ltb}
use Rattle.laws.specs.Upto.{all_upto}
use Rattle.laws.specs.Zeros.{all_zero}
use Rattle.theory.specs.Encode.{Table}
use Rattle.theory.specs.Session.{Session, keys_where, unknowns_of, open_cells}

-- 01 'A session', Report: "and a state"; stray is 02 b's
pub data State : Type 0 where
  stuck : State
  short : State
  stray : State
  whole : State

-- 02 b: "every FlowXOR and PacketCount to be zero", in the cells below n
unfoldable pub nothing_left : ℕ → Table → Bool
nothing_left n t = all_upto n (λ c. all_zero (t c).flow_xor && eqb (t c).packet_count 0)

-- 01 'A session', Report: "stuck if open is above 0; else short if an unknown count remains"; 02 b: "with no FlowCount above 0 and no unknown count
-- but something left, the state is stray"; else whole
abbrev pub state_of : ℕ → ℕ → Bool → State
state_of opens unknowns nothing = cond (ltb 0 opens) stuck (cond (ltb 0 unknowns) short (cond nothing whole stray))

-- 01 'A session', Report, without 02 b: "stuck if open is above 0; else short if an unknown count remains; else whole"
abbrev pub state_before : ℕ → ℕ → State
state_before opens unknowns = cond (ltb 0 opens) stuck (cond (ltb 0 unknowns) short whole)

pub record Report : Type 0 where
  pub listed : ℕ
  pub counted : ℕ
  pub opens : ℕ
  pub state : State

-- 01 'A session', Report: "listed, counted (known counts), open (cells with FlowCount above 0), .. and a state"
abbrev pub report_with : ℕ → Session → State → Report
report_with n s state = record {
  listed = length s.list;
  counted = length (keys_where (λ r. r.known) s.list);
  opens = open_cells n s.cells;
  state = state;
}

unfoldable pub report : ℕ → Session → Report
report n s = report_with n s (state_of (open_cells n s.cells) (length (unknowns_of s.list)) (nothing_left n s.cells))

-- the report without 02 b
unfoldable pub report_before : ℕ → Session → Report
report_before n s = report_with n s (state_before (open_cells n s.cells) (length (unknowns_of s.list)))
