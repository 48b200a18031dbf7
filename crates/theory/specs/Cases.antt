-- The ten proved cases of 01 as one table.
use Rattle.std.specs.Prelude.{true, cond, ◌||◌, List, [], ◌∷◌, ℕ, eqb}
use Rattle.std.proofs.Math.Option.{Option, some, none}
use Rattle.theory.specs.Encode.{Key, same_key, Table, Placement, empty_table, encode}
use Rattle.theory.specs.Session.{Record, Session, opened, Stop, settled, damage, settle}
use Rattle.theory.specs.HandOver.{Switch, hand_answer, hand_over, Call, hand, settling, calls}
use Rattle.theory.specs.Report.{State, stuck, short, whole, report}

-- 01 'Printing program': "keys a, b, c are zero but for a last byte 1, 2, 4"
abbrev pub key_with : ℕ → Key
key_with last = 0 ∷ 0 ∷ 0 ∷ 0 ∷ 0 ∷ 0 ∷ 0 ∷ 0 ∷ 0 ∷ 0 ∷ 0 ∷ 0 ∷ last ∷ []

abbrev pub a : Key
a = key_with 1

abbrev pub b : Key
b = key_with 2

abbrev pub c : Key
c = key_with 4

-- 01 'Printing program': "k = 2, cells 0,1 and 2,3 .. the filter passes all": a at 0, 2; c at 1, 3; b and any other key at 0 and a cell given
unfoldable pub placed_with : ℕ → Placement
placed_with lower x j = cond (same_key x a) (eqb j 0 || eqb j 2) (cond (same_key x c) (eqb j 1 || eqb j 3) (eqb j 0 || eqb j lower))

abbrev pub switch_with : ℕ → Switch
switch_with lower = record { size = 4; has = placed_with lower; passes = λ x. true }

-- a has 5 packets, any other key 7
unfoldable pub packets_in : Key → ℕ
packets_in x = cond (same_key x a) 5 7

-- one cell is (1, 1, 5), the others zero
unfoldable pub one_cell : ℕ → Table
one_cell at j = cond (eqb j at) (record { flow_xor = a; flow_count = 1; packet_count = 5 }) (empty_table 13 j)

-- a listed flow with its count, or none for `?`
pub record Line : Type 0 where
  pub key : Key
  pub count : Option ℕ

-- the last call's result: the list, the open cells and the state; a hand-over refused with a number; or 14 with its cell
pub data Outcome : Type 0 where
  stands : List Line → ℕ → State → Outcome
  refused : ℕ → Outcome
  fourteen : ℕ → Outcome

unfoldable pub lines_of : List Record → List Line
lines_of [] = []
lines_of (r ∷ rs) = record { key = r.key; count = cond r.known (some r.count) none } ∷ lines_of rs

unfoldable pub standing : Session → Stop → Outcome
standing s settled = stands (lines_of s.list) (report 4 s).opens (report 4 s).state
standing s (damage j) = fourteen j

unfoldable pub last_outcome : Switch → Session → Call → Outcome
last_outcome w s (hand x) = cond (eqb (hand_answer w x s) 0) (standing (hand_over w x s) settled) (refused (hand_answer w x s))
last_outcome w s settling = standing (settle 4 w.has s).state (settle 4 w.has s).stop

-- a case: where b is placed, the cells at the start, the calls, the last call, and the result
pub record Case : Type 0 where
  pub lower : ℕ
  pub start : Table
  pub before : List Call
  pub last : Call
  pub result : Outcome

unfoldable pub outcome : Case → Outcome
outcome k = last_outcome (switch_with k.lower) (calls (switch_with k.lower) k.before (opened k.start)) k.last

-- the table of a flowset with b at 0 and a cell given
abbrev pub flowset_at : ℕ → List Key → Table
flowset_at lower F = encode 13 (placed_with lower) F packets_in

abbrev pub known : Key → ℕ → Line
known x n = record { key = x; count = some n }

abbrev pub unknown : Key → Line
unknown x = record { key = x; count = none }

abbrev pub case : ℕ → Table → List Call → Call → Outcome → Case
case lower start before last result = record { lower = lower; start = start; before = before; last = last; result = result }

-- 01's table, cases 1 to 10
abbrev pub ten_cases : List Case
ten_cases =
    case 3 (empty_table 13) [] settling (stands [] 0 whole)
    ∷ case 3 (flowset_at 3 (a ∷ [])) [] settling (stands (known a 5 ∷ []) 0 whole)
    ∷ case 3 (flowset_at 3 (a ∷ b ∷ [])) [] settling (stands (known a 5 ∷ known b 7 ∷ []) 0 whole)
    ∷ case 2 (flowset_at 2 (a ∷ b ∷ [])) [] settling (stands [] 2 stuck)
    ∷ case 2 (flowset_at 2 (a ∷ b ∷ [])) (settling ∷ hand b ∷ []) settling (stands (unknown b ∷ unknown a ∷ []) 0 short)
    ∷ case 3 (flowset_at 3 (a ∷ b ∷ [])) (hand b ∷ []) settling (stands (known b 7 ∷ known a 5 ∷ []) 0 whole)
    ∷ case 3 (flowset_at 3 (a ∷ [])) (settling ∷ []) (hand a) (refused 10)
    ∷ case 3 (flowset_at 3 (a ∷ [])) [] (hand c) (refused 11)
    ∷ case 3 (one_cell 0) [] settling (fourteen 0)
    ∷ case 3 (one_cell 1) [] settling (stands [] 1 stuck)
    ∷ []

-- the outcomes that the definitions give, and those that the table says
unfoldable pub outcomes : List Case → List Outcome
outcomes [] = []
outcomes (k ∷ ks) = outcome k ∷ outcomes ks

unfoldable pub results : List Case → List Outcome
results [] = []
results (k ∷ ks) = k.result ∷ results ks
