-- The report of a session, worked out anew from list and cells: 01 'A session', Report, and 02 b.
use Rattle.std.specs.Prelude.{Bool, cond, ◌&&◌, List, ℕ, ◌-◌, ltb, length, get_or}
use Rattle.laws.specs.Upto.{number_upto}
use Rattle.laws.specs.Zeros.{all_zero}
use Rattle.table.specs.Table.{open_in}
use Rattle.test8.specs.Given.{flag_set}
use Rattle.summary.specs.declared.State.{State}
use Rattle.summary.specs.declared.State.TheVariants.{Stuck, Short, Stray, Whole}
use Rattle.summary.specs.declared.Report.{Report}

-- 01 'A session', Report: "counted (known counts)": of the first n records, those whose flags have bit 0
unfoldable pub counted_in : ℕ → List ℕ → ℕ
counted_in n flags = number_upto n (λ i. flag_set 0 (get_or flags i 0))

-- 02 b: "every FlowXOR and PacketCount to be zero"
unfoldable pub nothing_left : List ℕ → List ℕ → Bool
nothing_left xors packets = all_zero xors && all_zero packets

-- 01 'A session', Report: "stuck if open is above 0; else short if an unknown count remains"; 02 b: "with no FlowCount above 0 and no unknown count
-- but something left, the state is stray"; else whole
abbrev pub state_of : ℕ → ℕ → Bool → State
state_of opens unknown nothing = cond (ltb 0 opens) Stuck (cond (ltb 0 unknown) Short (cond nothing Whole Stray))

-- 01 'A session', Report: "listed, counted (known counts), open (cells with FlowCount above 0), .. and a state"
unfoldable pub report_of : ℕ → List ℕ → List ℕ → List ℕ → List ℕ → Report
report_of n xors flows packets flags = record {
  listed = n;
  counted = counted_in n flags;
  opens = open_in (length flows) flows;
  state = state_of (open_in (length flows) flows) (n - counted_in n flags) (nothing_left xors packets);
}
