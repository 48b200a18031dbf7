-- The hollow programs: 01 'How much a contract has to say', "Six hollow programs are to be tried", and four more. Each is a change of a collector
-- of four cells that keeps the flows taken as they are.
use Rattle.std.specs.Prelude.{true, not, cond, ◌||◌, List, [], ◌∷◌, ◌++◌, ℕ, ◌+◌, eqb, length}
use Rattle.std.proofs.Math.Option.{Option, some, none}
use Rattle.theory.specs.Encode.{Key, same_key, among, Table, Placement, Taken, add_flow, flows_of, packets_of, empty_table, encode}
use Rattle.theory.specs.Session.{Record, Session, opened, handed_of, Step, stop_number, peel_pure}
use Rattle.theory.specs.HandOver.{Switch, hand_answer, hand_over, settle_at}
use Rattle.theory.specs.Report.{Report, report}
use Rattle.theory.specs.Exchange.{Pair, exchange}
use Rattle.theory.specs.Notes.{Noted, noted, map_step}
use Rattle.theory.specs.Collector.{Answer, gives, refuses, Collector, Site}

-- ---- the site: keys of one byte; 4 at cells 1 and 3, any other at 0 and 2
unfoldable pub pairs : Placement
pairs x c = cond (same_key x (4 ∷ [])) (eqb c 1 || eqb c 3) (eqb c 0 || eqb c 2)

abbrev pub four : Switch
four = record { size = 4; has = pairs; passes = λ k. true }

-- the packets of these keys, by a filter that makes no mistake; F are the flows before them
unfoldable pub taken_after : List Key → List Key → List Taken
taken_after F [] = []
taken_after F (x ∷ later) = record { key = x; new = not (among x F) } ∷ taken_after (add_flow F x) later

-- what is printed, before it is put into bytes
pub record Page : Type 0 where
  pub head : Report
  pub lines : List Record

abbrev pub page : Report → List Record → Page
page r list = record { head = r; lines = list }

abbrev pub site : Site Key Page
site = record { size = 4; key_length = 1; has = pairs; taken = taken_after []; text = page }

-- ---- a collector of it by the definitions
abbrev pub Model : Type 0
Model = Collector Key (List Key) Table Session Page

abbrev pub answer : {A : Type 0} → ℕ → A → Answer A
answer number left = record { number = number; left = left }

-- the cells of the flows of these packets
abbrev pub cells_of : List Key → Table
cells_of packets = encode 1 pairs (flows_of (taken_after [] packets)) (packets_of (taken_after [] packets))

abbrev pub ended : Session → Session
ended s = (settle_at four s).state

abbrev pub printed : Table → Page
printed t = let s = ended (opened t) in page (report 4 s) s.list

abbrev pub made : (Key → Session → Answer Session) → (Session → Answer Session) → (Session → Option Report) → (Table → Page) → Model
made hand_over settle report print = record {
  cleared = [];
  packet = λ x m. answer 0 (m ++ (x ∷ []));
  seal = λ m. gives (cells_of m);
  opens = λ t. gives (opened t);
  hand_over = hand_over;
  settle = settle;
  report = report;
  print = print;
  seen = λ s. s;
}

abbrev pub hands : Key → Session → Answer Session
hands x s = answer (hand_answer four x s) (hand_over four x s)

abbrev pub settles : Session → Answer Session
settles s = answer (stop_number (settle_at four s).stop) (ended s)

abbrev pub reports : Session → Option Report
reports s = some (report 4 s)

-- ---- 01's six
-- "One refusing everything"
abbrev pub refusing : Page → Model
refusing refused = record {
  cleared = [];
  packet = λ x m. answer 3 m;
  seal = λ m. refuses 3;
  opens = λ t. refuses 1;
  hand_over = λ x s. answer 8 s;
  settle = λ s. answer 8 s;
  report = λ s. none;
  print = λ t. refused;
  seen = λ s. s;
}

-- "one printing one fixed list"
abbrev pub fixed : Page → Model
fixed text = made hands settles reports (λ t. text)

-- "a settle that does nothing"
abbrev pub idle : Model
idle = made hands (λ s. answer 0 s) reports printed

-- "One that settles truly the first time and only pretends after a hand-over"
abbrev pub pretending : Model
pretending = made hands (λ s. cond (eqb (length (handed_of s.list)) 0) (settles s) (answer 0 s)) reports printed

-- "One that invents listed, counted or open": any report at all
abbrev pub inventing : (Session → Option Report) → Model
inventing invented = made hands settles invented printed

-- "One that rescans every cell and writes all marks anew"
unfoldable pub rescanning : ℕ → Placement → Noted → Step Noted
rescanning n has t = map_step (noted has) (peel_pure n has t.session)

-- ---- four more
-- each record with its count one higher
unfoldable pub higher : List Record → List Record
higher [] = []
higher (r ∷ rs) = record { key = r.key; count = r.count + 1; known = r.known; handed = r.handed } ∷ higher rs

-- one that lists every flow twice, the second time with a wrong count
abbrev pub doubling : Model
doubling = made hands (λ s. let t = ended s in answer 0 (record { cells = t.cells; list = t.list ++ higher t.list })) reports printed

-- one that hides open cells
abbrev pub hiding : Model
hiding = made hands (λ s. answer 0 (record { cells = empty_table 1; list = (ended s).list })) reports printed

-- one that takes no hand-over and answers 0
abbrev pub ignoring : Model
ignoring = made (λ x s. answer 0 s) settles reports printed

-- an exchange that falsifies counts
abbrev pub falsifying : Switch → Switch → Pair → Pair
falsifying A B p =
    let q = (exchange A B p).pair in
    record { a = record { cells = q.a.cells; list = higher q.a.list }; b = q.b; twelves = q.twelves }
