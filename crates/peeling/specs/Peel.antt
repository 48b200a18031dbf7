-- One peel for any marks, and peeling while a cell is marked: 01 'A session', Settle and Damage.
use Rattle.std.specs.Prelude.{Bool, true, false, cond, Result, Ok, Err, ◌||◌, List, ℕ, zero, suc, ◌+◌, ◌-◌, ◌*◌, ◌≤◌, ◌<◌, ltb}
use Rattle.layout.specs.declared.Layout.{Layout}
use Rattle.layout.specs.declared.Sizes.{Sizes}
use Rattle.layout.specs.Sizes.{table_cells}
use Rattle.list.specs.Records.{Records, Room, key_at, is_listed, appended}
use Rattle.index.specs.Index.{linked}
use Rattle.marks.specs.Marks.{first_mark}
use Rattle.table.specs.Table.{Tab, Fit, has_empty, taken_out, Bounded}
use Rattle.found.specs.Seen.{bucket_of, Covers}
use Rattle.peeling.specs.declared.Damage.{Damage}

-- room for the cells and for 2 N records, of which n are listed, and an index that has those
pub record Fits (l : Layout) (z : Sizes) (salt n : ℕ) (t : Tab) (rs : Records) (seen : List ℕ) : Type 0 where
  pub table : Fit l z t
  pub room : Room l (2 * table_cells l z) rs
  pub listed : n ≤ 2 * table_cells l z
  pub covers : Covers l z salt n rs.keys seen

-- with marks and numbers as the test of 8 has them: what settling and hand-overs need, and keep
pub record Steady (l : Layout) (z : Sizes) (salt n : ℕ) (t : Tab) (rs : Records) (seen : List ℕ) : Type 0 where
  pub fits : Fits l z salt n t rs seen
  pub bounded : Bounded l z salt n t rs

-- 01 'A session': "where the list has room": a peel asks it, and only where a cell is marked, since else nothing is listed
abbrev pub PeelRoom : Layout → Sizes → ℕ → Tab → Type 0
PeelRoom l z n t = first_mark t.marks < table_cells l z → n < 2 * table_cells l z

-- ---- one peel

-- what a step does: a flow is taken out, or no cell is marked, or 14 with the marked cell
abbrev pub Step : Type 0
Step = Result Bool ℕ

pub record Peeled : Type 0 where
  pub answer : Step
  pub table : Tab
  pub list : Records
  pub seen : List ℕ

abbrev pub peeled : Step → Tab → Records → List ℕ → Peeled
peeled answer t rs seen = record { answer = answer; table = t; list = rs; seen = seen }

-- 01 'A session', Damage: "a peel whose key is listed already or has a cell with FlowCount 0"
unfoldable pub peel_damaged : Layout → Sizes → ℕ → ℕ → List ℕ → List ℕ → List ℕ → Bool
peel_damaged l z salt n flows keys key = is_listed l n keys key || has_empty l z salt flows key

-- the flow taken out of the cells, appended and noted in the index
unfoldable pub peel_taken : Layout → Sizes → ℕ → ℕ → List ℕ → Tab → Records → List ℕ → Peeled
peel_taken l z salt n key t rs seen =
    peeled (Ok true) (taken_out l z salt key n t) (appended l n key 0 rs) (linked seen (bucket_of l z salt key) n)

-- the peel from a marked cell
unfoldable pub peel_at : Layout → Sizes → ℕ → ℕ → Tab → Records → List ℕ → ℕ → Peeled
peel_at l z salt n t rs seen c =
    cond (peel_damaged l z salt n t.flows rs.keys (key_at l t.xors c)) (peeled (Err c) t rs seen)
    (peel_taken l z salt n (key_at l t.xors c) t rs seen)

-- 01 'A session': "it starts from the lowest one set"
unfoldable pub peel_of : Layout → Sizes → ℕ → ℕ → Tab → Records → List ℕ → Peeled
peel_of l z salt n t rs seen =
    cond (ltb (first_mark t.marks) (table_cells l z)) (peel_at l z salt n t rs seen (first_mark t.marks)) (peeled (Ok false) t rs seen)

-- ---- peeling while a cell is marked

-- how peeling ended: the flows that are then listed, and for 14 the marked cell too
abbrev pub Stop : Type 0
Stop = Result ℕ Damage

abbrev pub damage : ℕ → ℕ → Damage
damage listed cell = record { listed = listed; cell = cell }

pub record Ended : Type 0 where
  pub answer : Stop
  pub table : Tab
  pub list : Records
  pub seen : List ℕ

abbrev pub ended : Stop → Tab → Records → List ℕ → Ended
ended answer t rs seen = record { answer = answer; table = t; list = rs; seen = seen }

-- how it ends where n flows are listed and the step is not a peel
abbrev pub stop_at : ℕ → Step → Stop
stop_at n (Ok b) = Ok n
stop_at n (Err c) = Err (damage n c)

-- a peel is followed by the next, any other step ends it
unfoldable pub after_peel : (Tab → Records → List ℕ → Ended) → ℕ → Step → Tab → Records → List ℕ → Ended
after_peel more n (Ok true) t rs seen = more t rs seen
after_peel more n (Ok false) t rs seen = ended (stop_at n (Ok false)) t rs seen
after_peel more n (Err c) t rs seen = ended (stop_at n (Err c)) t rs seen

-- at most so many peels
unfoldable pub peels_upto : ℕ → Layout → Sizes → ℕ → ℕ → Tab → Records → List ℕ → Ended
peels_upto zero l z salt n t rs seen = ended (Ok n) t rs seen
peels_upto (suc m) l z salt n t rs seen =
    let p = peel_of l z salt n t rs seen in
    after_peel (peels_upto m l z salt (n + 1)) n p.answer p.table p.list p.seen

-- 01 'A session', Settle: "while a cell is marked, take out the key of the lowest marked cell"; the list's room bounds the peels
unfoldable pub peels_of : Layout → Sizes → ℕ → ℕ → Tab → Records → List ℕ → Ended
peels_of l z salt n t rs seen = peels_upto (suc (2 * table_cells l z - n)) l z salt n t rs seen

-- the listed flows and the cell that a stop names, and 01's number for it
abbrev pub listed_at : Stop → ℕ
listed_at (Ok n) = n
listed_at (Err d) = d.listed

abbrev pub stop_number : Stop → ℕ
stop_number (Ok n) = 0
stop_number (Err d) = 14
