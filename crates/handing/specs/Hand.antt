-- Hand-over of a key to a session that passed the test of 8: 01 'A session', "Hand-over of a key".
use Rattle.std.specs.Prelude.{cond, List, ◌≡◌, ℕ, leb, length, Result, Ok, Err}
use Rattle.layout.specs.declared.Layout.{Layout}
use Rattle.layout.specs.declared.Sizes.{Sizes}
use Rattle.layout.specs.Sizes.{table_cells, filter_bytes}
use Rattle.filter.specs.Filter.{is_new}
use Rattle.list.specs.Records.{Records, is_listed, appended, handed_in}
use Rattle.index.specs.Index.{linked}
use Rattle.table.specs.Table.{Tab, has_empty, taken_out}
use Rattle.found.specs.Seen.{bucket_of}
use Rattle.peeling.specs.Peel.{Steady}
use Rattle.handing.specs.declared.HandError.{HandError}
use Rattle.handing.specs.declared.HandError.TheVariants.{NotInFilter, Listed, EmptyCell, TooMany}

-- 01 'A session': "9 not in the received filter; 10 already listed; 11 one of its cells has FlowCount 0; 12 already N handed; else take out";
-- n flows are listed, and so many of them were handed over
unfoldable pub answer_of : Layout → Sizes → ℕ → ℕ → ℕ → List ℕ → List ℕ → List ℕ → List ℕ → Result Unit HandError
answer_of l z salt n handed filter flows keys key =
    cond (is_new z salt filter key) (Err NotInFilter)
    (cond (is_listed l n keys key) (Err Listed)
    (cond (has_empty l z salt flows key) (Err EmptyCell)
    (cond (leb (table_cells l z) handed) (Err TooMany) (Ok tt))))

-- what a hand-over answers and leaves; the index of the listed flows goes with the list
pub record Handing : Type 0 where
  pub answer : Result Unit HandError
  pub table : Tab
  pub list : Records
  pub seen : List ℕ

abbrev pub handing : Result Unit HandError → Tab → Records → List ℕ → Handing
handing answer t rs seen = record { answer = answer; table = t; list = rs; seen = seen }

-- 01's table of numbers, 8 to 12: "all memory kept"; else the key is taken out and appended, as handed over
unfoldable pub after_answer : Layout → Sizes → ℕ → ℕ → List ℕ → Tab → Records → List ℕ → Result Unit HandError → Handing
after_answer l z salt n key t rs seen (Ok x) =
    handing (Ok x) (taken_out l z salt key n t) (appended l n key 2 rs) (linked seen (bucket_of l z salt key) n)
after_answer l z salt n key t rs seen (Err e) = handing (Err e) t rs seen

unfoldable pub hand_of : Layout → Sizes → ℕ → ℕ → List ℕ → List ℕ → Tab → Records → List ℕ → Handing
hand_of l z salt n key filter t rs seen =
    after_answer l z salt n key t rs seen (answer_of l z salt n (handed_in n rs) filter t.flows rs.keys key)

-- 01's number for each refusal, and for each answer
abbrev pub error_number : HandError → ℕ
error_number NotInFilter = 9
error_number Listed = 10
error_number EmptyCell = 11
error_number TooMany = 12

abbrev pub hand_number : Result Unit HandError → ℕ
hand_number (Ok x) = 0
hand_number (Err e) = error_number e

-- what a hand-over needs: a session with marks and numbers as the test of 8 has them, so that there is room for one more record while fewer
-- than N were handed over; the filter's length; and the number handed over
pub record Hands (l : Layout) (z : Sizes) (salt n handed : ℕ) (key filter : List ℕ) (t : Tab) (rs : Records) (seen : List ℕ) : Type 0 where
  pub steady : Steady l z salt n t rs seen
  pub filter-fits : length filter ≡ filter_bytes z
  pub key_fits : length key ≡ l.key
  pub handed-is : handed ≡ handed_in n rs

-- how many flows more are listed after it
abbrev pub taken_by : Result Unit HandError → ℕ
taken_by (Ok x) = 1
taken_by (Err e) = 0

-- 01 'A session', Exchange: "Answers 9 to 12 are passed over, and those of 12 are counted in the answer"
abbrev pub twelve_by : Result Unit HandError → ℕ
twelve_by (Ok x) = 0
twelve_by (Err NotInFilter) = 0
twelve_by (Err Listed) = 0
twelve_by (Err EmptyCell) = 0
twelve_by (Err TooMany) = 1
