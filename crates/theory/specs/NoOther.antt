-- Request m of document 02: what a whole report says of the received cells.
use Rattle.std.specs.Prelude.{◌≡◌, true, List, ℕ, ◌≤◌, ◌<◌, length}
use Rattle.std.proofs.Math.Option.{Option, some, none}
use Rattle.theory.specs.Encode.{Key, among, Distinct, Table, Placement, empty_table, encode, FlowSet}
use Rattle.theory.specs.Session.{Record, Session, opened, keys_of, listed, handed_over, count_of}
use Rattle.theory.specs.HandOver.{Switch, Call, calls}
use Rattle.theory.specs.Report.{State, Report}
use Rattle.theory.specs.Invariant.{Placed}

-- ---- a session of any cells
-- n cells, each with a FlowXOR of the keys' length; past them each is empty
pub record IsTable (n key_length : ℕ) (t : Table) : Type 0 where
  pub sized : (c : ℕ) → c < n → length (t c).flow_xor ≡ key_length
  pub past : (c : ℕ) → n ≤ c → t c ≡ empty_table key_length c

-- every key that was handed over has the length
abbrev pub HandedSized : ℕ → Session → Type 0
HandedSized key_length s = (k : Key) → handed_over s k ≡ true → length k ≡ key_length

-- 02 m: "a session of any readable image": any cells, clean, damaged or made up, whatever the filter passes, and any calls since they were opened.
-- 02 m asks for no hand-over; hand-overs of any keys may be among the calls
pub record Since (key_length : ℕ) (w : Switch) (t : Table) (later : List Call) : Type 0 where
  pub placed : Placed w.size w.has
  pub table : IsTable w.size key_length t
  pub handed : HandedSized key_length (calls w later (opened t))

-- ---- no other reading
-- 02 m: "any collection of distinct flows with positive counts that encodes to the received cells"; the sums are exact, not modulo 2^16 or 2^32
pub record EncodesTo (n key_length : ℕ) (has : Placement) (t : Table) (F : List Key) (packets : Key → ℕ) : Type 0 where
  pub flowset : FlowSet key_length F packets
  pub cells : (c : ℕ) → c < n → encode key_length has F packets c ≡ t c

-- 02 m: "is exactly the listed one": the same flows, none listed twice, and the counts that the list states
pub record ExactlyListed (F : List Key) (packets : Key → ℕ) (s : Session) : Type 0 where
  pub listed-once : Distinct (keys_of s.list)
  pub same-flows : (k : Key) → among k F ≡ listed s k
  pub same-counts : (k : Key) → among k F ≡ true → count_of s.list k ≡ some (packets k)

abbrev pub NoOther : ℕ → ℕ → Placement → Table → Session → Type 0
NoOther n key_length has t s = (F : List Key) (packets : Key → ℕ) → EncodesTo n key_length has t F packets → ExactlyListed F packets s

-- 02 m's sentence, of a report and a state of it: where that state is reported, there is no other reading. 02 m says it of whole
abbrev pub NoOtherWhere : (ℕ → Session → Report) → State → Type 0
NoOtherWhere report_of state = (key_length : ℕ) (w : Switch) (t : Table) (later : List Call) → Since key_length w t later
    → let s = calls w later (opened t) in (report_of w.size s).state ≡ state → NoOther w.size key_length w.has t s

-- the count that the list states of a key, or 0
abbrev pub or_zero : Option ℕ → ℕ
or_zero (some n) = n
or_zero none = 0

unfoldable pub stated_in : List Record → Key → ℕ
stated_in list k = or_zero (count_of list k)

-- 02 m, the other way: the listed flows, with the counts stated, do encode to the received cells
abbrev pub ListedEncodes : ℕ → ℕ → Placement → Table → Session → Type 0
ListedEncodes n key_length has t s = EncodesTo n key_length has t (keys_of s.list) (stated_in s.list)
