-- Demands 2 and 3 in the mission's words: F are the flows counted here, and `packets` says the packets taken of each.
use Rattle.std.specs.Prelude.{◌≡◌, Bool, true, not, cond, List, [], ◌∷◌, ℕ}
use Rattle.std.proofs.Math.Option.{Option, some, none}
use Rattle.theory.specs.Encode.{Key, among, Distinct, Table, Placement, Taken, flows_of, NeverMistaken, encode_cell, encode, outside, Only}
use Rattle.theory.specs.Session.{Session, opened, keys_of, listed, handed_over, counted, count_of, take_out, settle}
use Rattle.theory.specs.Report.{Report, report}
use Rattle.theory.specs.Runs.{PeelClosed}

-- ---- premises
-- mission: "If the filter never took a new flow for an old one and each flow accepted from a neighbour was counted here"
pub record Premises (taken : List Taken) (accepted : List Key) : Type 0 where
  pub clean : NeverMistaken taken
  pub accepted-counted : (k : Key) → among k accepted ≡ true → among k (flows_of taken) ≡ true

-- the second, where the flows accepted are those that the list says were handed over
abbrev pub HandedCounted : List Key → Session → Type 0
HandedCounted F s = (k : Key) → handed_over s k ≡ true → among k F ≡ true

-- ---- demand 2
-- the keys of a list that pass
unfoldable pub keep : (Key → Bool) → List Key → List Key
keep passes [] = []
keep passes (x ∷ l) = cond (passes x) (x ∷ keep passes l) (keep passes l)

-- mission: "every listed flow was counted here, every stated count is its packets taken, and the cells left encode exactly the flows
-- not listed, with the packets not yet attributed"; no flow is listed twice, so a flow's count is that of its one record
pub record Truthful (key_length : ℕ) (has : Placement) (F : List Key) (packets : Key → ℕ) (s : Session) : Type 0 where
  pub listed-once : Distinct (keys_of s.list)
  pub listed-counted : (k : Key) → listed s k ≡ true → among k F ≡ true
  pub counts-true : (k : Key) (n : ℕ) → count_of s.list k ≡ some n → n ≡ packets k
  pub cells_left : (c : ℕ) → s.cells c
      ≡ encode_cell key_length has (keep (λ k. not (listed s k)) F) (keep (λ k. not (counted s k)) F) packets c

-- mission: "Settling stops only when no cell has a single unlisted flow and no fully listed cell a single uncounted one"
pub record AtEnd (has : Placement) (F : List Key) (s : Session) : Type 0 where
  pub none-unlisted : (c : ℕ) (x : Key) → Only (outside has (listed s) c) F x → ⊥
  pub none-uncounted : (c : ℕ) (x : Key) → ((k : Key) → among k F ≡ true → has k c ≡ true → listed s k ≡ true)
      → Only (outside has (counted s) c) F x → ⊥

-- what a collector shows of a session: what stands, its report, the number that settling it answers, and what stands then
pub record Shown : Type 0 where
  pub stands : Session
  pub told : Option Report
  pub number : ℕ
  pub settled : Session

-- demand 2 of a session after any calls: what stands is true and is reported, and a settling answers 0, no 14, and stops only at its end
pub record Demand2 (size key_length : ℕ) (has : Placement) (F : List Key) (packets : Key → ℕ) (d : Shown) : Type 0 where
  pub truthful : Truthful key_length has F packets d.stands
  pub reports : d.told ≡ some (report size d.stands)
  pub answers-0 : d.number ≡ 0
  pub truthful-settled : Truthful key_length has F packets d.settled
  pub at-end : AtEnd has F d.settled

-- what settling yields: the listed flows are the least set that has those handed over and, of each cell with a single flow outside it,
-- that flow; the counted flows are the least such set with none handed over
pub record Yields (has : Placement) (F : List Key) (packets : Key → ℕ) (s : Session) : Type 0 where
  pub flows-only : (k : Key) → listed s k ≡ true → among k F ≡ true
  pub counts-true : (k : Key) → count_of s.list k ≡ cond (counted s k) (some (packets k)) none
  pub closed : PeelClosed has F (listed s)
  pub least : (X : Key → Bool) → PeelClosed has F X → ((k : Key) → handed_over s k ≡ true → X k ≡ true) → (k : Key) → listed s k ≡ true → X k ≡ true
  pub counted-closed : PeelClosed has F (counted s)
  pub counted-least : (X : Key → Bool) → PeelClosed has F X → (k : Key) → counted s k ≡ true → X k ≡ true

-- ---- demand 3
-- the keys taken out in order, as handed over
unfoldable pub take_all_out : Placement → List Key → Session → Session
take_all_out has [] s = s
take_all_out has (x ∷ l) s = take_all_out has l (take_out has true x s)

-- mission: "from the received flowset, taking out all accepted flows first and rescanning every cell at each step"
abbrev pub reference : ℕ → Placement → Table → List Key → Session
reference size has received accepted = (settle size has (take_all_out has accepted (opened received))).state

-- mission: "flows, known and unknown counts and all cells are the same .. List order may differ": in both no flow is listed twice,
-- and a flow is listed, and handed over or peeled, and counted, alike
pub record Same (s t : Session) : Type 0 where
  pub first-once : Distinct (keys_of s.list)
  pub second-once : Distinct (keys_of t.list)
  pub same_keys : (k : Key) → listed s k ≡ listed t k
  pub same-handed : (k : Key) → handed_over s k ≡ handed_over t k
  pub same-counts : (k : Key) → count_of s.list k ≡ count_of t.list k
  pub same-cells : s.cells ≡ t.cells

-- demand 3 of a session after any calls, of which these were accepted
abbrev pub Demand3 : ℕ → ℕ → Placement → List Key → (Key → ℕ) → List Key → Shown → Type 0
Demand3 size key_length has F packets accepted d = Same d.settled (reference size has (encode key_length has F packets) accepted)
