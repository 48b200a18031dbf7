-- A collector as its calls, over whatever working memory, images, sessions and texts it has, and what demands 2 and 3 ask of it; the exchange and
-- one peel, and what is asked of them.
use Rattle.std.specs.Prelude.{◌≡◌, false, cond, List, [], ◌∷◌, ℕ, eqb, length}
use Rattle.std.proofs.Math.Option.{Option}
use Rattle.laws.specs.Upto.{lowest}
use Rattle.theory.specs.Encode.{Key, Placement, Taken, flows_of, packets_of, NeverMistaken}
use Rattle.theory.specs.Session.{Record, Session, Step, next}
use Rattle.theory.specs.HandOver.{Switch, Call, hand, settling}
use Rattle.theory.specs.Report.{Report, report}
use Rattle.theory.specs.Invariant.{Counted}
use Rattle.theory.specs.Runs.{Stands}
use Rattle.theory.specs.Demands.{Premises, Truthful, AtEnd, Shown, Demand2, Demand3}
use Rattle.theory.specs.Exchange.{Pair, BothCounted}
use Rattle.theory.specs.Notes.{Noted}

-- ---- a collector
-- a call's number by 01's table, and what it leaves
pub record Answer (A : Type 0) : Type 0 where
  pub number : ℕ
  pub left : A

-- a call that gives something, or refuses with a number
pub data Gives (A : Type 0) : Type 0 where
  gives : A → Gives A
  refuses : ℕ → Gives A

-- its calls; what a start leaves; and what is seen of a session: the cells and the found flows
pub record Collector (Packet Memory Image Held Text : Type 0) : Type 0 where
  pub cleared : Memory
  pub packet : Packet → Memory → Answer Memory
  pub seal : Memory → Gives Image
  pub opens : Image → Gives Held
  pub hand_over : Key → Held → Answer Held
  pub settle : Held → Answer Held
  pub report : Held → Option Report
  pub print : Image → Text
  pub seen : Held → Session

-- what 01 fixes of a switch: N, the length of keys, where they are placed, which packets are taken from a start, each with its key and whether
-- the filter called its flow new, and the text of a report and a list
pub record Site (Packet Text : Type 0) : Type 0 where
  pub size : ℕ
  pub key_length : ℕ
  pub has : Placement
  pub taken : List Packet → List Taken
  pub text : Report → List Record → Text

-- every key that is handed over has the length
unfoldable pub KeysSized : ℕ → List Call → Type 0
KeysSized n [] = Unit {0}
KeysSized n (hand x ∷ later) = (length x ≡ n) × KeysSized n later
KeysSized n (settling ∷ later) = KeysSized n later

module _ {Packet Memory Image Held Text : Type 0} (site : Site Packet Text) (o : Collector Packet Memory Image Held Text) where
  -- the packets offered in order
  unfoldable pub packets_by : List Packet → Memory → Memory
  packets_by [] m = m
  packets_by (p ∷ later) m = packets_by later (o.packet p m).left

  abbrev pub call_by : Call → Held → Held
  call_by (hand x) v = (o.hand_over x v).left
  call_by settling v = (o.settle v).left

  -- the calls in order
  unfoldable pub calls_by : List Call → Held → Held
  calls_by [] v = v
  calls_by (a ∷ later) v = calls_by later (call_by a v)

  -- the keys of the hand-overs that were answered 0, in order
  unfoldable pub accepted_by : List Call → Held → List Key
  accepted_by [] v = []
  accepted_by (settling ∷ later) v = accepted_by later (o.settle v).left
  accepted_by (hand x ∷ later) v =
      let rest = accepted_by later (o.hand_over x v).left in
      cond (eqb (o.hand_over x v).number 0) (x ∷ rest) rest

  abbrev pub shown_by : Held → Shown
  shown_by v = record { stands = o.seen v; told = o.report v; number = (o.settle v).number; settled = o.seen (o.settle v).left }

  -- the packets were taken from a start, sealed and opened; v is what stands then
  pub record OpensTo (packets : List Packet) (image : Image) (v : Held) : Type 0 where
    pub sealed : o.seal (packets_by packets o.cleared) ≡ gives image
    pub opened : o.opens image ≡ gives v

  -- demand 2: every flowset is sealed and opened, and after any calls on it demand 2 holds under its premises
  pub record Meets2 : Type 0 where
    pub goes_through : (packets : List Packet) → (image : Image) × (v : Held) × OpensTo packets image v
    pub demand : (packets : List Packet) (image : Image) (v : Held) → OpensTo packets image v → (later : List Call) → KeysSized site.key_length later
        → Premises (site.taken packets) (accepted_by later v)
        → Demand2 site.size site.key_length site.has (flows_of (site.taken packets)) (packets_of (site.taken packets)) (shown_by (calls_by later v))

  -- demand 2 of what is printed: the report and the list of what a settling leaves
  abbrev pub Prints : Type 0
  Prints = (packets : List Packet) (image : Image) (v : Held) → OpensTo packets image v → NeverMistaken (site.taken packets)
      → let s = o.seen (o.settle v).left in o.print image ≡ site.text (report site.size s) s.list

  -- demand 3 after any calls on a flowset
  abbrev pub Meets3 : Type 0
  Meets3 = (packets : List Packet) (image : Image) (v : Held) → OpensTo packets image v → (later : List Call) → KeysSized site.key_length later
      → Premises (site.taken packets) (accepted_by later v)
      → Demand3 site.size site.key_length site.has (flows_of (site.taken packets)) (packets_of (site.taken packets)) (accepted_by later v)
      (shown_by (calls_by later v))

-- ---- an exchange
-- under demand 2's premises at both switches, what both list, state and leave in the cells is true, and nothing is left to do
pub record ExchangeTrue (exchange : Switch → Switch → Pair → Pair) : Type 0 where
  pub true-a : (A B : Switch) (e : Counted A) (f : Counted B) (p : Pair) → Stands A e p.a → Stands B f p.b → BothCounted A B e f (exchange A B p)
      → Truthful e.key_length A.has e.flows e.packets (exchange A B p).a × AtEnd A.has e.flows (exchange A B p).a
  pub true-b : (A B : Switch) (e : Counted A) (f : Counted B) (p : Pair) → Stands A e p.a → Stands B f p.b → BothCounted A B e f (exchange A B p)
      → Truthful f.key_length B.has f.flows f.packets (exchange A B p).b × AtEnd B.has f.flows (exchange A B p).b

-- ---- one peel
-- the peel's contract, of a peel from t that left u, whatever the marks: 01 'A session': "it starts from the lowest one set, and leaves the marks
-- and per-cell numbers of all cells but the flow's as they were"
pub record PeelLeaves (n : ℕ) (has : Placement) (t u : Noted) : Type 0 where
  pub marks-kept : (c : ℕ) → has (t.session.cells (lowest n t.notes.marks)).flow_xor c ≡ false → u.notes.marks c ≡ t.notes.marks c
  pub unknowns-kept : (c : ℕ) → has (t.session.cells (lowest n t.notes.marks)).flow_xor c ≡ false → u.notes.unknowns c ≡ t.notes.unknowns c
  pub positions-kept : (c : ℕ) → has (t.session.cells (lowest n t.notes.marks)).flow_xor c ≡ false → u.notes.positions c ≡ t.notes.positions c

abbrev pub PeelMeets : (ℕ → Placement → Noted → Step Noted) → Type 0
PeelMeets f = (n : ℕ) (has : Placement) (t u : Noted) → f n has t ≡ next u → PeelLeaves n has t u
