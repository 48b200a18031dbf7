-- A session as a value: the cells and the list of found flows; pure and ready cells; and settling it, by looking at every cell at each step.
use Rattle.std.specs.Prelude.{Bool, true, false, not, cond, ◌&&◌, ◌||◌, List, [], ◌∷◌, ◌++◌, ℕ, ◌-◌, zero, suc, eqb, ltb, length}
use Rattle.std.proofs.Math.Option.{Option, some, none}
use Rattle.laws.specs.Xor.{xor_bytes}
use Rattle.laws.specs.Upto.{any_upto, number_upto, lowest}
use Rattle.theory.specs.Encode.{Key, same_key, among, count, Table, Placement}

-- 01 'A session': "flow records, each with key, count, known or unknown, peeled or handed"
pub record Record : Type 0 where
  pub key : Key
  pub count : ℕ
  pub known : Bool
  pub handed : Bool

-- what the calls change; the received filter stays with the switch
pub record Session : Type 0 where
  pub cells : Table
  pub list : List Record

-- 01 'A session': "Opening copies the cells .. and zeroes the list"
abbrev pub opened : Table → Session
opened t = record { cells = t; list = [] }

-- ---- the list
-- the listed keys, in order
unfoldable pub keys_of : List Record → List Key
keys_of [] = []
keys_of (r ∷ rs) = r.key ∷ keys_of rs

-- the listed flows that pass a test of their records
unfoldable pub keys_where : (Record → Bool) → List Record → List Key
keys_where test [] = []
keys_where test (r ∷ rs) = cond (test r) (r.key ∷ keys_where test rs) (keys_where test rs)

-- the listed flows whose count is unknown
abbrev pub unknowns_of : List Record → List Key
unknowns_of = keys_where (λ r. not r.known)

-- the flows that were handed over, and those that were peeled
abbrev pub handed_of : List Record → List Key
handed_of = keys_where (λ r. r.handed)

abbrev pub peeled_of : List Record → List Key
peeled_of = keys_where (λ r. not r.handed)

-- what a key is in a session
abbrev pub listed : Session → Key → Bool
listed s k = among k (keys_of s.list)

abbrev pub unknown : Session → Key → Bool
unknown s k = among k (unknowns_of s.list)

abbrev pub handed_over : Session → Key → Bool
handed_over s k = among k (handed_of s.list)

unfoldable pub counted : Session → Key → Bool
counted s k = listed s k && not (unknown s k)

-- the known count of a key
unfoldable pub count_of : List Record → Key → Option ℕ
count_of [] k = none
count_of (r ∷ rs) k = cond (same_key k r.key && r.known) (some r.count) (count_of rs k)

-- ---- cells
-- 01 'A session': "it is pure: FlowCount 1 and its FlowXOR, taken as a key, has this cell"
unfoldable pub pure : Placement → Table → ℕ → Bool
pure has t c = eqb (t c).flow_count 1 && has (t c).flow_xor c

-- 01 'A session': "Each cell also has the number of listed flows in it whose count is unknown"
abbrev pub unknowns_in : Placement → List Record → ℕ → ℕ
unknowns_in has list c = count (λ k. has k c) (unknowns_of list)

-- 01 'A session': "A cell is ready when FlowCount is 0 and that number is 1"
unfoldable pub ready : Placement → Session → ℕ → Bool
ready has s c = eqb (s.cells c).flow_count 0 && eqb (unknowns_in has s.list c) 1

-- the first key of a list that passes
unfoldable pub first : (Key → Bool) → List Key → Key
first passes [] = []
first passes (x ∷ l) = cond (passes x) x (first passes l)

-- the unknown flow of a ready cell
abbrev pub the_unknown : Placement → List Record → ℕ → Key
the_unknown has list c = first (λ k. has k c) (unknowns_of list)

-- 01 'A session': "one of its cells has FlowCount 0"
unfoldable pub has_empty_cell : ℕ → Placement → Table → Key → Bool
has_empty_cell n has t x = any_upto n (λ c. has x c && eqb (t c).flow_count 0)

-- 01 'A session', Report: "open (cells with FlowCount above 0)"
unfoldable pub open_cells : ℕ → Table → ℕ
open_cells n t = number_upto n (λ c. ltb 0 (t c).flow_count)

-- ---- the changes
-- a flow just listed, peeled or handed
abbrev pub new_record : Bool → Key → Record
new_record handed x = record { key = x; count = 0; known = false; handed = handed }

-- 01 'A session': "Taking out a key XORs it into FlowXOR and takes 1 from FlowCount in its k cells; PacketCount stays.
-- It is then appended, count unknown and stored as 0"
unfoldable pub take_out : Placement → Bool → Key → Session → Session
take_out has handed x s = record {
  cells = λ c. cond (has x c) (record {
    flow_xor = xor_bytes (s.cells c).flow_xor x;
    flow_count = (s.cells c).flow_count - 1;
    packet_count = (s.cells c).packet_count;
  }) (s.cells c);
  list = s.list ++ (new_record handed x ∷ []);
}

-- the record with its count known
abbrev pub told_record : Record → ℕ → Record
told_record r v = record { key = r.key; count = v; known = true; handed = r.handed }

-- the list with the count of x known
unfoldable pub with_count : Key → ℕ → List Record → List Record
with_count x v [] = []
with_count x v (r ∷ rs) = cond (same_key r.key x) (told_record r v) r ∷ with_count x v rs

-- 01 'A session': "becomes the count of its one unknown flow and is subtracted from that flow's k cells"
unfoldable pub set_count : Placement → Key → ℕ → Session → Session
set_count has x v s = record {
  cells = λ c. cond (has x c) (record {
    flow_xor = (s.cells c).flow_xor;
    flow_count = (s.cells c).flow_count;
    packet_count = (s.cells c).packet_count - v;
  }) (s.cells c);
  list = with_count x v s.list;
}

-- ---- settling: one peel for any marks, one count step, and each repeated while a cell is marked or ready
-- what one step does: no cell to start from, 14 with the cell it starts from, or the next state
pub data Step (S : Type 0) : Type 0 where
  quiet : Step S
  damaged : ℕ → Step S
  next : S → Step S

-- how settling ended
pub data Stop : Type 0 where
  settled : Stop
  damage : ℕ → Stop

-- 01's table of numbers: 0 done, 14 settle
abbrev pub stop_number : Stop → ℕ
stop_number settled = 0
stop_number (damage c) = 14

-- how it ended, and what stands then: "earlier steps stand"
pub record Result (S : Type 0) : Type 0 where
  pub state : S
  pub stop : Stop

-- a step ends it, or it goes on from the next state
unfoldable pub after_step : {S : Type 0} → (S → Result S) → S → Step S → Result S
after_step go s quiet = record { state = s; stop = settled }
after_step go s (damaged c) = record { state = s; stop = damage c }
after_step go s (next t) = go t

-- the step repeated, at most so many times
unfoldable pub repeat : {S : Type 0} → (S → Step S) → ℕ → S → Result S
repeat f zero s = record { state = s; stop = settled }
repeat f (suc m) s = after_step (repeat f m) s (f s)

-- 01 'A session', Damage: "a peel whose key is listed already or has a cell with FlowCount 0"
unfoldable pub peel_damaged : ℕ → Placement → Session → Key → Bool
peel_damaged n has s x = listed s x || has_empty_cell n has s.cells x

-- the peel from a marked cell
unfoldable pub peel_at : ℕ → Placement → Session → ℕ → Step Session
peel_at n has s c = cond (peel_damaged n has s (s.cells c).flow_xor) (damaged c) (next (take_out has false (s.cells c).flow_xor s))

-- one peel for any marks: 01 'A session': "it starts from the lowest one set"
unfoldable pub peel : ℕ → Placement → (ℕ → Bool) → Session → Step Session
peel n has marks s = cond (any_upto n marks) (peel_at n has s (lowest n marks)) quiet

-- one peel by looking through all cells
abbrev pub peel_pure : ℕ → Placement → Session → Step Session
peel_pure n has s = peel n has (pure has s.cells) s

-- 01 'A session', Damage: "a count that is 0 or exceeds PacketCount in one of the flow's cells"
unfoldable pub count_damaged : ℕ → Placement → Session → Key → ℕ → Bool
count_damaged n has s x v = eqb v 0 || any_upto n (λ c. has x c && ltb (s.cells c).packet_count v)

-- the count step from a ready cell
unfoldable pub count_at : ℕ → Placement → Session → ℕ → Step Session
count_at n has s c =
    cond (count_damaged n has s (the_unknown has s.list c) (s.cells c).packet_count) (damaged c)
    (next (set_count has (the_unknown has s.list c) (s.cells c).packet_count s))

-- 01 'A session', Settle: "the lowest ready cell's PacketCount becomes the count of its one unknown flow"
unfoldable pub count_step : ℕ → Placement → Session → Step Session
count_step n has s = cond (any_upto n (ready has s)) (count_at n has s (lowest n (ready has s))) quiet

-- each peel empties a cell, and each count step makes a count known: so many steps are enough
abbrev pub peels : ℕ → Placement → Session → Result Session
peels n has s = repeat (peel_pure n has) n s

abbrev pub counts : ℕ → Placement → Session → Result Session
counts n has s = repeat (count_step n has) (length (unknowns_of s.list)) s

-- a 14 while peeling ends the settling
unfoldable pub then_counts : ℕ → Placement → Session → Stop → Result Session
then_counts n has s settled = counts n has s
then_counts n has s (damage c) = record { state = s; stop = damage c }

-- 01 'A session', Settle: "while a cell is marked, take out .. Then, while a cell is ready"
unfoldable pub settle : ℕ → Placement → Session → Result Session
settle n has s = then_counts n has (peels n has s).state (peels n has s).stop
