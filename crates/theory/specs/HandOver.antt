-- Hand-over of a key, and sequences of calls.
use Rattle.std.specs.Prelude.{Bool, true, not, cond, List, [], ◌∷◌, ℕ, length, eqb, leb}
use Rattle.theory.specs.Encode.{Key, Placement}
use Rattle.theory.specs.Session.{Session, listed, handed_of, has_empty_cell, take_out, Result, settle}

-- what a switch received: its number of cells, where keys are placed, and which keys its filter passes
pub record Switch : Type 0 where
  pub size : ℕ
  pub has : Placement
  pub passes : Key → Bool

-- 01 'A session': "9 not in the received filter; 10 already listed; 11 one of its cells has FlowCount 0; 12 already N handed; else take out"
unfoldable pub hand_answer : Switch → Key → Session → ℕ
hand_answer w x s =
    cond (not (w.passes x)) 9
    (cond (listed s x) 10
    (cond (has_empty_cell w.size w.has s.cells x) 11
    (cond (leb w.size (length (handed_of s.list))) 12 0)))

-- 01's table of numbers: 8 to 12 keep all memory
unfoldable pub hand_over : Switch → Key → Session → Session
hand_over w x s = cond (eqb (hand_answer w x s) 0) (take_out w.has true x s) s

-- settling at a switch
abbrev pub settle_at : Switch → Session → Result Session
settle_at w = settle w.size w.has

-- a call that changes a session
pub data Call : Type 0 where
  hand : Key → Call
  settling : Call

unfoldable pub call : Switch → Call → Session → Session
call w (hand x) s = hand_over w x s
call w settling s = (settle_at w s).state

-- the calls in order
unfoldable pub calls : Switch → List Call → Session → Session
calls w [] s = s
calls w (a ∷ later) s = calls w later (call w a s)

-- mission: "accepted": the keys of the hand-overs that were answered 0, in order
unfoldable pub accepted : Switch → List Call → Session → List Key
accepted w [] s = []
accepted w (settling ∷ later) s = accepted w later (settle_at w s).state
accepted w (hand x ∷ later) s =
    let rest = accepted w later (hand_over w x s) in
    cond (eqb (hand_answer w x s) 0) (x ∷ rest) rest

-- each key of a list handed over in order
unfoldable pub hand_each : List Key → List Call
hand_each [] = []
hand_each (x ∷ l) = hand x ∷ hand_each l
