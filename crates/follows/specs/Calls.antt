-- The calls of 01 over records one after the other, each on the numbers and the lent room that the call before it left.
use Rattle.std.specs.Prelude.{cond, List, [], ◌∷◌, eqb}
use Rattle.packet.specs.declared.Key.{Key}
use Rattle.packet.specs.Key.{key_bytes}
use Rattle.room.specs.declared.Session.{Session}
use Rattle.session.specs.Calls.{hand_over_number}
use Rattle.theory.specs.Encode as flow
use Rattle.theory.specs.HandOver as theory
use Rattle.demands.specs.Calls.{Live, live, after_hand, after_settle}
use Rattle.calls.specs.Calls.{Lent, as_numbers, hand_records, settle_records}

-- a session as its holder has it: the numbers kept by value, and the lent room with the found flows as records
pub record Held : Type 0 where
  pub numbers : Session
  pub room : Lent

abbrev pub held : Session → Lent → Held
held s m = record { numbers = s; room = m }

-- the same with the found flows as numbers
abbrev pub as_live : Held → Live
as_live v = live v.numbers (as_numbers v.room)

pub data Call : Type 0 where
  handing : Key → Call
  settling : Call

abbrev pub as_call : Call → theory.Call
as_call (handing key) = theory.hand (key_bytes key)
as_call settling = theory.settling

unfoldable pub as_calls : List Call → List theory.Call
as_calls [] = []
as_calls (a ∷ later) = as_call a ∷ as_calls later

-- one call
unfoldable pub call_on : Call → Held → Held
call_on (handing key) v = let h = hand_records v.numbers key v.room in held (after_hand v.numbers h.answer) h.room
call_on settling v = let e = settle_records v.numbers v.room in held (after_settle v.numbers e.answer) e.room

-- the calls in order
unfoldable pub calls_on : List Call → Held → Held
calls_on [] v = v
calls_on (a ∷ later) v = calls_on later (call_on a v)

-- mission: "accepted": the keys of the hand-overs that were answered 0, in order
unfoldable pub accepted : List Call → Held → List flow.Key
accepted [] v = []
accepted (settling ∷ later) v = accepted later (call_on settling v)
accepted (handing key ∷ later) v =
    let rest = accepted later (call_on (handing key) v) in
    cond (eqb (hand_over_number (hand_records v.numbers key v.room).answer) 0) (key_bytes key ∷ rest) rest
