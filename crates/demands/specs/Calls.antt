-- The calls of 01 one after the other, each on the numbers and the lent room that the call before it left.
use Rattle.std.specs.Prelude.{◌≡◌, true, cond, List, [], ◌∷◌, ℕ, eqb, length, Result, Ok, Err}
use Rattle.layout.specs.declared.Layout.{Layout}
use Rattle.layout.specs.Sizes.{filter_bytes}
use Rattle.room.specs.declared.Session.{Session}
use Rattle.room.specs.Memory.{Memory}
use Rattle.test8.specs.Test8.{is_session}
use Rattle.session.specs.Calls.{hand_over, hand_over_number, settle_of}
use Rattle.session.specs.declared.HandOverError.{HandOverError}
use Rattle.session.specs.declared.SettleError.{SettleError}
use Rattle.session.specs.declared.SettleError.TheVariants as settled
use Rattle.theory.specs.Encode.{Key}
use Rattle.theory.specs.Session as theory
use Rattle.theory.specs.HandOver.{Switch, Call, hand, settling}
use Rattle.meaning.specs.View.{switch_of}
use Rattle.link.specs.View.{session_of}
use Rattle.link.specs.Held.{Lent}

-- a session as its holder has it: the numbers kept by value, and the lent room
pub record Live : Type 0 where
  pub numbers : Session
  pub room : Memory

abbrev pub live : Session → Memory → Live
live s m = record { numbers = s; room = m }

-- the numbers where n flows are listed
abbrev pub with_listed : Session → ℕ → Session
with_listed s n = record { sizes = s.sizes; salt = s.salt; slot = s.slot; listed = n }

-- a hand-over and a settling say how many flows are listed after them; a refusal says nothing of it
abbrev pub after_hand : Session → Result ℕ HandOverError → Session
after_hand s (Ok n) = with_listed s n
after_hand s (Err e) = s

abbrev pub after_settle : Session → Result ℕ SettleError → Session
after_settle s (Ok n) = with_listed s n
after_settle s (Err (settled.Damaged d)) = with_listed s d.listed
after_settle s (Err (settled.Session e)) = s

-- one call
unfoldable pub call_on : Layout → Call → Live → Live
call_on l (hand x) v = let h = hand_over l v.numbers x v.room in live (after_hand v.numbers h.answer) h.room
call_on l settling v = let e = settle_of l v.numbers v.room in live (after_settle v.numbers e.answer) e.room

-- the calls in order
unfoldable pub calls_on : Layout → List Call → Live → Live
calls_on l [] v = v
calls_on l (a ∷ later) v = calls_on l later (call_on l a v)

-- mission: "accepted": the keys of the hand-overs that were answered 0, in order
unfoldable pub accepted : Layout → List Call → Live → List Key
accepted l [] v = []
accepted l (settling ∷ later) v = accepted l later (call_on l settling v)
accepted l (hand x ∷ later) v =
    let rest = accepted l later (call_on l (hand x) v) in
    cond (eqb (hand_over_number (hand_over l v.numbers x v.room).answer) 0) (x ∷ rest) rest

-- every key that is handed over has the layout's length
unfoldable pub KeysFit : Layout → List Call → Type 0
KeysFit l [] = Unit {0}
KeysFit l (hand x ∷ later) = (length x ≡ l.key) × KeysFit l later
KeysFit l (settling ∷ later) = KeysFit l later

-- ---- what is there, as the theory sees it
-- the cells and the found flows
abbrev pub viewed : Layout → Live → theory.Session
viewed l v = session_of l v.numbers.sizes v.numbers.listed v.room.table v.room.packets v.room.list

-- the received sizes, salt and filter
abbrev pub switch_at : Layout → Live → Switch
switch_at l v = switch_of l v.numbers.sizes v.numbers.salt v.room.filter

-- the calls find nothing to refuse with 8 or 16
pub record Passing (l : Layout) (v : Live) : Type 0 where
  pub lent : Lent l v.numbers.sizes v.room.table v.room.packets v.room.list
  pub filter-fits : length v.room.filter ≡ filter_bytes v.numbers.sizes
  pub passes : is_session l v.numbers.sizes v.numbers.salt v.numbers.listed v.room.table v.room.list ≡ true
