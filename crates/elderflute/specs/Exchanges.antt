-- The exchange of two sessions: 01's number, how many flows each then lists, what else is told, and the lent room.
use Rattle.std.specs.Prelude.{List, [], ◌∷◌, ℕ, Ok, Err}
use Rattle.layout.specs.Sizes.{ipv4_layout}
use Rattle.layout.specs.Numbers.{Returned}
use Rattle.room.specs.Memory.{Memory}
use Rattle.exchange.specs.declared.ExchangeError.TheVariants.{NotSession, BadRoom, OtherSlot, Damaged}
use Rattle.exchange.specs.Exchange.{Exchanged, exchange_of, exchange_returns, exchange_number}
use Rattle.elderflute.specs.Numbers.{session_of}

pub record ExchangeLeft : Type 0 where
  pub number : ℕ
  pub listed-a : ℕ
  pub listed_b : ℕ
  pub told : List ℕ

abbrev pub exchange_left : ℕ → ℕ → ℕ → List ℕ → ExchangeLeft
exchange_left number a b told = record { number = number; listed-a = a; listed_b = b; told = told }

pub record Exchanging : Type 0 where
  pub left : ExchangeLeft
  pub room : Memory

abbrev pub exchanging : ExchangeLeft → Memory → Exchanging
exchanging left room = record { left = left; room = room }

-- what is told beside: the answers 12, the switch that stopped it (1 A, 2 B, 0 none), and its cell
abbrev pub told_of : ℕ → ℕ → ℕ → List ℕ
told_of twelves switch cell = twelves ∷ switch ∷ cell ∷ []

-- what 01's number goes with
abbrev pub values_of : Returned → List ℕ
values_of r = told_of r.twelves r.switch r.cell

-- an exchange that began: how many flows each then lists, and all that it returns
abbrev pub began : Exchanged → ℕ → ℕ → ExchangeLeft
began x a b = exchange_left (exchange_returns x).number a b (values_of (exchange_returns x))

-- 8, 15 and 16 keep all numbers; 14 names a switch and a cell, and the earlier steps stand
abbrev pub exchange_leaves : Exchanged → ℕ → ℕ → List ℕ → ExchangeLeft
exchange_leaves (Ok lists) x y told = began (Ok lists) lists.a lists.b
exchange_leaves (Err (Damaged s c lists)) x y told = began (Err (Damaged s c lists)) lists.a lists.b
exchange_leaves (Err NotSession) x y told = exchange_left (exchange_number (Err NotSession)) x y told
exchange_leaves (Err BadRoom) x y told = exchange_left (exchange_number (Err BadRoom)) x y told
exchange_leaves (Err OtherSlot) x y told = exchange_left (exchange_number (Err OtherSlot)) x y told

unfoldable pub exchange_call : List ℕ → ℕ → List ℕ → ℕ → List ℕ → Memory → Exchanging
exchange_call a listed-a b listed_b told m =
    let x = exchange_of ipv4_layout (session_of a listed-a) (session_of b listed_b) m in
    exchanging (exchange_leaves x.answer listed-a listed_b told) x.room
