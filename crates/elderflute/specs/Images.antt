-- The calls that take an image: read and open.
use Rattle.std.specs.Prelude.{List, ℕ, Result, Ok, Err}
use Rattle.layout.specs.Sizes.{ipv4_layout, Ranged}
use Rattle.reading.specs.declared.ReadError.{ReadError}
use Rattle.reading.specs.declared.Image.{Image}
use Rattle.reading.specs.Read.{read_of, read_number, read_block}
use Rattle.opening.specs.declared.OpenError.{OpenError}
use Rattle.room.specs.declared.Session.{Session}
use Rattle.opening.specs.Open.{open_of, open_number, open_block}
use Rattle.room.specs.Memory.{Memory}
use Rattle.elderflute.specs.Numbers.{numbers_of}

-- ---- reading: 01's number and block, and what then stands in the six numbers
pub record ReadLeft : Type 0 where
  pub number : ℕ
  pub numbers : List ℕ
  pub block : ℕ

abbrev pub read_left : ℕ → List ℕ → ℕ → ReadLeft
read_left number numbers block = record { number = number; numbers = numbers; block = block }

-- the six numbers are the image's where one is read, and stay else
abbrev pub numbers_read : Result Image ReadError → ℕ → List ℕ → List ℕ
numbers_read (Ok i) slot numbers = numbers_of i.sizes i.salt slot
numbers_read (Err e) slot numbers = numbers

abbrev pub read_leaves : Result Image ReadError → ℕ → List ℕ → ReadLeft
read_leaves a slot numbers = read_left (read_number a) (numbers_read a slot numbers) (read_block a)

unfoldable pub read_call : List ℕ → ℕ → List ℕ → ReadLeft
read_call image slot numbers = read_leaves (read_of ipv4_layout image slot) slot numbers

-- the sizes of what was read are in range
abbrev pub ReadSized : Result Image ReadError → Type 0
ReadSized (Ok i) = Ranged i.sizes
ReadSized (Err e) = Unit

-- ---- opening: the same, how many flows are then listed, and the lent room
pub record OpenLeft : Type 0 where
  pub number : ℕ
  pub numbers : List ℕ
  pub listed : ℕ
  pub block : ℕ

abbrev pub open_left : ℕ → List ℕ → ℕ → ℕ → OpenLeft
open_left number numbers listed block = record { number = number; numbers = numbers; listed = listed; block = block }

pub record Opening : Type 0 where
  pub left : OpenLeft
  pub room : Memory

abbrev pub opening : OpenLeft → Memory → Opening
opening left room = record { left = left; room = room }

abbrev pub numbers_opened : Result Session OpenError → List ℕ → List ℕ
numbers_opened (Ok s) numbers = numbers_of s.sizes s.salt s.slot
numbers_opened (Err e) numbers = numbers

abbrev pub listed_opened : Result Session OpenError → ℕ → ℕ
listed_opened (Ok s) listed = s.listed
listed_opened (Err e) listed = listed

abbrev pub open_leaves : Result Session OpenError → List ℕ → ℕ → OpenLeft
open_leaves a numbers listed = open_left (open_number a) (numbers_opened a numbers) (listed_opened a listed) (open_block a)

unfoldable pub open_call : List ℕ → ℕ → List ℕ → ℕ → Memory → Opening
open_call image slot numbers listed m =
    let x = open_of ipv4_layout image slot m in opening (open_leaves x.answer numbers listed) x.room

-- the sizes of what was opened are in range
abbrev pub OpenSized : Result Session OpenError → Type 0
OpenSized (Ok s) = Ranged s.sizes
OpenSized (Err e) = Unit
