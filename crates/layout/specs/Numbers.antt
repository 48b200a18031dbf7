-- 01's table of numbers, its column "Returned and left": what an answer returns.
use Rattle.std.specs.Prelude.{ℕ}

-- the number and the values that 01 names with it, 0 where it names none: the block, the cell, and of an exchange the switch (1 A, 2 B)
-- and how many answers 12 it passed over
pub record Returned : Type 0 where
  pub number : ℕ
  pub block : ℕ
  pub cell : ℕ
  pub switch : ℕ
  pub twelves : ℕ

-- "number", and "number and block (0 for 1, 5 and where no image is read)"
abbrev pub only : ℕ → Returned
only number = record { number = number; block = 0; cell = 0; switch = 0; twelves = 0 }

-- "number and block"
abbrev pub with_block : ℕ → ℕ → Returned
with_block number block = record { number = number; block = block; cell = 0; switch = 0; twelves = 0 }

-- "number and cell"
abbrev pub with_cell : ℕ → ℕ → Returned
with_cell number cell = record { number = number; block = 0; cell = cell; switch = 0; twelves = 0 }

-- 01 'A session', Exchange: "those of 12 are counted in the answer"
abbrev pub with_twelves : ℕ → ℕ → Returned
with_twelves number twelves = record { number = number; block = 0; cell = 0; switch = 0; twelves = twelves }

-- 01 'A session', Exchange: "A 13 or 14 ends it and names the switch and the cell"; 02 l takes out 13
abbrev pub with_switch : ℕ → ℕ → ℕ → ℕ → Returned
with_switch number switch cell twelves = record { number = number; block = 0; cell = cell; switch = switch; twelves = twelves }
