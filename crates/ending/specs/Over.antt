-- How the settlings of an exchange ended, and whether it is over: 01 'A session', "Exchange of A and B".
use Rattle.std.specs.Prelude.{Bool, true, ◌&&◌, ℕ, eqb, Result, Ok, Err, ⊤}
use Rattle.peeling.specs.Peel.{Stop}
use Rattle.ending.specs.declared.Switch.{Switch}
use Rattle.ending.specs.declared.Switch.TheVariants.{A, B}
use Rattle.ending.specs.declared.Stopped.{Stopped}

-- how settlings ended: all went through, or a 14 with the switch and the cell
abbrev pub Ending : Type 0
Ending = Result ⊤ Stopped

abbrev pub stopped : Switch → ℕ → Stopped
stopped switch cell = record { switch = switch; cell = cell }

-- 01 'A session', Exchange: "A 13 or 14 ends it and names the switch and the cell"; 02 l takes out 13
abbrev pub ending_of : Switch → Stop → Ending
ending_of switch (Ok n) = Ok tt
ending_of switch (Err d) = Err (stopped switch d.cell)

abbrev pub ending_a : Stop → Ending
ending_a = ending_of A

abbrev pub ending_b : Stop → Ending
ending_b = ending_of B

-- the number of a switch
abbrev pub switch_number : Switch → ℕ
switch_number A = 1
switch_number B = 2

-- a 14 ends it, and a round in which neither list grew: so many flows were listed before it, and so many are after it
unfoldable pub is_over : ℕ → ℕ → ℕ → ℕ → Ending → Bool
is_over a b a' b' (Ok done) = eqb a' a && eqb b' b
is_over a b a' b' (Err d) = true
