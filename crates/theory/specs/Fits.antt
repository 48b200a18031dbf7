-- The room a session has: what the test of 8 asks of the numbers of handed and of peeled flows.
use Rattle.std.specs.Prelude.{ℕ, ◌+◌, ◌≤◌, length}
use Rattle.theory.specs.Session.{Session, handed_of, peeled_of, open_cells}

-- 01 'A session', refused with 8: "handed exceeds N, peeled plus cells with FlowCount above 0 exceeds N"
pub record Fits (n : ℕ) (s : Session) : Type 0 where
  pub handed-room : length (handed_of s.list) ≤ n
  pub peeled-room : length (peeled_of s.list) + open_cells n s.cells ≤ n
