-- A session that the test of 8 lets pass, but for the sizes.
use Rattle.std.specs.Prelude.{◌≡◌, true, List, [], ◌∷◌, ℕ, ◌*◌, ◌≤◌, length}
use Rattle.theory.specs.Encode.{Distinct, Placement}
use Rattle.theory.specs.Session.{Record, keys_of}
use Rattle.theory.specs.Fits.{Fits}
use Rattle.theory.specs.Notes.{Noted, scan}

-- no known count is 0
unfoldable pub CountsPositive : List Record → Type 0
CountsPositive [] = Unit {0}
CountsPositive (r ∷ rs) = (r.known ≡ true → 1 ≤ r.count) × CountsPositive rs

-- 01 'A session', refused with 8: "over 2 N flows are listed, listed keys repeat, a known count is 0, handed exceeds N,
-- peeled plus cells with FlowCount above 0 exceeds N, or any mark or per-cell number differs from what cells and list give"
pub record Proper (n : ℕ) (has : Placement) (t : Noted) : Type 0 where
  pub room : length t.session.list ≤ 2 * n
  pub apart : Distinct (keys_of t.session.list)
  pub positive : CountsPositive t.session.list
  pub fits : Fits n t.session
  pub right : t.notes ≡ scan has t.session
