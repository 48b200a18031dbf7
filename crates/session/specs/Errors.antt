-- 01's numbers of the refusals of a call on a session.
use Rattle.std.specs.Prelude.{ℕ}
use Rattle.handing.specs.Hand.{error_number}
use Rattle.session.specs.declared.SessionError.{SessionError}
use Rattle.session.specs.declared.SessionError.TheVariants as session
use Rattle.session.specs.declared.HandOverError.{HandOverError}
use Rattle.session.specs.declared.HandOverError.TheVariants as over
use Rattle.session.specs.declared.SettleError.{SettleError}
use Rattle.session.specs.declared.SettleError.TheVariants as settling

abbrev pub session_number : SessionError → ℕ
session_number session.NotSession = 8
session_number session.BadRoom = 16

abbrev pub hand_over_error_number : HandOverError → ℕ
hand_over_error_number (over.Session e) = session_number e
hand_over_error_number (over.Hand e) = error_number e

abbrev pub settle_error_number : SettleError → ℕ
settle_error_number (settling.Session e) = session_number e
settle_error_number (settling.Damaged d) = 14
