-- The lines of a session as it stands: one law for each way that the call goes.
use mathlib.Core.Path.{◌≡◌, sym, ap, ◌∙◌}
use mathlib.Core.Bool.{true, false}
use mathlib.Core.List.{List}
use Prim.Native.Nat.{ℕ}
use native.Mathlib.Omega.{arith}
use borrow.Author.Tests.{eq-eqb, ne_eqb}
use lib.ListN.{length}
use lib.Seq.{sets}
use Rattle.std.specs.Prelude.{Result, Ok, Err}
use Rattle.layout.specs.Sizes.{in_range, ipv4_layout}
use Rattle.room.specs.declared.Session.{Session}
use Rattle.room.specs.Memory.{Memory}
use Rattle.summary.specs.declared.Report.{Report}
use Rattle.session.specs.declared.SessionError.{SessionError}
use Rattle.summary.specs.declared.Report.{Report}
use Rattle.session.specs.Errors.{session_number}
use Rattle.session.specs.Calls.{report_on}
use Rattle.lines.specs.Text.{Put}
use Rattle.printing.specs.Print.{most_written, room_lines}
use Rattle.printing.proofs.Settled.{Listed, told-listed}
use Rattle.elderflute.specs.Numbers.{session_of}
use Rattle.elderflute.specs.Sessions.{Printing, printing, lines_leave, lines_of, lines_call}

-- ---- by what the report answers
refused-leaves : {x : SessionError} {n : ℕ} (a : Result Report SessionError) (text lines : List ℕ) (written : ℕ) → a ≡ Err x → n ≡ session_number x
    → printing n lines written ≡ lines_leave a text lines written
refused-leaves a text lines written h e = rw (h, e)

told-leaves : {t : Report} (a : Result Report SessionError) (text lines : List ℕ) (written : ℕ) {lines' : List ℕ} {n : ℕ} → a ≡ Ok t
    → n ≡ length text → lines' ≡ sets lines 0 text → printing 0 lines' n ≡ lines_leave a text lines written
told-leaves a text lines written h e f = rw (h, e, f)

-- a session that is reported on has cells and records enough for its lines
pub lines_fit : (s : Session) (m : Memory) {t : Report} (a : Result Report SessionError) → a ≡ report_on ipv4_layout s m → a ≡ Ok t → Listed s.listed m
lines_fit s m a e h = told-listed s m (sym e ∙ h)

-- ---- the call
module _ (s : Session) (lines : List ℕ) (written : ℕ) (m : Memory) where
  pub lines-sizes : in_range s.sizes ≡ false → printing 8 lines written ≡ lines_of s lines written m
  unfolding lines_of
  lines-sizes h = rw h

  pub lines-room : in_range s.sizes ≡ true → (length lines ≡ most_written → ⊥) → printing 16 lines written ≡ lines_of s lines written m
  unfolding lines_of
  lines-room h f = rw (h, ne_eqb (length lines) most_written f)

  abbrev text : List ℕ
  text = room_lines s.slot s.salt s.listed m

  module _ (h : in_range s.sizes ≡ true) (f : length lines ≡ most_written) (a : Result Report SessionError) (e : a ≡ report_on ipv4_layout s m) where
    tested-all : lines_leave (report_on ipv4_layout s m) text lines written ≡ lines_of s lines written m
    unfolding lines_of
    tested-all = rw (h, eq-eqb (length lines) most_written f)

    leaves : lines_leave a text lines written ≡ lines_of s lines written m
    leaves = ap (λ x. lines_leave x text lines written) e ∙ tested-all

    pub lines-refused : {x : SessionError} {n : ℕ} → a ≡ Err x → n ≡ session_number x → printing n lines written ≡ lines_of s lines written m
    lines-refused x q = refused-leaves a text lines written x q ∙ leaves

    pub lines-done : {lines' : List ℕ} {n : ℕ} {t : Report} → a ≡ Ok t → Put lines lines' 0 n text
        → printing 0 lines' n ≡ lines_of s lines written m
    lines-done t p = told-leaves a text lines written t (omega (arith, p.place)) p.bytes ∙ leaves

-- of the session that the numbers are
pub lines-told : (numbers : List ℕ) (listed : ℕ) (lines : List ℕ) (written : ℕ) (m : Memory) {s : Session} {p : Printing} → s ≡ session_of numbers listed
    → p ≡ lines_of s lines written m → p ≡ lines_call numbers listed lines written m
lines-told numbers listed lines written m e p = p ∙ ap (λ x. lines_of x lines written m) e
