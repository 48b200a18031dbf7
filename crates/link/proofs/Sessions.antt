-- Settling and hand-over on the lists of a session that the test of 8 lets pass.
use mathlib.Core.Path.{◌≡◌}
use mathlib.Core.Bool.{Bool, true}
use mathlib.Core.List.{List}
use Prim.Native.Nat.{ℕ, ◌+◌}
use lib.ListN.{length}
use Rattle.layout.specs.declared.Layout.{Layout}
use Rattle.layout.specs.declared.Sizes.{Sizes}
use Rattle.layout.specs.Sizes.{table_cells}
use Rattle.hash.specs.Places.{has_cell}
use Rattle.list.specs.Records.{Records, appended}
use Rattle.table.specs.Table.{Tab, taken_out}
use Rattle.peeling.specs.Peel.{listed_at}
use Rattle.settling.specs.Settle.{settle_of}
use Rattle.test8.specs.Test8.{is_session}
use Rattle.theory.specs.Encode.{Key}
use Rattle.theory.specs.Session.{settle}
use Rattle.theory.specs.HandOver.{hand_answer}
use Rattle.link.specs.View.{session_of}
use Rattle.link.specs.Held.{Lent}
use Rattle.link.specs.Answers.{SettlesAs}
use Rattle.link.proofs.Settle.{settles-as, settle-held, settle-clear, settled-proper}
use Rattle.link.proofs.Hand.{handed-proper, handed-lent, handed-clear}
use Rattle.link.proofs.Test8.{session-proper, proper-session}

module _ (l : Layout) (z : Sizes) (salt n : ℕ) (t : Tab) (packets : List ℕ) (rs : Records) (seen : List ℕ) (lent : Lent l z t packets rs)
    (passes : is_session l z salt n t rs ≡ true) where
  -- Theorem: on every session that the test of 8 lets pass, settling by the marks ends as settling by looking through all cells,
  -- with the same list in order and the same cells, and leaves the marks and per-cell numbers that these give
  pub session-settles : SettlesAs l z salt (settle_of l z salt n t packets rs seen)
      (settle (table_cells l z) (has_cell l z salt) (session_of l z n t packets rs))
  session-settles = settles-as l z salt n t packets rs seen lent (session-proper l z salt n t packets rs lent passes).0

  pub session-lent : let e = settle_of l z salt n t packets rs seen in Lent l z e.table e.packets e.list
  session-lent = (settle-held l z salt n t packets rs seen lent (session-proper l z salt n t packets rs lent passes).0).lent

  -- Theorem: and what it leaves passes the test again
  pub session-again : let e = settle_of l z salt n t packets rs seen in is_session l z salt (listed_at e.answer) e.table e.list ≡ true
  session-again =
      let p = session-proper l z salt n t packets rs lent passes in
      let e = settle_of l z salt n t packets rs seen in
      proper-session l z salt (listed_at e.answer) e.table e.packets e.list session-lent
      (settled-proper l z salt n t packets rs seen lent p.0) (settle-clear l z salt n t packets rs seen lent p.0 p.1)

-- Theorem: a hand-over that is answered with 0 leaves a session that passes the test
pub handed-again : (l : Layout) (z : Sizes) (salt n : ℕ) (t : Tab) (packets : List ℕ) (rs : Records) (lent : Lent l z t packets rs)
    (passed : is_session l z salt n t rs ≡ true) (passes : Key → Bool) (x : Key) (e : length x ≡ l.key)
    → hand_answer (record { size = table_cells l z; has = has_cell l z salt; passes = passes }) x (session_of l z n t packets rs) ≡ 0
    → is_session l z salt (n + 1) (taken_out l z salt x n t) (appended l n x 2 rs) ≡ true
handed-again l z salt n t packets rs lent passed passes x e taken =
    let p = session-proper l z salt n t packets rs lent passed in
    proper-session l z salt (n + 1) (taken_out l z salt x n t) packets (appended l n x 2 rs)
    (handed-lent l z salt n t packets rs lent p.0 passes x e taken) (handed-proper l z salt n t packets rs lent p.0 passes x e taken)
    (handed-clear l z salt n t packets rs lent p.0 passes x e taken p.1)
