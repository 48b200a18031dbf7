-- Settling the lists that a settling left changes none of them, and answers the same.
use mathlib.Core.Path.{◌≡◌, refl, sym, ap, ap₂, subst, ◌∙◌}
use mathlib.Core.Bool.{true}
use mathlib.Core.List.{List}
use Prim.Native.Nat.{ℕ, zero, suc, ◌+◌, ◌-◌, ◌*◌, ◌≤◌}
use native.Mathlib.Omega.{arith}
use lib.ListN.{length}
use Rattle.layout.specs.declared.Layout.{Layout}
use Rattle.layout.specs.declared.Sizes.{Sizes}
use Rattle.layout.specs.Sizes.{table_cells}
use Rattle.hash.specs.Places.{has_cell}
use Rattle.list.specs.Records.{Records}
use Rattle.table.specs.Table.{Tab}
use Rattle.std.specs.Prelude.{Ok, Err}
use Rattle.peeling.specs.Peel.{Peeled, Stop, damage, ended, peel_taken, after_peel, peels_upto, peels_of, listed_at}
use Rattle.counting.specs.Book.{Book}
use Rattle.counting.specs.Count as counts
use Rattle.counting.specs.Count.{Counted, after_count, counts_upto, counts_of}
use Rattle.settling.specs.Settle.{settled, after_counts, then_counts, settle_of}
use Rattle.test8.specs.Test8.{is_session}
use Rattle.theory.specs.Session.{Session, unknowns_of, Step, quiet, damaged, next, peel_pure, settle}
use Rattle.theory.specs.Session as theory
use Rattle.theory.specs.Notes.{Notes, Noted, noted, map_step, peel_noted}
use Rattle.theory.specs.Proper.{Proper}
use Rattle.theory.proofs.Repeat.{step_of, quiet-only}
use Rattle.theory.proofs.Steps.{count-idle}
use Rattle.theory.proofs.Settle.{EndsAt, peeling-damaged, after-peeling, settle-ends}
use Rattle.theory.proofs.Noted.{peel-noted}
use Rattle.link.specs.View.{session_of, noted_of}
use Rattle.link.specs.Held.{Lent, Held, Sound, with_book}
use Rattle.link.specs.Answers.{peel_step, count_step, stop_of}
use Rattle.link.proofs.Peel.{Peeling, none-marked, broken, taken_out_lem, peeling, peel-is, well-room}
use Rattle.link.proofs.Count.{Counting, none-ready, miscounted, made-known, counting}
use Rattle.link.proofs.Counts.{step_is}
use Rattle.link.proofs.Settle.{proper-held, started, starts, unknowns-le}
use Rattle.link.proofs.Test8.{session-proper, proper-bounded}
use Rattle.link.proofs.Sessions.{session-settles, session-lent, session-again}

-- ---- a step that stops as the theory's does
-- how settling stops, where n flows are listed
abbrev stop_for : ℕ → theory.Stop → Stop
stop_for n theory.settled = Ok n
stop_for n (theory.damage c) = Err (damage n c)

abbrev stop_by : ℕ → Step Noted → Stop
stop_by n quiet = Ok n
stop_by n (damaged c) = Err (damage n c)
stop_by n (next s) = Ok n

stop-by : (n : ℕ) (s : theory.Stop) → stop_by n (step_of s) ≡ stop_for n s
stop-by n theory.settled = refl
stop-by n (theory.damage c) = refl

-- and so counting
abbrev count_for : theory.Stop → counts.Stop
count_for theory.settled = Ok tt
count_for (theory.damage c) = Err c

abbrev counts_by : Step Noted → counts.Stop
counts_by quiet = Ok tt
counts_by (damaged c) = Err c
counts_by (next s) = Ok tt

count_by : (s : theory.Stop) → counts_by (step_of s) ≡ count_for s
count_by theory.settled = refl
count_by (theory.damage c) = refl

-- a stop is no step
abbrev steps : Step Noted → ℕ
steps quiet = 0
steps (damaged c) = 0
steps (next s) = 1

no_step : {A : Type 0} (s : theory.Stop) (t : Noted) → next t ≡ step_of s → A
no_step theory.settled t e = let z : ◌≡◌ {A = ℕ} 1 0 = ap steps e in absurd (omega arith)
no_step (theory.damage c) t e = let z : ◌≡◌ {A = ℕ} 1 0 = ap steps e in absurd (omega arith)

map-stop : (h : Session → Noted) (s : theory.Stop) → map_step h (step_of s) ≡ step_of s
map-stop h theory.settled = refl
map-stop h (theory.damage c) = refl

peel-over : (l : Layout) (z : Sizes) (salt n : ℕ) (t : Tab) (packets : List ℕ) (rs : Records) (seen : List ℕ) (m : ℕ) (s : theory.Stop) {p : Peeled}
    → Peeling l z salt n t rs seen p → peel_step p.answer (noted_of l z (n + 1) p.table packets p.list) ≡ step_of s
    → after_peel (peels_upto m l z salt (n + 1)) n p.answer p.table p.list p.seen ≡ ended (stop_for n s) t rs seen
unfolding after_peel peel_taken
peel-over l z salt n t packets rs seen m s (none-marked a) e = ap (λ o. ended o t rs seen) (ap (stop_by n) e ∙ stop-by n s)
peel-over l z salt n t packets rs seen m s (broken a d) e = ap (λ o. ended o t rs seen) (ap (stop_by n) e ∙ stop-by n s)
peel-over l z salt n t packets rs seen m s (taken_out_lem a d) e = no_step s _ e

count-over : (l : Layout) (z : Sizes) (salt n : ℕ) (t : Tab) (b : Book) (rs : Records) (m : ℕ) (s : theory.Stop) {p : Counted}
    → Counting l z salt n t.flows b rs p
    → count_step p.answer (noted_of l z n (with_book t p.cells) p.cells.packets p.list) ≡ step_of s
    → after_count (counts_upto m l z salt n t.flows) p.answer p.cells p.list
    ≡ counts.ended (count_for s) b.packets b.unknowns b.positions rs
unfolding after_count
count-over l z salt n t b rs m s (none-ready a) e = ap (λ o. counts.ended o b.packets b.unknowns b.positions rs) (ap counts_by e ∙ count_by s)
count-over l z salt n t b rs m s (miscounted a d) e = ap (λ o. counts.ended o b.packets b.unknowns b.positions rs) (ap counts_by e ∙ count_by s)
count-over l z salt n t b rs m s (made-known a d) e = no_step s _ e

-- ---- lists on which the theory's settling ends at once
module _ (l : Layout) (z : Sizes) (salt n : ℕ) (t : Tab) (packets : List ℕ) (rs : Records) (seen : List ℕ) (lent : Lent l z t packets rs)
    (proper : Proper (table_cells l z) (has_cell l z salt) (noted_of l z n t packets rs)) where
  abbrev size : ℕ
  size = table_cells l z

  abbrev before : Session
  before = session_of l z n t packets rs

  abbrev held : Held l z n t packets rs
  held = proper-held l z salt n t packets rs lent proper

  peels-over : (s : theory.Stop) → peel_pure size (has_cell l z salt) before ≡ step_of s → peels_of l z salt n t rs seen ≡ ended (stop_for n s) t rs seen
  unfolding peels_of peels_upto
  peels-over s e =
      let has = has_cell l z salt in
      let is : noted_of l z n t packets rs ≡ noted has before = ap (λ (u : Notes). record { session = before; notes = u }) proper.right in
      peel-over l z salt n t packets rs seen (2 * size - n) s (peeling l z salt n t rs seen)
      (peel-is l z salt n t packets rs held (well-room l z salt n t packets rs (held, proper-bounded l z salt n t packets rs lent proper)) seen ∙ ap (peel_noted size has) is ∙ peel-noted size has before
      ∙ ap (map_step (noted has)) e ∙ map-stop (noted has) s)

  sound : Sound l z salt n t (started l z salt packets t rs seen) rs
  sound = record { held = held; is-ready = starts l z salt packets t rs seen n held; right = proper.right; apart = proper.apart }

  upto-over : (m : ℕ) → length (unknowns_of before.list) ≤ m → (s : theory.Stop) → theory.count_step size (has_cell l z salt) before ≡ step_of s
      → counts_upto m l z salt n t.flows (started l z salt packets t rs seen) rs ≡ counts.ended (count_for s) packets t.unknowns t.positions rs
  unfolding counts_upto
  upto-over zero b s e = ap (λ o. counts.ended (count_for o) packets t.unknowns t.positions rs)
      (quiet-only s (sym (count-idle size (has_cell l z salt) before (omega arith)) ∙ e))
  upto-over (suc m) b s e =
      let has = has_cell l z salt in
      count-over l z salt n t (started l z salt packets t rs seen) rs m s (counting l z salt n t.flows (started l z salt packets t rs seen) rs)
      (step_is l z salt n t (started l z salt packets t rs seen) rs sound ∙ ap (map_step (noted has)) e ∙ map-stop (noted has) s)

  then-over : (s : theory.Stop) → theory.count_step size (has_cell l z salt) before ≡ step_of s
      → then_counts l z salt packets t rs seen (Ok n) ≡ settled (stop_for n s) t packets rs seen
  unfolding then_counts counts_of after_counts
  then-over theory.settled e = rw (upto-over n (unknowns-le l n rs) theory.settled e)
  then-over (theory.damage c) e = rw (upto-over n (unknowns-le l n rs) (theory.damage c) e)

  settle-over : (s : theory.Stop) → EndsAt size (has_cell l z salt) before s → settle_of l z salt n t packets rs seen ≡ settled (stop_for n s) t packets rs seen
  unfolding settle_of then_counts
  settle-over s (peeling-damaged c e) = rw (peels-over (theory.damage c) e)
  settle-over s (after-peeling _ p e) = rw (peels-over theory.settled p) (then-over s e)

stop-named : (a : Stop) → stop_for (listed_at a) (stop_of a) ≡ a
stop-named (Ok n) = refl
stop-named (Err d) = refl

-- Theorem: on every session that the test of 8 lets pass, settling what a settling left changes nothing and answers the same, 14 with its cell too
pub session-still : (l : Layout) (z : Sizes) (salt n : ℕ) (t : Tab) (packets : List ℕ) (rs : Records) (seen index : List ℕ) → Lent l z t packets rs
    → is_session l z salt n t rs ≡ true → let e = settle_of l z salt n t packets rs seen in
    settle_of l z salt (listed_at e.answer) e.table e.packets e.list index ≡ settled e.answer e.table e.packets e.list index
session-still l z salt n t packets rs seen index lent passes =
    let e = settle_of l z salt n t packets rs seen in
    let m = listed_at e.answer in
    let has = has_cell l z salt in
    let before = session_of l z n t packets rs in
    let r = session-settles l z salt n t packets rs seen lent passes in
    let after = session-lent l z salt n t packets rs seen lent passes in
    let state : (settle (table_cells l z) has before).state ≡ session_of l z m e.table e.packets e.list
    = sym (ap₂ (λ c q. record { cells = c; list = q }) r.cells r.list) in
    let ends : EndsAt (table_cells l z) has (session_of l z m e.table e.packets e.list) (stop_of e.answer)
    = subst (λ s. EndsAt (table_cells l z) has s (stop_of e.answer)) state
    (subst (EndsAt (table_cells l z) has (settle (table_cells l z) has before).state) (sym r.answer) (settle-ends (table_cells l z) has before)) in
    let again = (session-proper l z salt m e.table e.packets e.list after (session-again l z salt n t packets rs seen lent passes)).0 in
    settle-over l z salt m e.table e.packets e.list index after again (stop_of e.answer) ends
    ∙ ap (λ a. settled a e.table e.packets e.list index) (stop-named e.answer)
