-- Settling's answer and the lines: how many flows can be listed, and which lines each answer prints.
use mathlib.Core.Path.{◌≡◌, refl, sym, ap, ◌∙◌}
use mathlib.Core.List.{List}
use Prim.Native.Nat.{ℕ, ◌*◌, ◌<◌, ◌≤◌}
use native.Mathlib.Omega.{arith}
use lib.ListN.{length}
use Rattle.std.specs.Prelude.{Result, Ok, Err}
use Rattle.layout.specs.declared.Layout.{Layout}
use Rattle.layout.specs.declared.Sizes.{Sizes}
use Rattle.layout.specs.Sizes.{Lays, ipv4_layout, table_cells}
use Rattle.layout.proofs.Ranges.{table-high, lays-ipv4}
use Rattle.list.specs.Records.{Records}
use Rattle.marks.specs.Marks.{Words}
use Rattle.table.specs.Table.{Tab}
use Rattle.peeling.specs.Peel.{Steady, peels_of, listed_at}
use Rattle.peeling.specs.declared.Damage.{Damage}
use Rattle.peeling.proofs.Loop.{ended-keeps}
use Rattle.counting.specs.Count.{counts_of}
use Rattle.settling.specs.Settle as settling
use Rattle.settling.specs.Settle.{stop_after, after_counts, then_counts}
use Rattle.room.specs.declared.Session.{Session}
use Rattle.room.specs.Memory.{Memory}
use Rattle.session.specs.declared.SettleError.{SettleError}
use Rattle.session.specs.Errors.{settle_error_number}
use Rattle.session.specs.declared.SessionError.TheVariants.{NotSession, BadRoom}
use Rattle.session.specs.declared.SettleError.TheVariants as settled
use Rattle.session.specs.Calls.{Settling, settling_to, settle_answer, settle_leaves, settle_of, settle_number, report_on, index_of}
use Rattle.summary.specs.declared.Report.{Report}
use Rattle.session.proofs.Answers.{Passes, rooms, listed-high, passes-steady}
use Rattle.session.proofs.Laws.{settle-passes, else-passes, told-passes}
use Rattle.lines.specs.Text.{refused_line}
use Rattle.printing.specs.Print.{room_lines, settled_lines, session_lines}

-- ---- peeling bounds the list, and counting adds nothing to it
after-listed : (n : ℕ) (a : Result Unit ℕ) → listed_at (stop_after n a) ≡ n
after-listed n (Ok x) = refl
after-listed n (Err c) = refl

counts-listed : (l : Layout) (z : Sizes) (salt : ℕ) (packets : List ℕ) (t : Tab) (rs : Records) (seen : List ℕ) (r : Result ℕ Damage)
    → listed_at (then_counts l z salt packets t rs seen r).answer ≡ listed_at r
unfolding then_counts after_counts
counts-listed l z salt packets t rs seen (Ok n) =
    after-listed n (counts_of l z salt n t.flows packets t.unknowns t.positions rs).answer
counts-listed l z salt packets t rs seen (Err d) = refl

settle-high : (l : Layout) (z : Sizes) (salt n : ℕ) (t : Tab) (packets : List ℕ) (rs : Records) (seen : List ℕ) → Steady l z salt n t rs seen
    → listed_at (settling.settle_of l z salt n t packets rs seen).answer ≤ 2 * table_cells l z
unfolding settling.settle_of
settle-high l z salt n t packets rs seen k =
    let p = peels_of l z salt n t rs seen in
    rw (counts-listed l z salt packets p.table p.list p.seen p.answer) (ended-keeps l z salt n t rs seen k refl).fits.listed

-- ---- a session that was settled passed the tests
module _ (l : Layout) (s : Session) (m : Memory) where
  abbrev end : settling.Settled
  end = settling.settle_of l s.sizes s.salt s.listed m.table m.packets m.list (index_of l s m)

  -- a refusal is not done
  not_done : {A : Type 0} (a : Result ℕ SettleError) {n : ℕ} → 0 < settle_number a → settle_of l s m ≡ settling_to a m → (settle_of l s m).answer ≡ Ok n → A
  not_done a h r e = absurd (omega (arith, ap settle_number (ap (λ (x : Settling). x.answer) (sym r) ∙ e)))

  done-passes : {n : ℕ} → (settle_of l s m).answer ≡ Ok n → Passes l s m
  unfolding settle_of
  done-passes e =
      else-passes l s m (settling_to (Err (settled.Session NotSession)) m) (settling_to (Err (settled.Session BadRoom)) m) (settle_leaves m end) refl
      (λ q. not_done (Err (settled.Session NotSession)) (omega arith) (sym q) e) (λ q. not_done (Err (settled.Session BadRoom)) (omega arith) (sym q) e)

  done-high : {n : ℕ} → Lays l → Words m.table.marks → (settle_of l s m).answer ≡ Ok n → n ≤ 2 * table_cells l s.sizes
  done-high {n} lays w e =
      let p = done-passes e in
      let f = ap (λ (x : Settling). x.answer) (settle-passes l s m p) in
      let h = settle-high l s.sizes s.salt s.listed m.table m.packets m.list (index_of l s m) (passes-steady l s m lays p w refl) in
      go end.answer (sym f ∙ e) h
    where
      go : (a : Result ℕ Damage) → settle_answer a ≡ Ok n → listed_at a ≤ 2 * table_cells l s.sizes → n ≤ 2 * table_cells l s.sizes
      go (Ok k) q h = let i : k ≡ n = cc in omega arith
      go (Err d) q h = absurd (omega (arith, ap settle_number q))

-- what a settled session of IPv4 keys has: cells and records enough for the lines
pub record Listed (n : ℕ) (m : Memory) : Type 0 where
  pub few : n ≤ 3072
  pub cells : length m.table.flows ≤ 1536
  pub keys : n * 13 ≤ length m.list.keys
  pub counts : n ≤ length m.list.counts
  pub flags : n ≤ length m.list.flags

room-listed : (s : Session) (m : Memory) {n : ℕ} → Passes ipv4_layout s m → n ≤ 2 * table_cells ipv4_layout s.sizes → Listed n m
room-listed s m p h =
    let r = rooms ipv4_layout s m lays-ipv4 p in
    let t = table-high ipv4_layout s.sizes lays-ipv4 r.table.ranged in
    record {
      few = omega arith;
      cells = omega (arith, r.table.flows-fit);
      keys = omega (arith, r.room.keys-fit);
      counts = omega (arith, r.room.counts-fit);
      flags = omega (arith, r.room.flags-fit);
    }

-- a session that is reported on has them too
pub told-listed : (s : Session) (m : Memory) {t : Report} → report_on ipv4_layout s m ≡ Ok t → Listed s.listed m
told-listed s m e =
    let p = told-passes ipv4_layout s m e in room-listed s m p (listed-high ipv4_layout s m lays-ipv4 p)

error-number : (x : SettleError) → settle_error_number x ≡ settle_number (Err x)
error-number (settled.Session x) = refl
error-number (settled.Damaged d) = refl

module _ (s : Session) (m : Memory) {e : Result ℕ SettleError} {m' : Memory} (q : settling_to e m' ≡ settle_of ipv4_layout s m) where
  pub session-listed : Words m.table.marks → {n : ℕ} → e ≡ Ok n → Listed n m
  session-listed w d =
      let f = ap (λ (x : Settling). x.answer) (sym q) ∙ d in
      room-listed s m (done-passes ipv4_layout s m f) (done-high ipv4_layout s m lays-ipv4 w f)

  lines_are : settled_lines s.slot s.salt m' e ≡ session_lines s m
  unfolding session_lines
  lines_are = ap (λ (x : Settling). settled_lines s.slot s.salt x.room x.answer) q

  pub session-done : {n : ℕ} → e ≡ Ok n → room_lines s.slot s.salt n m' ≡ session_lines s m
  unfolding settled_lines
  session-done d = rw d at lines_are

  pub session-refused : {x : SettleError} {n : ℕ} → e ≡ Err x → n ≡ settle_error_number x → refused_line n ≡ session_lines s m
  unfolding settled_lines
  session-refused {x} d i = ap refused_line (i ∙ error-number x) ∙ (rw d at lines_are)
