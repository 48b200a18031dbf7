-- Each call of 01 on a session that passes the test is the theory's call on what is seen of it, and leaves a session that passes.
use mathlib.Core.Path.{◌≡◌, refl, sym, ap, ap₂, subst, ◌∙◌}
use mathlib.Core.Bool.{true, false}
use mathlib.Core.List.{List, [], ◌∷◌}
use Prim.Native.Nat.{ℕ, ◌+◌, ◌*◌}
use native.Mathlib.Omega.{arith}
use lib.ListN.{length}
use Rattle.std.specs.Prelude.{Result, Ok, Err}
use Rattle.laws.proofs.Upto.{length-list}
use Rattle.layout.specs.declared.Layout.{Layout}
use Rattle.layout.specs.declared.Sizes.{Sizes}
use Rattle.layout.specs.Sizes.{table_cells}
use Rattle.layout.proofs.Ranges.{range-test}
use Rattle.peeling.specs.Peel.{Stop, listed_at}
use Rattle.room.specs.declared.Session.{Session}
use Rattle.room.specs.Memory.{Memory, memory}
use Rattle.room.proofs.Laws.{rooms-asked}
use Rattle.session.proofs.Answers.{Passes}
use Rattle.session.proofs.Laws.{hand-over-passes, settle-passes, same_number}
use Rattle.settling.specs.Settle as settling
use Rattle.handing.specs.declared.HandError.{HandError}
use Rattle.handing.specs.Hand as handing
use Rattle.handing.specs.Hand.{taken_by}
use Rattle.session.specs.Calls.{index_of, hand_answer, hand_over, hand_over_number, Settling, settling_to, settle_leaves, settle_of, settle_number, settle_answer}
use Rattle.theory.specs.Encode.{Key}
use Rattle.theory.specs.Session.{listed, handed_of, has_empty_cell, stop_number}
use Rattle.theory.specs.HandOver as theory
use Rattle.theory.proofs.HandOver.{hand-edge}
use Rattle.link.specs.Answers.{stop_of}
use Rattle.link.specs.View.{record_at}
use Rattle.link.proofs.Again.{session-still}
use Rattle.link.proofs.Lists.{listed-length}
use Rattle.link.proofs.Test8.{session-proper}
use Rattle.demands.specs.Calls.{Live, live, with_listed, after_hand, after_settle, call_on, calls_on, KeysFit, viewed, switch_at, Passing}
use Rattle.demands.proofs.Lists.{Shows, settle-shows, settle-stops, hand-shows, hand-number}

-- what a call leaves: the theory's session is seen in it, it passes the test, and the switch is the same
pub record Follows (l : Layout) (v : Live) (s : Rattle.theory.specs.Session.Session) (u : Live) : Type 0 where
  pub seen_as : viewed l u ≡ s
  pub passing : Passing l u
  pub same_switch : switch_at l u ≡ switch_at l v

module _ (l : Layout) (v : Live) (p : Passing l v) where
  abbrev s : Session
  s = v.numbers

  abbrev m : Memory
  m = v.room

  abbrev z : Sizes
  z = s.sizes

  -- nothing is refused with 8 or 16
  pub tests-pass : Passes l s m
  tests-pass = record {
    sizes = range-test z p.lent.table.ranged;
    room = rooms-asked l z p.lent.table.lays p.lent.table.ranged m
        (record { filter-fits = p.filter-fits; packets-fit = p.lent.packets-fit; table = p.lent.table; room = p.lent.room });
    rest = p.passes;
  }

  -- the keys that it lists have the layout's length
  pub viewed-sized : (k : Key) → listed (viewed l v) k ≡ true → length k ≡ l.key
  viewed-sized =
      let proper = (session-proper l z s.salt s.listed m.table m.packets m.list p.lent p.passes).0 in
      listed-length l (2 * table_cells l z) s.listed m.list p.lent.room
      (omega (arith, proper.room, length-list s.listed (record_at l m.list)))

  -- lists that show a session are followed by those numbers and that room
  followed : {n : ℕ} {t : Rattle.table.specs.Table.Tab} {packets : List ℕ} {rs : Rattle.list.specs.Records.Records}
      {q : Rattle.theory.specs.Session.Session} → Shows l z s.salt n t packets rs q
      → Follows l v q (live (with_listed s n) (memory m.filter t packets rs))
  followed h = record {
    seen_as = h.seen_as;
    passing = record { lent = h.lent; filter-fits = p.filter-fits; passes = h.passes };
    same_switch = refl;
  }

  -- ---- settling
  abbrev settled : settling.Settled
  settled = settling.settle_of l z s.salt s.listed m.table m.packets m.list (index_of l s m)

  listed-after : (a : Stop) → after_settle s (settle_answer a) ≡ with_listed s (listed_at a)
  listed-after (Ok n) = refl
  listed-after (Err d) = refl

  settle-live : call_on l theory.settling v
      ≡ live (with_listed s (listed_at settled.answer)) (memory m.filter settled.table settled.packets settled.list)
  unfolding call_on
  settle-live = rw (settle-passes l s m tests-pass) (ap (λ n. live n (memory m.filter settled.table settled.packets settled.list)) (listed-after settled.answer))

  -- Theorem: settling is the theory's, which looks through all cells at each step
  pub settle-follows : Follows l v (theory.settle_at (switch_at l v) (viewed l v)).state (call_on l theory.settling v)
  settle-follows = subst (Follows l v (theory.settle_at (switch_at l v) (viewed l v)).state) (sym settle-live)
      (followed (settle-shows l z s.salt m.filter s.listed m.table m.packets m.list p.lent p.passes (index_of l s m)))

  stop-number : (a : Stop) → settle_number (settle_answer a) ≡ stop_number (stop_of a)
  stop-number (Ok n) = refl
  stop-number (Err d) = refl

  pub settle-number : settle_number (settle_of l s m).answer ≡ stop_number (theory.settle_at (switch_at l v) (viewed l v)).stop
  settle-number = rw (settle-passes l s m tests-pass) (stop-number settled.answer
      ∙ ap stop_number (settle-stops l z s.salt m.filter s.listed m.table m.packets m.list p.lent p.passes (index_of l s m)))

  -- ---- hand-over
  module _ (x : Key) (fits : length x ≡ l.key) where
    abbrev handed-on : handing.Handing
    handed-on = handing.hand_of l z s.salt s.listed x m.filter m.table m.list (index_of l s m)

    -- 01's number is the theory's
    pub hand-over-number : hand_over_number (hand_over l s x m).answer ≡ theory.hand_answer (switch_at l v) x (viewed l v)
    hand-over-number = rw (hand-over-passes l s m tests-pass x) (same_number s.listed handed-on.answer
        ∙ hand-number l z s.salt m.filter s.listed m.table m.packets m.list p.lent p.passes (index_of l s m) x fits)

    -- Theorem: 01 'Both sides of each edge': "Hand-over N succeeds, N + 1 is 12", of a key that 9, 10 and 11 let pass
    pub hand-over-edge : let w = switch_at l v in let u = viewed l v in
        w.passes x ≡ true → listed u x ≡ false → has_empty_cell w.size w.has u.cells x ≡ false
        → (length (handed_of u.list) + 1 ≡ w.size → hand_over_number (hand_over l s x m).answer ≡ 0)
        × (length (handed_of u.list) ≡ w.size → hand_over_number (hand_over l s x m).answer ≡ 12)
    hand-over-edge a b c =
        let e = hand-edge (switch_at l v) x (viewed l v) a b c in
        (λ q. hand-over-number ∙ e.0 q, λ q. hand-over-number ∙ e.1 q)

    same_numbers : {n : ℕ} → n ≡ s.listed → s ≡ with_listed s n
    same_numbers e = ap (with_listed s) (sym e)

    listed_more : (a : Result Unit HandError) → after_hand s (hand_answer s.listed a) ≡ with_listed s (s.listed + taken_by a)
    listed_more (Ok x) = refl
    listed_more (Err e) = same_numbers (omega arith)

    hand-live : call_on l (theory.hand x) v
        ≡ live (with_listed s (s.listed + taken_by handed-on.answer)) (memory m.filter handed-on.table m.packets handed-on.list)
    unfolding call_on
    hand-live = rw (hand-over-passes l s m tests-pass x) (ap (λ n. live n (memory m.filter handed-on.table m.packets handed-on.list)) (listed_more handed-on.answer))

    -- Theorem: a hand-over is the theory's
    pub hand-follows : Follows l v (theory.hand_over (switch_at l v) x (viewed l v)) (call_on l (theory.hand x) v)
    hand-follows = subst (Follows l v (theory.hand_over (switch_at l v) x (viewed l v))) (sym hand-live)
        (followed (hand-shows l z s.salt m.filter s.listed m.table m.packets m.list p.lent p.passes (index_of l s m) x fits))

-- ---- settling again
module _ (l : Layout) (v : Live) (p : Passing l v) where
  abbrev ended : settling.Settled
  ended = settled l v p

  -- what a settling leaves
  abbrev left : Live
  left = live (with_listed v.numbers (listed_at ended.answer)) (memory v.room.filter ended.table ended.packets ended.list)

  left-passes : Passes l left.numbers left.room
  left-passes = tests-pass l left (subst (Passing l) (settle-live l v p) (settle-follows l v p).passing)

  -- Theorem: settling what a settling left answers the same, 14 with its cell too, and changes no lent memory; on any session that passes the test
  pub settle-again : let u = call_on l theory.settling v in settle_of l u.numbers u.room ≡ settling_to (settle_of l v.numbers v.room).answer u.room
  settle-again =
      let s = v.numbers in
      let m = v.room in
      subst (λ (u : Live). settle_of l u.numbers u.room ≡ settling_to (settle_of l s m).answer u.room) (sym (settle-live l v p))
      (settle-passes l left.numbers left.room left-passes
      ∙ ap (settle_leaves left.room)
      (session-still l s.sizes s.salt s.listed m.table m.packets m.list (index_of l s m) (index_of l left.numbers left.room) p.lent p.passes)
      ∙ ap (λ (e : Settling). settling_to e.answer left.room) (sym (settle-passes l s m (tests-pass l v p))))

-- ---- calls in order
follows-one : (l : Layout) (a : theory.Call) (later : List theory.Call) (v u t : Live) → Follows l v (theory.call (switch_at l v) a (viewed l v)) u
    → Follows l u (theory.calls (switch_at l u) later (viewed l u)) t → Follows l v (theory.calls (switch_at l v) (a ∷ later) (viewed l v)) t
unfolding theory.calls
follows-one l a later v u t f g = record {
  seen_as = g.seen_as ∙ ap₂ (λ w q. theory.calls w later q) f.same_switch f.seen_as;
  passing = g.passing;
  same_switch = g.same_switch ∙ f.same_switch;
}

-- Theorem: on a session that passes the test, any calls are the theory's, and leave a session that passes it
pub calls-follow : (l : Layout) (later : List theory.Call) → KeysFit l later → (v : Live) → Passing l v
    → Follows l v (theory.calls (switch_at l v) later (viewed l v)) (calls_on l later v)
unfolding KeysFit calls_on theory.calls theory.call
calls-follow l [] fits v p = record { seen_as = refl; passing = p; same_switch = refl }
calls-follow l (theory.hand x ∷ later) fits v p =
    let u = call_on l (theory.hand x) v in
    let f = hand-follows l v p x fits.0 in
    follows-one l (theory.hand x) later v u (calls_on l later u) f (calls-follow l later fits.1 u f.passing)
calls-follow l (theory.settling ∷ later) fits v p =
    let u = call_on l theory.settling v in
    let f = settle-follows l v p in
    follows-one l theory.settling later v u (calls_on l later u) f (calls-follow l later fits u f.passing)
