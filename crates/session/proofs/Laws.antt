-- What callers learn of the calls: what each does on a session that passes the tests, that an opened one does, and where all memory is kept.
use mathlib.Core.Path.{◌≡◌, refl, sym, ap, subst, ◌∙◌}
use mathlib.Core.List.{List}
use mathlib.Core.Logic.{◌⊎◌, inl, inr}
use Prim.Native.Nat.{ℕ, ◌<◌}
use native.Mathlib.Omega.{arith}
use Rattle.laws.proofs.Bools.{split}
use Rattle.layout.specs.declared.Layout.{Layout}
use Rattle.layout.specs.Sizes.{Lays, in_range}
use Rattle.layout.proofs.Ranges.{range-test}
use Rattle.reading.proofs.Accepts.{accepted}
use Rattle.peeling.specs.declared.Damage.{Damage}
use Rattle.std.specs.Prelude.{Result, Ok, Err}
use Rattle.room.specs.declared.Session.{Session}
use Rattle.room.specs.Memory.{Memory, memory, room_fits}
use Rattle.room.specs.Test.{tested}
use Rattle.room.proofs.Laws.{rooms-asked, tested-sizes, tested-room, tested-rest, tested-passed}
use Rattle.test8.specs.Test8.{is_session}
use Rattle.opening.specs.Open.{opened_memory, open_of}
use Rattle.opening.proofs.Answers.{opened-rooms, opened-session, open_done}
use Rattle.handing.specs.declared.HandError.{HandError}
use Rattle.handing.specs.Hand as handing
use Rattle.handing.proofs.Laws.{hand-kept}
use Rattle.settling.specs.Settle as settling
use Rattle.summary.specs.declared.Report.{Report}
use Rattle.session.specs.declared.SessionError.{SessionError}
use Rattle.session.specs.declared.SessionError.TheVariants.{NotSession, BadRoom}
use Rattle.session.specs.declared.HandOverError.TheVariants as over
use Rattle.session.specs.declared.SettleError.TheVariants as settled
use Rattle.session.specs.Calls.{index_of, test_of, told, Handing, handing_to, hand_answer, hand_leaves, hand_over, hand_over_number}
use Rattle.session.specs.Calls.{Settling, settling_to, settle_answer, settle_leaves, settle_of, settle_number, report_in, report_on, report_number}
use Rattle.session.proofs.Answers.{Passes, choose, hand-is, settle_is}

-- ---- a session that passes the tests
module _ (l : Layout) (s : Session) (m : Memory) (p : Passes l s m) where
  pub hand-over-passes : (key : List ℕ) → hand_over l s key m
      ≡ hand_leaves s m (handing.hand_of l s.sizes s.salt s.listed key m.filter m.table m.list (index_of l s m))
  unfolding hand_over
  hand-over-passes key = tested-passed l s m _ _ _ p.sizes p.room p.rest

  pub settle-passes : settle_of l s m
      ≡ settle_leaves m (settling.settle_of l s.sizes s.salt s.listed m.table m.packets m.list (index_of l s m))
  unfolding settle_of
  settle-passes = tested-passed l s m _ _ _ p.sizes p.room p.rest

  pub report-passes : report_on l s m ≡ Ok (report_in s.listed m)
  unfolding report_on
  report-passes = tested-passed l s m _ _ _ p.sizes p.room p.rest

-- ---- which sessions pass them
module _ (l : Layout) (s : Session) (m : Memory) where
  -- what is neither of the tests' two refusals is answered of a session that passes
  pub else-passes : {A : Type 0} (x y w : A) {r : A} → tested l s m x y w ≡ r → (x ≡ r → ⊥) → (y ≡ r → ⊥) → Passes l s m
  else-passes x y w e f g = elim (split (in_range s.sizes)) [
    | inr p ↦ absurd (f (sym (tested-sizes l s m _ _ _ p) ∙ e))
    | inl p ↦ elim (split (room_fits l s.sizes m)) [
      | inr q ↦ absurd (g (sym (tested-room l s m _ _ _ p q) ∙ e))
      | inl q ↦ elim (split (is_session l s.sizes s.salt s.listed m.table m.list)) [
        | inr o ↦ absurd (f (sym (tested-rest l s m _ _ _ p q o) ∙ e))
        | inl o ↦ record { sizes = p; room = q; rest = o }
      ]
    ]
  ]

  pub told-passes : {r : Report} → report_on l s m ≡ Ok r → Passes l s m
  unfolding report_on
  told-passes e =
      else-passes (Err NotSession) (Err BadRoom) (Ok (report_in s.listed m)) e
      (λ q. absurd (omega (arith, ap report_number q))) (λ q. absurd (omega (arith, ap report_number q)))

  -- what is told is the report of what stands
  pub told_is : {r : Report} → report_on l s m ≡ Ok r → report_in s.listed m ≡ r
  told_is {r} e = ap (said r) (sym (report-passes l s m (told-passes e)) ∙ e)
    where
      said : Report → Result Report SessionError → Report
      said d (Ok x) = x
      said d (Err e) = d

-- a session that was just opened passes them
pub open-passes : (l : Layout) (image : List ℕ) (slot : ℕ) (m : Memory) (s : Session) → Lays l → (open_of l image slot m).answer ≡ Ok s
    → Passes l s (open_of l image slot m).room
open-passes l image slot m s lays e =
    let d = open_done l image slot m s e in
    let a = accepted l s.sizes s.salt slot image d.read_is in
    let o = opened_memory l s.sizes s.salt image in
    subst (Passes l s) (sym d.room-is) (record {
      sizes = range-test s.sizes a.sizes;
      room = rooms-asked l s.sizes lays a.sizes o (opened-rooms l s.sizes s.salt image lays a.sizes a.whole);
      rest = ap (λ n. is_session l s.sizes s.salt n o.table o.list) d.none-listed ∙ opened-session l s.sizes s.salt image;
    })

-- an answer that gives no value is what is told of it
pub told_same : (r : Result Unit SessionError) → told r ≡ r
told_same (Ok tt) = refl
told_same (Err e) = refl

-- ---- 01's table of numbers, 8 to 12 and 16: all is kept
pub same_number : (n : ℕ) (a : Result Unit HandError) → hand_over_number (hand_answer n a) ≡ handing.hand_number a
same_number n (Ok x) = refl
same_number n (Err e) = refl

module _ (l : Layout) (s : Session) (m : Memory) where
  module _ (key : List ℕ) where
    abbrev handed : handing.Handing
    handed = handing.hand_of l s.sizes s.salt s.listed key m.filter m.table m.list (index_of l s m)

    leaves_kept : 0 < hand_over_number (hand_answer s.listed handed.answer) → (hand_leaves s m handed).room ≡ m
    leaves_kept h =
        ap (λ (x : handing.Handing). memory m.filter x.table m.packets x.list)
        (hand-kept l s.sizes s.salt s.listed key m.filter m.table m.list (index_of l s m) {r = handed.answer} {t' = handed.table}
        {rs' = handed.list} {seen' = handed.seen} refl (omega (arith, same_number s.listed handed.answer)))

    way-kept : (t : Result Unit SessionError)
        → let x = choose (handing_to (Err (over.Session NotSession)) m) (handing_to (Err (over.Session BadRoom)) m) (hand_leaves s m handed) t in
        0 < hand_over_number x.answer → x.room ≡ m
    way-kept (Err NotSession) h = refl
    way-kept (Err BadRoom) h = refl
    way-kept (Ok x) h = leaves_kept h

    pub hand-over-kept : 0 < hand_over_number (hand_over l s key m).answer → (hand_over l s key m).room ≡ m
    hand-over-kept =
        subst (λ (x : Handing). 0 < hand_over_number x.answer → x.room ≡ m) (hand-is l s m (test_of l s m) (told_same (test_of l s m)) key) (way-kept (told (test_of l s m)))

  -- 8 or 16
  abbrev Refused : ℕ → Type 0
  Refused n = (n ≡ 8) ⊎ (n ≡ 16)

  never : {A : Type 0} (a : Result ℕ Damage) → Refused (settle_number (settle_answer a)) → A
  never (Ok n) h = absurd (elim h [ inl e ↦ omega arith | inr e ↦ omega arith ])
  never (Err d) h = absurd (elim h [ inl e ↦ omega arith | inr e ↦ omega arith ])

  abbrev settled_to : settling.Settled
  settled_to = settling.settle_of l s.sizes s.salt s.listed m.table m.packets m.list (index_of l s m)

  end_kept : (t : Result Unit SessionError)
      → let x = choose (settling_to (Err (settled.Session NotSession)) m) (settling_to (Err (settled.Session BadRoom)) m) (settle_leaves m settled_to) t in
      Refused (settle_number x.answer) → x.room ≡ m
  end_kept (Err NotSession) h = refl
  end_kept (Err BadRoom) h = refl
  end_kept (Ok x) h = never settled_to.answer h

  pub settle-kept : Refused (settle_number (settle_of l s m).answer) → (settle_of l s m).room ≡ m
  settle-kept = subst (λ (x : Settling). Refused (settle_number x.answer) → x.room ≡ m) (settle_is l s m (test_of l s m) (told_same (test_of l s m))) (end_kept (told (test_of l s m)))
