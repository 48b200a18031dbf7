-- The tests of every call, each way they go; what a session that passes them has ready for the work; and each call's answer.
use mathlib.Core.Path.{◌≡◌, sym, ap, ◌∙◌, subst}
use mathlib.Core.Bool.{true, cond}
use mathlib.Core.List.{List}
use mathlib.Core.Logic.{inl, inr}
use Prim.Native.Nat.{ℕ, ◌*◌, ◌≤◌}
use native.Mathlib.Omega.{arith}
use lib.ListN.{length, get_or, replicate}
use Rattle.laws.specs.Upto.{number_upto}
use Rattle.laws.proofs.Bools.{split}
use Rattle.layout.specs.declared.Layout.{Layout}
use Rattle.layout.specs.declared.Sizes.{Sizes}
use Rattle.hash.specs.declared.Placing.{Placing}
use Rattle.layout.specs.Sizes.{Lays, in_range, table_cells}
use Rattle.layout.proofs.Ranges.{ranged, table-high}
use Rattle.list.specs.Records.{Records, is_handed, handed_in}
use Rattle.marks.specs.Marks.{Words}
use Rattle.table.specs.Table.{Tab}
use Rattle.index.proofs.Index.{empty-zeros}
use Rattle.found.specs.Seen.{Covers}
use Rattle.peeling.specs.Peel.{Steady}
use Rattle.peeling.specs.declared.Damage.{Damage}
use Rattle.std.specs.Prelude.{Result, Ok, Err}
use Rattle.test8.specs.Given.{flag_set, seen_upto}
use Rattle.test8.specs.Test8.{over_listed, is_session}
use Rattle.test8.proofs.Answers as test8
use Rattle.test8.proofs.Passed.{listed-few, passed-bounded}
use Rattle.test8.proofs.Notes.{seen_covers}
use Rattle.room.specs.declared.Session.{Session}
use Rattle.room.specs.Memory.{Memory, memory, Rooms, room_fits}
use Rattle.room.specs.Test.{tested}
use Rattle.room.proofs.Laws.{rooms-told, tested-sizes, tested-room, tested-rest}
use Rattle.handing.specs.declared.HandError.{HandError}
use Rattle.handing.specs.Hand as handing
use Rattle.settling.specs.Settle as settling
use Rattle.summary.specs.declared.Report.{Report}
use Rattle.session.specs.Calls.{index_of, test_of, told, handing_to, hand_answer, hand_leaves, hand_over}
use Rattle.session.specs.Calls.{settling_to, settle_answer, settle_leaves, settle_of, report_in, report_on}
use Rattle.session.specs.declared.SessionError.{SessionError}
use Rattle.session.specs.declared.SessionError.TheVariants.{NotSession, BadRoom}
use Rattle.session.specs.declared.HandOverError.TheVariants as over
use Rattle.session.specs.declared.SettleError.TheVariants as settled

-- a session that passes all tests
pub record Passes (l : Layout) (s : Session) (m : Memory) : Type 0 where
  pub sizes : in_range s.sizes ≡ true
  pub room : room_fits l s.sizes m ≡ true
  pub rest : is_session l s.sizes s.salt s.listed m.table m.list ≡ true

-- ---- which way the tests go
-- what a call does, by the answer of the tests
abbrev pub choose : {A : Type 0} → A → A → A → Result Unit SessionError → A
choose notSession badRoom passed (Err NotSession) = notSession
choose notSession badRoom passed (Err BadRoom) = badRoom
choose notSession badRoom passed (Ok x) = passed

module _ (l : Layout) (s : Session) (m : Memory) where
  chosen : {A : Type 0} (x y w : A) → tested l s m x y w ≡ choose x y w (test_of l s m)
  unfolding tested
  chosen x y w = elim (split (in_range s.sizes)) [
    | inr p ↦ rw p
    | inl p ↦ elim (split (room_fits l s.sizes m)) [
      | inr q ↦ rw (p, q)
      | inl q ↦ elim (split (is_session l s.sizes s.salt s.listed m.table m.list)) [ inr o ↦ rw (p, q, o) | inl o ↦ rw (p, q, o) ]
    ]
  ]

  -- no other way leads to a pass
  passes-all : test_of l s m ≡ Ok tt → Passes l s m
  passes-all e = elim (split (in_range s.sizes)) [
    | inr p ↦ absurd (let q = sym (tested-sizes l s m _ _ _ p) ∙ e in cc)
    | inl p ↦ elim (split (room_fits l s.sizes m)) [
      | inr q ↦ absurd (let r = sym (tested-room l s m _ _ _ p q) ∙ e in cc)
      | inl q ↦ elim (split (is_session l s.sizes s.salt s.listed m.table m.list)) [
        | inr o ↦ absurd (let r = sym (tested-rest l s m _ _ _ p q o) ∙ e in cc)
        | inl o ↦ record { sizes = p; room = q; rest = o }
      ]
    ]
  ]

  module _ {B : Type 0} (r : Result B SessionError) (e : told r ≡ test_of l s m) where
    way : {A : Type 0} (x y w : A) → choose x y w (told r) ≡ tested l s m x y w
    way x y w = ap (choose x y w) e ∙ sym (chosen x y w)

    pub passes : {x : B} → r ≡ Ok x → Passes l s m
    passes q = passes-all (sym e ∙ ap told q)

-- the index, where not too many flows are listed
pub seen_all : (l : Layout) (z : Sizes) (salt n : ℕ) (t : Tab) (rs : Records) (seen : List ℕ) {s : List ℕ} → is_session l z salt n t rs ≡ true
    → s ≡ seen_upto l z salt (cond (over_listed l z n) 0 n) rs.keys seen → s ≡ seen_upto l z salt n rs.keys seen
seen_all l z salt n t rs seen p e = e ∙ ap (λ b. seen_upto l z salt (cond b 0 n) rs.keys seen) (test8.passed l z salt n t rs p).listed_in

-- ---- what a session that passes has ready
module _ (l : Layout) (s : Session) (m : Memory) (lays : Lays l) (p : Passes l s m) where
  pub rooms : Rooms l s.sizes m
  rooms = rooms-told l s.sizes lays (ranged s.sizes p.sizes) m p.room

  whole : test8.Passed l s.sizes s.salt s.listed m.table m.list
  whole = test8.passed l s.sizes s.salt s.listed m.table m.list p.rest

  pub listed-high : s.listed ≤ 2 * table_cells l s.sizes
  listed-high = listed-few l s.sizes s.salt s.listed m.table m.list whole

  pub listed_small : s.listed ≤ 3072
  listed_small = let h = listed-high in omega (arith, table-high l s.sizes lays rooms.table.ranged)

  pub flags-reach : s.listed ≤ length m.list.flags
  flags-reach = let h = listed-high in omega (arith, rooms.room.flags-fit)

  pub passes-steady : Words m.table.marks → {seen : List ℕ} → seen ≡ index_of l s m
      → Steady l s.sizes s.salt s.listed m.table m.list seen
  passes-steady w e = record {
    fits = record {
      table = rooms.table;
      room = rooms.room;
      listed = listed-high;
      covers = subst (Covers l s.sizes s.salt s.listed m.list.keys) (sym e)
          (seen_covers l s.sizes s.salt m.list.keys (replicate 11264 0) s.listed listed_small empty-zeros);
    };
    bounded = passed-bounded l s.sizes s.salt s.listed m.table m.list whole w;
  }

  pub passes-hands : Words m.table.marks → (key : List ℕ) {handed : ℕ} {seen : List ℕ} → length key ≡ l.key
      → handed ≡ number_upto s.listed (λ i. flag_set 1 (get_or m.list.flags i 0)) → seen ≡ index_of l s m
      → handing.Hands l s.sizes s.salt s.listed handed key m.filter m.table m.list seen
  unfolding handed_in is_handed
  passes-hands w key k h e = record { steady = passes-steady w e; filter-fits = rooms.filter-fits; key_fits = k; handed-is = h }

-- the tests of the room of a call, whose slices are these
pub tests-of : (l : Layout) (s : Session) {A : Type 0} (r : Result A SessionError) {seen m : Memory} → told r ≡ test_of l s seen → seen ≡ m
    → told r ≡ test_of l s m
tests-of l s r e f = e ∙ ap (test_of l s) f

-- the index of the keys that are listed in that room
pub index-is : (l : Layout) (s : Session) {i : List ℕ} {seen m : Memory} → i ≡ index_of l s seen → seen ≡ m → i ≡ index_of l s m
index-is l s e f = e ∙ ap (index_of l s) f

-- a placing of its layout, sizes and salt
abbrev pub Places : Layout → Session → Placing → Type 0
Places l s p = (p.shape.layout ≡ l) × (p.shape.sizes ≡ s.sizes) × (p.salt ≡ s.salt)

-- ---- each call's answer
module _ (l : Layout) (s : Session) (m : Memory) {B : Type 0} (r : Result B SessionError) (e : told r ≡ test_of l s m) where
  -- hand-over
  module _ (key : List ℕ) where
    pub hand-is : choose (handing_to (Err (over.Session NotSession)) m) (handing_to (Err (over.Session BadRoom)) m)
        (hand_leaves s m (handing.hand_of l s.sizes s.salt s.listed key m.filter m.table m.list (index_of l s m))) (told r)
        ≡ hand_over l s key m
    unfolding hand_over
    hand-is = way l s m r e _ _ _

    pub hand-refused : (x : SessionError) → r ≡ Err x → handing_to (Err (over.Session x)) m ≡ hand_over l s key m
    hand-refused NotSession q = rw q at hand-is
    hand-refused BadRoom q = rw q at hand-is

    pub hand-passed : {x : B} {a : Result Unit HandError} {t : Tab} {rs : Records} {seen seen' : List ℕ} → r ≡ Ok x
        → seen ≡ index_of l s m
        → handing.handing a t rs seen' ≡ handing.hand_of l s.sizes s.salt s.listed key m.filter m.table m.list seen
        → handing_to (hand_answer s.listed a) (memory m.filter t m.packets rs) ≡ hand_over l s key m
    hand-passed q u g =
        ap (hand_leaves s m) (g ∙ ap (handing.hand_of l s.sizes s.salt s.listed key m.filter m.table m.list) u)
        ∙ (rw q at hand-is)

  -- settling
  pub settle_is : choose (settling_to (Err (settled.Session NotSession)) m) (settling_to (Err (settled.Session BadRoom)) m)
      (settle_leaves m (settling.settle_of l s.sizes s.salt s.listed m.table m.packets m.list (index_of l s m))) (told r)
      ≡ settle_of l s m
  unfolding settle_of
  settle_is = way l s m r e _ _ _

  pub settle-refused : (x : SessionError) → r ≡ Err x → settling_to (Err (settled.Session x)) m ≡ settle_of l s m
  settle-refused NotSession q = rw q at settle_is
  settle-refused BadRoom q = rw q at settle_is

  pub settle-passed : {x : B} {a : Result ℕ Damage} {t : Tab} {packets : List ℕ} {rs : Records} {seen seen' : List ℕ} → r ≡ Ok x
      → seen ≡ index_of l s m
      → settling.settled a t packets rs seen' ≡ settling.settle_of l s.sizes s.salt s.listed m.table m.packets m.list seen
      → settling_to (settle_answer a) (memory m.filter t packets rs) ≡ settle_of l s m
  settle-passed q u g =
      ap (settle_leaves m) (g ∙ ap (settling.settle_of l s.sizes s.salt s.listed m.table m.packets m.list) u)
      ∙ (rw q at settle_is)

  -- the report
  report-is : choose (Err NotSession) (Err BadRoom) (Ok (report_in s.listed m)) (told r) ≡ report_on l s m
  unfolding report_on
  report-is = way l s m r e _ _ _

  pub report-refused : (x : SessionError) → r ≡ Err x → Err x ≡ report_on l s m
  report-refused NotSession q = rw q at report-is
  report-refused BadRoom q = rw q at report-is

  pub report-passed : {y : B} {x : Report} → r ≡ Ok y → x ≡ report_in s.listed m → Ok x ≡ report_on l s m
  report-passed q h = ap Ok h ∙ (rw q at report-is)
