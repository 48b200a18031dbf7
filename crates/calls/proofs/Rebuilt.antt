-- The list taken apart, a call over the numbers, the list put together: the same as the call over records.
use mathlib.Core.Path.{◌≡◌, sym, ap, subst, ◌∙◌}
use mathlib.Core.List.{List}
use mathlib.Core.Logic.{inl, inr}
use Prim.Native.Nat.{ℕ, ◌*◌, ◌<◌, ◌≤◌}
use native.Mathlib.Decide.{dec_lt}
use native.Mathlib.Omega.{arith}
use lib.ListN.{length, replicate, length-replicate, drop, length-append, length-drop}
use Rattle.laws.proofs.Upto.{length-list}
use Rattle.laws.proofs.Rows.{length-join}
use Rattle.packet.specs.Key.{key_bytes}
use Rattle.packet.proofs.KeyBytes.{length-key}
use Rattle.layout.specs.Sizes.{ipv4_layout}
use Rattle.list.specs.Records.{Records, records, Room}
use Rattle.room.specs.Memory.{Memory, memory}
use Rattle.records.specs.declared.Record.{Record}
use Rattle.records.specs.Record.{AllFit, at, flag_byte, apart, together, keys_upto, counts_upto, flags_upto, apart_upto, together_upto}
use Rattle.records.proofs.Laws.{together-none}
use Rattle.records.proofs.Trip.{apart-room, together-apart}
use Rattle.calls.specs.Calls.{Arrays, Lent, lent, Ran, ran, Called, called, taken, first, over, over_first, over_records, as_numbers, as_records}
use Rattle.calls.proofs.Laws.{taken-all, taken_none, widened, first-none, first-apart, over-long, together-over}
use Rattle.calls.proofs.Misfit.{Misfit}

-- ---- a call over numbers that keeps a list of the wrong length, and answers the same for each
module _ (most : ℕ) {A : Type 0} (call : Memory → Ran A) (refused : A) (misfit : (m : Memory) → Misfit most m.list → call m ≡ ran refused m) where
  module _ (m : Lent) (zeros now : Records) (after : Memory) (answer : A) (list' : List Record)
      (e : ran answer after ≡ over_first call (taken most (length m.list)) (memory m.filter m.table m.packets now))
      (apart-is : now ≡ apart_upto (taken most (length m.list)) m.list zeros)
      (kept : Arrays most after.list) (arrays : Arrays most now)
      (together-is : list' ≡ together_upto (taken most (length m.list)) after.list m.list) where
    abbrev n : ℕ
    n = length m.list

    abbrev done : Called A
    done = called answer (lent after.filter after.table after.packets list')

    -- a list that some sizes may ask for
    few : n ≤ most → done ≡ over_records call m
    unfolding over_first over_records
    few h =
        let t = taken-all most n h in
        let out = call (as_numbers m) in
        let f : first n now ≡ apart m.list = ap (first n) (rw t at apart-is) ∙ first-apart m.list zeros in
        let g : ran answer after ≡ widened n now out.answer out.room = rw (t, f) at e in
        let rs : after.list ≡ over n out.room.list now = ap (λ (x : Ran A). x.room.list) g in
        let long = over-long most n out.room.list now h arrays (subst (Arrays most) rs kept) in
        let list : list' ≡ together out.room.list = (rw (t, rs) at together-is)
        ∙ together-over m.list out.room.list now long in
        λ j. called (g j).answer (lent (g j).room.filter (g j).room.table (g j).room.packets (list j))

    -- and one that none ask for
    many : most < n → AllFit m.list → done ≡ over_records call m
    unfolding over_first over_records
    many h fit =
        let t = taken_none most n h in
        let before = memory m.filter m.table m.packets (first 0 now) in
        let here = misfit before (inl (first-none now)) in
        let g : ran answer after ≡ widened 0 now refused before = (rw t at e) ∙ ap (λ (x : Ran A). widened 0 now x.answer x.room) here in
        let list : list' ≡ m.list = (rw t at together-is) ∙ sym (together-none after.list m.list) in
        let there = misfit (as_numbers m) (inr (rw (apart-room m.list).counts-fit h)) in
        let back = together-apart m.list fit in
        (λ j. called (g j).answer (lent (g j).room.filter (g j).room.table (g j).room.packets (list j)))
        ∙ (λ j. called refused (lent m.filter m.table m.packets (sym back j)))
        ∙ ap (λ (x : Ran A). called x.answer (as_records x.room)) (sym there)

    pub rebuilt : AllFit m.list → done ≡ over_records call m
    rebuilt fit = elim (dec_lt most n) [ yes h ↦ many h fit | no h ↦ few (omega arith) ]

-- ---- the same, as the calls meet it
-- the arrays before the list is taken apart
abbrev pub zeros : ℕ → Records
zeros most = records (replicate (most * 13) 0) (replicate most 0) (replicate most 0)

-- the arrays keep their lengths: where some records are taken apart, and where as many are written over them
arrays-apart : (most k : ℕ) (list : List Record) → k ≤ most → Arrays most (apart_upto k list (zeros most))
unfolding apart_upto keys_upto counts_upto flags_upto
arrays-apart most k list h = record {
  keys-fit = omega (
    arith,
    length-append (keys_upto k list) (drop (k * 13) (zeros most).keys),
    length-drop (k * 13) (zeros most).keys,
    length-replicate {A = ℕ} (most * 13) 0,
    length-join k 13 (λ j. key_bytes (at list j).key) (λ j l. length-key (at list j).key),
  );
  counts-fit = omega (arith, length-append (counts_upto k list) (drop k (zeros most).counts), length-drop k (zeros most).counts, length-replicate {A = ℕ} most 0, length-list k (λ j. (at list j).count));
  flags-fit = omega (arith, length-append (flags_upto k list) (drop k (zeros most).flags), length-drop k (zeros most).flags, length-replicate {A = ℕ} most 0, length-list k (λ j. flag_byte (at list j).known (at list j).handed));
}

arrays-over : (most k : ℕ) (new rs : Records) → k ≤ most → Room ipv4_layout k new → Arrays most rs → Arrays most (over k new rs)
unfolding over
arrays-over most k new rs h r a = record {
  keys-fit = omega (arith, length-append new.keys (drop (k * 13) rs.keys), length-drop (k * 13) rs.keys, a.keys-fit, r.keys-fit);
  counts-fit = omega (arith, length-append new.counts (drop k rs.counts), length-drop k rs.counts, a.counts-fit, r.counts-fit);
  flags-fit = omega (arith, length-append new.flags (drop k rs.flags), length-drop k rs.flags, a.flags-fit, r.flags-fit);
}

module _ (most : ℕ) {A : Type 0} (call : Memory → Ran A) (refused : A) (misfit : (m : Memory) → Misfit most m.list → call m ≡ ran refused m)
    (m : Lent) {n k : ℕ} (whole : (n ≡ length m.list) × AllFit m.list) (some : k ≡ taken most n)
    (now : Records) (apart-is : now ≡ apart_upto k m.list (zeros most)) where
  abbrev before : Memory
  before = memory m.filter m.table m.packets (first k now)

  taken_is : k ≡ taken most (length m.list)
  taken_is = some ∙ ap (taken most) whole.0

  all : length m.list ≤ most → k ≡ length m.list
  all h = taken_is ∙ taken-all most (length m.list) h

  none : most < length m.list → k ≡ 0
  none h = taken_is ∙ taken_none most (length m.list) h

  -- a list that some sizes may ask for
  before-few : length m.list ≤ most → before ≡ as_numbers m
  before-few h = ap (memory m.filter m.table m.packets) (ap (λ j. first j now) (all h) ∙ ap (first (length m.list)) (rw (all h) at apart-is) ∙ first-apart m.list (zeros most))

  -- and one that none ask for
  before-many : most < length m.list → call before ≡ ran refused before
  before-many h = misfit before (inl (rw (none h) (first-none now)))

  refused-many : most < length m.list → call (as_numbers m) ≡ ran refused (as_numbers m)
  refused-many h = misfit (as_numbers m) (inr (rw (apart-room m.list).counts-fit h))

  -- as many as the arrays have room for, so that they keep their lengths
  small : k ≤ most
  small = elim (dec_lt most (length m.list)) [ yes h ↦ omega (arith, none h) | no h ↦ omega (arith, all (omega arith)) ]

  arrays : Arrays most now
  arrays = rw apart-is (arrays-apart most k m.list small)

  pub calls-records : (answer : A) (after : Memory) (list' : List Record) → Room ipv4_layout k after.list
      → ran answer after ≡ call before → list' ≡ together_upto k (over k after.list now) m.list
      → called answer (lent after.filter after.table after.packets list') ≡ over_records call m
  unfolding over_first
  calls-records answer after list' left e together-is =
      let wide : ran answer (memory after.filter after.table after.packets (over k after.list now)) ≡ over_first call k (memory m.filter m.table m.packets now) =
      ap (λ (x : Ran A). widened k now x.answer x.room) e in
      let kept = arrays-over most k after.list now small left arrays in
      rebuilt most call refused misfit m (zeros most) now (memory after.filter after.table after.packets (over (taken most (length m.list)) after.list now)) answer list'
      (rw taken_is at wide) (rw taken_is at apart-is) (rw taken_is at kept) arrays (rw taken_is at together-is) whole.1

  -- of a call that keeps all memory, the answer alone
  pub tells-records : (answer : A) → answer ≡ (call before).answer → answer ≡ (call (as_numbers m)).answer
  tells-records answer e = elim (dec_lt most (length m.list)) [
    | no l ↦ e ∙ ap (λ x. (call x).answer) (before-few (omega arith))
    | yes h ↦ e ∙ ap (λ (x : Ran A). x.answer) (before-many h) ∙ ap (λ (x : Ran A). x.answer) (sym (refused-many h))
  ]
