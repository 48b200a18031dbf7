-- Settling by marks and per-cell numbers renewed at a flow's cells only is settling by looking through all cells, step by step, on any session.
use mathlib.Core.Path.{◌≡◌, refl, sym, ap, ◌∙◌, fun_ext}
use mathlib.Core.Logic.{inl, inr}
use mathlib.Core.Bool.{Bool, true, false, not, cond}
use mathlib.Core.List.{[]}
use Prim.Native.Nat.{ℕ, ◌+◌, ◌-◌, ◌<◌}
use native.Mathlib.Nat.{add_assoc, add_comm}
use native.Mathlib.Omega.{arith}
use lib.Bits.{bit_xor, xor_zero_r, xor_comm}
use lib.Dec.{eqb}
use lib.ListN.{length, get_or}
use Rattle.laws.specs.Upto.{any_upto, lowest}
use Rattle.laws.proofs.Bools.{split, or-fl}
use Rattle.theory.specs.Encode.{Key, Distinct, Placement}
use Rattle.theory.specs.Session.{Session, keys_of, unknowns_of, listed, pure, unknowns_in, ready, the_unknown, has_empty_cell, new_record, take_out, set_count, Step, damaged, next, Stop, settled, damage, peel_damaged, peel_pure, count_damaged, count_at, count_step, peels, then_counts, settle}
use Rattle.theory.specs.HandOver.{Switch, hand_answer, hand_over}
use Rattle.theory.specs.Notes.{Notes, Noted, positions_in, scan, noted, note_taken, note_told, map_step, map_result, peel_noted, ready_by}
use Rattle.theory.specs.Notes.{tell_at, count_noted}
use Rattle.theory.specs.Notes.{then_counts_noted, settle_noted, hand_noted}
use Rattle.theory.proofs.Sums.{sum-append}
use Rattle.theory.proofs.Records.{take-distinct, count-distinct, where-append}
use Rattle.theory.proofs.Positions.{positions-append, Stands, positions-one, with_count-at, count-told, positions-told}
use Rattle.theory.proofs.Single.{ready-one}
use Rattle.theory.proofs.Steps.{Peeling, none-marked, broken, taken, peeling, pure-count, peel-next, count_next}
use Rattle.theory.proofs.Settle.{peels-keep}
use Rattle.theory.proofs.Repeat.{repeat-map}
use Rattle.laws.proofs.Lowest.{lowest-hit}

notes-path : {m o : Notes} → m.marks ≡ o.marks → m.unknowns ≡ o.unknowns → m.positions ≡ o.positions → m ≡ o
notes-path p q r = λ i. record { marks = p i; unknowns = q i; positions = r i }

-- ---- a flow taken out: the notes of its cells renewed are the notes of all cells
module _ (has : Placement) (flag : Bool) (x : Key) (s : Session) where
  pub scan-taken : note_taken has x (length s.list) (take_out has flag x s) (scan has s) ≡ scan has (take_out has flag x s)
  unfolding note_taken scan
  scan-taken = notes-path (fun_ext marks) (fun_ext unknowns) (fun_ext positions)
    where
      marks : (c : ℕ) → cond (has x c) (pure has (take_out has flag x s).cells c) (pure has s.cells c) ≡ pure has (take_out has flag x s).cells c
      marks c = elim (split (has x c)) [ inl h ↦ rw h | inr h ↦ unfold pure take_out in rw h ]

      unknowns : (c : ℕ) → cond (has x c) (unknowns_in has s.list c + 1) (unknowns_in has s.list c)
          ≡ unknowns_in has (take_out has flag x s).list c
      unknowns c = unfold take_out in rw (where-append (λ r. not r.known) s.list (new_record flag x))
          (sym (sum-append ◌+◌ 0 (λ k. 1) add_comm add_assoc (λ k. has k c) (unknowns_of s.list) x))

      positions : (c : ℕ) → cond (has x c) (bit_xor (positions_in has s.list c) (length s.list)) (positions_in has s.list c)
          ≡ positions_in has (take_out has flag x s).list c
      positions c = unfold take_out in rw (positions-append (λ k. has k c) 0 s.list flag x) (elim (split (has x c)) [
        | inl h ↦ rw h (ap (bit_xor (positions_in has s.list c)) (omega arith))
        | inr h ↦ rw h (sym (xor_zero_r _))
      ])

-- ---- a count made known
module _ (has : Placement) (v : ℕ) (s : Session) (j : ℕ) (below : j < length s.list)
    (o : (get_or s.list j (new_record false [])).known ≡ false) where
  abbrev x : Key
  x = (get_or s.list j (new_record false [])).key

  abbrev after : Session
  after = record { cells = (set_count has x v s).cells; list = tell_at j v s.list }

  scan-told : note_told has x j (scan has s) ≡ scan has after
  unfolding note_told scan
  scan-told = notes-path (fun_ext (λ c. sym (pure-count has s x v c))) (fun_ext unknowns) (fun_ext positions)
    where
      unknowns : (c : ℕ) → cond (has x c) (unknowns_in has s.list c - 1) (unknowns_in has s.list c) ≡ unknowns_in has after.list c
      unknowns c = elim (split (has x c)) [
        | inl h ↦ rw h (omega (arith, rw h at (count-told (λ k. has k c) v s.list j below o)))
        | inr h ↦ rw h (omega (arith, rw h at (count-told (λ k. has k c) v s.list j below o)))
      ]

      positions : (c : ℕ) → cond (has x c) (bit_xor (positions_in has s.list c) j) (positions_in has s.list c)
          ≡ positions_in has after.list c
      positions c = rw (positions-told (λ k. has k c) v 0 s.list j below o) (elim (split (has x c)) [
        | inl h ↦ rw h (let z : j ≡ 0 + j = omega arith in
            xor_comm (positions_in has s.list c) j ∙ ap (λ t. bit_xor t (positions_in has s.list c)) z)
        | inr h ↦ rw h
      ])

  told_is : Distinct (keys_of s.list) → after ≡ set_count has x v s
  unfolding set_count
  told_is d = ap (λ l. record { cells = (set_count has x v s).cells; list = l }) (sym (with_count-at x v s.list d j below refl))

  noted-told : Distinct (keys_of s.list)
      → ◌≡◌ {A = Noted} (record { session = after; notes = note_told has x j (scan has s) }) (noted has (set_count has x v s))
  noted-told d = ap (λ m. record { session = after; notes = m }) scan-told ∙ ap (noted has) (told_is d)

-- ---- where the unknown flow of a ready cell stands
module _ (has : Placement) (s : Session) (c : ℕ) (p : ready has s c ≡ true) where
  abbrev j : ℕ
  j = positions_in has s.list c

  stands : (j : ℕ) × Stands (λ k. has k c) 0 s.list j
  stands = positions-one (λ k. has k c) 0 s.list (ready-one has s c p)

  position-is : j ≡ stands.0
  position-is = omega (arith, stands.1.place)

  position-below : j < length s.list
  position-below = rw position-is stands.1.below

  position-key : (get_or s.list j (new_record false [])).key ≡ the_unknown has s.list c
  position-key = rw position-is stands.1.key-there

  position-unknown : (get_or s.list j (new_record false [])).known ≡ false
  position-unknown = rw position-is stands.1.unknown-there

-- ---- the steps
module _ (n : ℕ) (has : Placement) where
  -- Theorem: one peel by right marks is one peel by looking through all cells, and leaves right marks and numbers
  pub peel-noted : (s : Session) → peel_noted n has (noted has s) ≡ map_step (noted has) (peel_pure n has s)
  unfolding peel_noted scan
  peel-noted s = go (peeling n has (pure has s.cells) s)
    where
      key : Key
      key = (s.cells (lowest n (pure has s.cells))).flow_xor

      renewed : Session → Noted
      renewed t = record { session = t; notes = note_taken has key (length s.list) t (scan has s) }

      go : {v : Step Session} → Peeling n has (pure has s.cells) s v → map_step renewed v ≡ map_step (noted has) v
      go (none-marked a) = refl
      go (broken a d) = refl
      go (taken {t = t} p) = ap (λ m. next (record { session = t; notes = m })) (rw p.result (scan-taken has false key s))

  told_at : (s : Session) → Distinct (keys_of s.list) → (c : ℕ) → ready has s c ≡ true
      → let j = positions_in has s.list c in
      let x = (get_or s.list j (new_record false [])).key in
      let v = (s.cells c).packet_count in
      cond (count_damaged n has s x v) (damaged c) (next (record {
        session = record { cells = (set_count has x v s).cells; list = tell_at j v s.list };
        notes = note_told has x j (scan has s);
      }))
      ≡ map_step (noted has) (count_at n has s c)
  unfolding count_at
  told_at s d c p =
      let j = positions_in has s.list c in
      let x = (get_or s.list j (new_record false [])).key in
      let v = (s.cells c).packet_count in
      rw (← position-key has s c p) (elim (split (count_damaged n has s x v)) [
        | inl q ↦ rw q
        | inr q ↦ rw q (ap next (noted-told has v s j (position-below has s c p) (position-unknown has s c p) d))
      ])

  -- Theorem: so is one count step
  pub count-noted : (s : Session) → Distinct (keys_of s.list) → count_noted n has (noted has s) ≡ map_step (noted has) (count_step n has s)
  unfolding count_noted count_step ready_by ready scan
  count-noted s d = elim (split (any_upto n (ready has s))) [
    | inr a ↦ rw a
    | inl a ↦ rw a (told_at s d (lowest n (ready has s)) (lowest-hit n (ready has s) a))
  ]

  pub distinct-peel : (s t : Session) → Distinct (keys_of s.list) → peel_pure n has s ≡ next t → Distinct (keys_of t.list)
  distinct-peel s t d e =
      let p = peel-next n has (pure has s.cells) s t e in
      let x = (s.cells (lowest n (pure has s.cells))).flow_xor in
      rw p.result (take-distinct has false x s d (unfold peel_damaged in or-fl (listed s x) (has_empty_cell n has s.cells x) p.sound))

  pub distinct-count : (s t : Session) → Distinct (keys_of s.list) → count_step n has s ≡ next t → Distinct (keys_of t.list)
  distinct-count s t d e = rw (count_next n has s t e).result (count-distinct has _ _ s d)

  -- ---- settling
  then-noted : (s : Session) (stop : Stop) → Distinct (keys_of s.list)
      → then_counts_noted n has (noted has s) stop ≡ map_result (noted has) (then_counts n has s stop)
  unfolding then_counts_noted then_counts
  then-noted s settled d = repeat-map (count_step n has) (count_noted n has) (noted has) (λ t. Distinct (keys_of t.list)) distinct-count count-noted
      (length (unknowns_of s.list)) s d
  then-noted s (damage c) d = refl

  -- Theorem: settling by the marks is settling by looking through all cells,
  -- on any session whose keys are distinct and whose marks and numbers are right
  pub settle-noted : (s : Session) → Distinct (keys_of s.list) → settle_noted n has (noted has s) ≡ map_result (noted has) (settle n has s)
  unfolding settle_noted settle
  settle-noted s d =
      let same = repeat-map (peel_pure n has) (peel_noted n has) (noted has) (λ t. Distinct (keys_of t.list)) distinct-peel
      (λ t _. peel-noted t) n s d in
      ap (λ r. then_counts_noted n has r.state r.stop) same
      ∙ then-noted (peels n has s).state (peels n has s).stop (peels-keep n has (λ t. Distinct (keys_of t.list)) distinct-peel distinct-count s d)

-- Theorem: so is a hand-over
pub hand-noted : (w : Switch) (x : Key) (s : Session) → hand_noted w x (noted w.has s) ≡ noted w.has (hand_over w x s)
unfolding hand_noted hand_over
hand-noted w x s = elim (split (eqb (hand_answer w x s) 0)) [
  | inl z ↦ rw z (ap (λ m. record { session = take_out w.has true x s; notes = m }) (scan-taken w.has true x s))
  | inr z ↦ rw z
]
