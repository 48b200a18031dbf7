-- On clean flowsets 02 b changes no answer: what is listed and counted leaves nothing over, so that stray never appears, and where every flow is
-- counted the report says whole. Off them it does.
use mathlib.Core.Path.{◌≡◌, refl, sym, ap, ◌∙◌, fun_ext}
use mathlib.Core.Logic.{inl, inr}
use mathlib.Core.Bool.{Bool, true, false, not, ◌&&◌}
use mathlib.Core.List.{List, [], ◌∷◌}
use mathlib.Core.Option.{some}
use Prim.Native.Nat.{ℕ, ◌+◌, ◌<◌}
use native.Mathlib.Omega.{arith}
use lib.Dec.{eqb, ltb}
use lib.ListN.{length, replicate}
use borrow.Author.Tests.{eq-eqb, le-ltb, ltb-false}
use Rattle.laws.specs.Xor.{xor_bytes}
use Rattle.laws.specs.Upto.{any_upto, all_upto, number_upto}
use Rattle.laws.specs.Zeros.{all_zero}
use Rattle.laws.proofs.Bools.{split, clash, and_i, and-t}
use Rattle.laws.proofs.Lowest.{number-none}
use Rattle.laws.proofs.Upto.{all_yes}
use Rattle.laws.proofs.Zeros.{zeros-zero}
use Rattle.theory.specs.Encode.{Key, same_key, among, sum_over, total, count, Placement, Taken, empty_table, take_in_cell, take_packet, take_packets, encode_cell, outside}
use Rattle.theory.specs.Session.{Session, opened, keys_where, unknowns_of, listed, counted, open_cells, pure, ready, settled, Result, after_step, repeat, peel, count_step, then_counts, settle}
use Rattle.theory.specs.Report.{stray, whole, nothing_left, state_before, Report, report_with, report, report_before}
use Rattle.theory.specs.HandOver.{Switch}
use Rattle.theory.specs.Invariant.{Counted}
use Rattle.theory.specs.Runs.{Stands}
use Rattle.theory.specs.Demands.{keep, Truthful, Shown, Demand2}
use Rattle.theory.specs.Cases.{a, placed_with}
use Rattle.theory.proofs.Flow.{among-here}
use Rattle.theory.proofs.Sums.{sum-none}
use Rattle.theory.proofs.Records.{where-listed}
use Rattle.theory.proofs.Outside.{outside-not}
use Rattle.theory.proofs.Runs.{counted-listed}
use Rattle.theory.proofs.Demands.{stands-holds, truthful}
use Rattle.theory.proofs.Whole.{none_open, none-unknown}

-- where no key passes, the sum is nothing
sum-empty : {M : Type 0} (op : M → M → M) (e : M) (w : Key → M) (P : Key → Bool) (l : List Key) → count P l ≡ 0 → sum_over op e P w l ≡ e
unfolding sum_over
sum-empty op e w P [] z = refl
sum-empty op e w P (x ∷ l) z = elim (split (P x)) [
  | inl p ↦ absurd (let q = rw p at z in omega arith)
  | inr p ↦ rw p (sum-empty op e w P l (rw p at z))
]

before-not-stray : (opens unknowns : ℕ) → state_before opens unknowns ≡ stray → ⊥
before-not-stray opens unknowns e = elim (split (ltb 0 opens)) [
  | inl p ↦ (let h = rw p at e in let q : ◌≡◌ {A = ℕ} 0 1 = cc in omega arith)
  | inr p ↦ elim (split (ltb 0 unknowns)) [
    | inl r ↦ (let h = rw (p, r) at e in let q : ◌≡◌ {A = ℕ} 0 1 = cc in omega arith)
    | inr r ↦ (let h = rw (p, r) at e in let q : ◌≡◌ {A = ℕ} 0 1 = cc in omega arith)
  ]
]

module _ (key_length : ℕ) (has : Placement) (F : List Key) (packets : Key → ℕ) (n : ℕ) (s : Session) (t : Truthful key_length has F packets s) where
  module _ (opens : open_cells n s.cells ≡ 0) (unknowns : length (unknowns_of s.list) ≡ 0) where
    -- every listed flow is counted
    all-counted : (k : Key) → counted s k ≡ listed s k
    unfolding counted
    all-counted k = rw (none-unknown s.list unknowns k) (and-t (listed s k))

    same_kept : keep (λ k. not (counted s k)) F ≡ keep (λ k. not (listed s k)) F
    same_kept = ap (λ f. keep f F) (fun_ext (λ k. ap not (all-counted k)))

    cell-zero : (c : ℕ) → c < n → (all_zero (s.cells c).flow_xor && eqb (s.cells c).packet_count 0) ≡ true
    unfolding encode_cell
    cell-zero c h =
        let P : Key → Bool = λ k. has k c in
        let left = keep (λ k. not (listed s k)) F in
        let cell = t.cells_left c in
        let none : count P left ≡ 0 = sym (ap (λ x. x.flow_count) cell) ∙ none_open n s.cells opens c h in
        and_i (all_zero (s.cells c).flow_xor) (eqb (s.cells c).packet_count 0)
        (ap (λ x. all_zero x.flow_xor) cell ∙ ap all_zero (sum-empty xor_bytes (replicate key_length 0) (λ k. k) P left none) ∙ zeros-zero key_length)
        (eq-eqb (s.cells c).packet_count 0
        (ap (λ x. x.packet_count) cell ∙ ap (total P packets) same_kept ∙ sum-empty ◌+◌ 0 packets P left none))

    nothing_left_lem : nothing_left n s.cells ≡ true
    unfolding nothing_left
    nothing_left_lem = all_yes n (λ c. all_zero (s.cells c).flow_xor && eqb (s.cells c).packet_count 0) cell-zero

  -- Theorem: where list and cells are true, the report is the one without 02 b
  pub report-unchanged : report n s ≡ report_before n s
  unfolding report report_before
  report-unchanged = ap (report_with n s) (elim (split (ltb 0 (open_cells n s.cells))) [
    | inl p ↦ rw p
    | inr p ↦ elim (split (ltb 0 (length (unknowns_of s.list)))) [
      | inl q ↦ rw (p, q)
      | inr q ↦ rw (
        p,
        q,
        nothing_left_lem (omega (arith, ltb-false 0 (open_cells n s.cells) p)) (omega (arith, ltb-false 0 (length (unknowns_of s.list)) q)),
      )
    ]
  ])

  -- Theorem: and its state is never stray
  pub never-stray : (report n s).state ≡ stray → ⊥
  unfolding report_before
  never-stray e = before-not-stray (open_cells n s.cells) (length (unknowns_of s.list)) (sym (ap (λ (r : Report). r.state) report-unchanged) ∙ e)

-- Theorem: where every flow counted here is listed with its count, the report says whole
module _ (w : Switch) (e : Counted w) (s : Session) (g : Stands w e s) (all : (k : Key) → among k e.flows ≡ true → counted s k ≡ true) where
  all_listed : (k : Key) → among k e.flows ≡ true → listed s k ≡ true
  all_listed k m = counted-listed s k (all k m)

  none-left-open : open_cells w.size s.cells ≡ 0
  unfolding open_cells
  none-left-open = number-none w.size (λ c. ltb 0 (s.cells c).flow_count) (λ c h. le-ltb 0 (s.cells c).flow_count (omega (
    arith,
    (stands-holds w e s g).flows c,
    sum-none ◌+◌ 0 (λ k. 1) (outside w.has (listed s) c) e.flows (λ k m. elim (split (outside w.has (listed s) c k)) [
      | inl p ↦ clash (all_listed k m) (outside-not w.has (listed s) c k p)
      | inr p ↦ p
    ]),
  )))

  none-left-unknown : length (unknowns_of s.list) ≡ 0
  none-left-unknown = go (unknowns_of s.list) (λ k u.
      let l = where-listed (λ r. not r.known) s.list k u in
      clash (all k ((stands-holds w e s g).inside k l)) (unfold counted in rw (u, l)))
    where
      go : (l : List Key) → ((k : Key) → among k l ≡ true → ⊥) → length l ≡ 0
      go [] h = refl
      go (x ∷ l) h = absurd (h x (among-here x l))

  pub counted-whole : (report w.size s).state ≡ whole
  unfolding report_before
  counted-whole = ap (λ (r : Report). r.state) (report-unchanged e.key_length w.has e.flows e.packets w.size s (truthful w e s g))
      ∙ rw (none-left-open, none-left-unknown)

-- Theorem: whatever meets demand 2 reports as without 02 b, and never stray
module _ (size key_length : ℕ) (has : Placement) (F : List Key) (packets : Key → ℕ) (d : Shown) (x : Demand2 size key_length has F packets d) where
  pub demand-unchanged : d.told ≡ some (report_before size d.stands)
  demand-unchanged = x.reports ∙ ap some (report-unchanged key_length has F packets size d.stands x.truthful)

  pub demand-never-stray : (r : Report) → d.told ≡ some r → r.state ≡ stray → ⊥
  demand-never-stray r e z =
      let same : report size d.stands ≡ r = cc in
      never-stray key_length has F packets size d.stands x.truthful (ap (λ (y : Report). y.state) same ∙ z)

-- ---- a flow that the filter took for an old one
-- a packet of a, whose flow is never called new: its cells 0 and 2 have a packet and no flow
abbrev missed : List Taken
missed = record { key = a; new = false } ∷ []

abbrev settled_missed : Result Session
settled_missed = settle 4 (placed_with 3) (opened (take_packets (placed_with 3) missed (empty_table 13)))

-- Theorem: a missed flow alone: settling ends well, and the report says stray; without 02 b it said whole
pub missed-stray : (settled_missed.stop ≡ settled) × ((report 4 settled_missed.state).state ≡ stray)
    × ((report_before 4 settled_missed.state).state ≡ whole)
unfolding any_upto all_upto number_upto all_zero keys_where open_cells pure ready after_step repeat peel count_step then_counts settle
    empty_table take_in_cell take_packet take_packets placed_with same_key nothing_left report report_before
missed-stray = (refl, refl, refl)
