-- Request m of document 02, by example: whole is met, and there the cells leave no choice; of no other state, and of no rule without 02 b, is its sentence true.
use mathlib.Core.Path.{◌≡◌, refl, sym, ap, ◌∙◌}
use mathlib.Core.Logic.{inl, inr}
use mathlib.Core.Bool.{Bool, true, false, cond, ◌||◌}
use mathlib.Core.List.{List, [], ◌∷◌}
use mathlib.Core.Option.{Option, some, none}
use Prim.Native.Nat.{ℕ, zero, suc, ◌+◌, ◌/◌, ◌%◌, ◌≤◌, ◌<◌}
use native.Mathlib.Omega.{arith}
use lib.Dec.{eqb}
use lib.ListN.{length, get_or}
use borrow.Author.Tests.{eqb-true, eq-eqb}
use Rattle.laws.specs.Xor.{xor_bytes}
use Rattle.laws.specs.Upto.{any_upto, all_upto, lowest, number_upto}
use Rattle.laws.specs.Zeros.{all_zero}
use Rattle.laws.proofs.Bools.{split, clash, or-e, or_l}
use Rattle.laws.proofs.Upto.{any-yes}
use Rattle.theory.specs.Encode.{Key, same_key, among, Distinct, sum_over, Table, Placement, encode_cell, encode, FlowSet}
use Rattle.theory.specs.Session.{Record, Session, opened, keys_of, keys_where, count_of, open_cells, pure, ready, first, has_empty_cell, new_record, take_out, with_count, set_count, after_step, repeat, peel_damaged, peel_at, peel, count_damaged, count_at, count_step, then_counts, settle}
use Rattle.theory.specs.HandOver.{Switch, Call, hand, settling, hand_answer, hand_over, call, calls}
use Rattle.theory.specs.Report.{stuck, short, stray, whole, nothing_left, report, report_before}
use Rattle.theory.specs.Invariant.{Placed}
use Rattle.theory.specs.NoOther.{HandedSized, Since, EncodesTo, NoOther, NoOtherWhere}
use Rattle.theory.proofs.Flow.{among-here, among_there, among_cases, among_none}
use Rattle.theory.proofs.NoOther.{encoded-table, encodes-own, whole-no-other}

-- ---- a switch of four cells, two parts of two: a key of one byte is placed by its last two bits
unfoldable pub by_bits : Placement
by_bits x c = let b = get_or x 0 0 in eqb c (b % 2) || eqb c (2 + b / 2 % 2)

abbrev bit_switch : Switch
bit_switch = record { size = 4; has = by_bits; passes = λ k. true }

bits-placed : Placed 4 by_bits
unfolding by_bits
bits-placed = record {
  within = λ k c h. elim (or-e (eqb c (get_or k 0 0 % 2)) (eqb c (2 + get_or k 0 0 / 2 % 2)) h) [
    | inl q ↦ omega (arith, eqb-true c (get_or k 0 0 % 2) q)
    | inr q ↦ omega (arith, eqb-true c (2 + get_or k 0 0 / 2 % 2) q)
  ];
  somewhere = λ k.
      let b = get_or k 0 0 in
      any-yes 4 (λ c. eqb c (b % 2) || eqb c (2 + b / 2 % 2)) (b % 2) (omega arith)
      (or_l (eqb (b % 2) (b % 2)) (eqb (b % 2) (2 + b / 2 % 2)) (eq-eqb (b % 2) (b % 2) refl));
}

-- ---- two flows, with p packets of the first and q of the other
abbrev key : ℕ → Key
key b = b ∷ []

abbrev flows : ℕ → ℕ → List Key
flows x y = key x ∷ key y ∷ []

abbrev with : ℕ → ℕ → ℕ → Key → ℕ
with x p q k = cond (same_key k (key x)) p q

abbrev table : ℕ → ℕ → ℕ → ℕ → Table
table x y p q = encode 1 by_bits (flows x y) (with x p q)

two-flows : (x y p q : ℕ) → same_key (key x) (key y) ≡ false → 1 ≤ p → 1 ≤ q → FlowSet 1 (flows x y) (with x p q)
unfolding Distinct among
two-flows x y p q d a b = record {
  apart = (rw d, (refl, tt));
  sized = λ k m. elim (among_cases k (key x) (key y ∷ []) m) [
    | inl e ↦ ap length e
    | inr n ↦ elim (among_cases k (key y) [] n) [ inl e ↦ ap length e | inr o ↦ among_none k o ]
  ];
  some-packet = λ k m. elim (split (same_key k (key x))) [ inl e ↦ rw e a | inr e ↦ rw e b ];
}

-- a session of their table
since : (x y p q : ℕ) → FlowSet 1 (flows x y) (with x p q) → (later : List Call)
    → HandedSized 1 (calls bit_switch later (opened (table x y p q))) → Since 1 bit_switch (table x y p q) later
since x y p q fs later handed =
    record { placed = bits-placed; table = encoded-table 4 1 by_bits bits-placed (flows x y) (with x p q) fs; handed = handed }

-- what calls leave of it
abbrev after : Table → List Call → Session
after t later = calls bit_switch later (opened t)

-- ---- four examples, computed
-- flows 4 and 5, which share one cell
abbrev whole_table : Table
whole_table = table 4 5 5 7

-- flows 4 and 8, which share both
abbrev stuck_table : Table
stuck_table = table 4 8 5 7

-- flows 4 and 7, which share none
abbrev stray_table : Table
stray_table = table 4 7 5 5

abbrev settled : List Call
settled = settling ∷ []

-- flow 8 is handed over first
abbrev one_handed : List Call
one_handed = hand (key 8) ∷ settling ∷ []

-- flows 6 and 5 are, which were not counted
abbrev two_handed : List Call
two_handed = hand (key 6) ∷ hand (key 5) ∷ settling ∷ []

abbrev known : ℕ → ℕ → Bool → Record
known b n handed = record { key = key b; count = n; known = true; handed = handed }

-- what is listed, and the state; of the last also the state by 01's rule without 02 b
computed : (((after whole_table settled).list ≡ known 4 5 false ∷ known 5 7 false ∷ []) × ((report 4 (after whole_table settled)).state ≡ whole))
    × (((after stuck_table settled).list ≡ []) × ((report 4 (after stuck_table settled)).state ≡ stuck))
    × (((after stuck_table one_handed).list ≡ new_record true (key 8) ∷ new_record false (key 4) ∷ []) × ((report 4 (after stuck_table one_handed)).state ≡ short))
    × (((after stray_table two_handed).list ≡ known 6 5 true ∷ known 5 5 true ∷ []) × ((report 4 (after stray_table two_handed)).state ≡ stray)
    × ((report_before 4 (after stray_table two_handed)).state ≡ whole))
unfolding xor_bytes any_upto all_upto all_zero lowest number_upto same_key among sum_over encode_cell encode
    keys_of keys_where pure ready first has_empty_cell open_cells take_out with_count set_count
    after_step repeat peel_damaged peel_at peel count_damaged count_at count_step then_counts settle hand_answer hand_over call calls nothing_left report report_before by_bits
computed = ((refl, refl), (refl, refl), (refl, refl), (refl, refl, refl))

-- ---- whole
whole-flowset : FlowSet 1 (flows 4 5) (with 4 5 7)
whole-flowset = two-flows 4 5 5 7 (unfold same_key in refl) (omega arith) (omega arith)

whole-since : Since 1 bit_switch whole_table settled
unfolding keys_where
whole-since = since 4 5 5 7 whole-flowset settled (λ k m. among_none k (rw computed.0.0 at m))

-- Theorem: an instance. Flow 4 with 5 packets and flow 5 with 7 encode to these cells; settled they report whole; and whatever encodes to these
-- cells is these two flows with these packets
pub whole-met : EncodesTo 4 1 by_bits whole_table (flows 4 5) (with 4 5 7) × ((report 4 (after whole_table settled)).state ≡ whole)
    × ((F : List Key) (packets : Key → ℕ) → EncodesTo 4 1 by_bits whole_table F packets
    → ((k : Key) → among k F ≡ among k (flows 4 5)) × (packets (key 4) ≡ 5) × (packets (key 5) ≡ 7))
unfolding keys_of count_of same_key
whole-met = (
  encodes-own 4 1 by_bits bits-placed (flows 4 5) (with 4 5 7) whole-flowset,
  computed.0.1,
  λ F packets e.
      let x = whole-no-other 1 bit_switch whole_table settled whole-since computed.0.1 F packets e in
      let same : (k : Key) → among k F ≡ among k (flows 4 5) = λ k. rw computed.0.0 at (x.same-flows k) in
      let four : ◌≡◌ {A = Option ℕ} (some 5) (some (packets (key 4))) = rw computed.0.0 at (x.same-counts (key 4) (same (key 4) ∙ among-here (key 4) (key 5 ∷ []))) in
      let five : ◌≡◌ {A = Option ℕ} (some 7) (some (packets (key 5))) = rw computed.0.0 at (x.same-counts (key 5)
      (same (key 5) ∙ among_there (key 5) (key 4) (key 5 ∷ []) (among-here (key 5) []))) in
      (same, cc, cc),
)

-- ---- stuck
first-flowset : FlowSet 1 (flows 4 8) (with 4 5 7)
first-flowset = two-flows 4 8 5 7 (unfold same_key in refl) (omega arith) (omega arith)

first-encodes : EncodesTo 4 1 by_bits stuck_table (flows 4 8) (with 4 5 7)
first-encodes = encodes-own 4 1 by_bits bits-placed (flows 4 8) (with 4 5 7) first-flowset

second-cells : (c : ℕ) → c < 4 → table 16 28 3 9 c ≡ stuck_table c
unfolding xor_bytes same_key sum_over encode_cell encode by_bits
second-cells zero h = refl
second-cells (suc zero) h = refl
second-cells (suc (suc zero)) h = refl
second-cells (suc (suc (suc zero))) h = refl
second-cells (suc (suc (suc (suc c)))) h = absurd (omega arith)

second-encodes : EncodesTo 4 1 by_bits stuck_table (flows 16 28) (with 16 3 9)
second-encodes = record { flowset = two-flows 16 28 3 9 (unfold same_key in refl) (omega arith) (omega arith); cells = second-cells }

-- Theorem: two collections without a flow in common encode to the same cells; settled these report stuck
pub stuck-two : EncodesTo 4 1 by_bits stuck_table (flows 4 8) (with 4 5 7) × EncodesTo 4 1 by_bits stuck_table (flows 16 28) (with 16 3 9)
    × ((k : Key) → among k (flows 4 8) ≡ true → among k (flows 16 28) ≡ false) × ((report 4 (after stuck_table settled)).state ≡ stuck)
stuck-two = (first-encodes, second-encodes, apart, computed.1.1)
  where
    apart : (k : Key) → among k (flows 4 8) ≡ true → among k (flows 16 28) ≡ false
    apart k m = elim (among_cases k (key 4) (key 8 ∷ []) m) [
      | inl e ↦ rw e (unfold among same_key in refl)
      | inr n ↦ elim (among_cases k (key 8) [] n) [ inl e ↦ rw e (unfold among same_key in refl) | inr o ↦ among_none k o ]
    ]

-- Theorem: so of stuck the sentence is false
pub stuck-other : NoOtherWhere report stuck → ⊥
unfolding keys_where keys_of
stuck-other all =
    let handed : HandedSized 1 (after stuck_table settled) = λ k m. among_none k (rw computed.1.0 at m) in
    let x = all 1 bit_switch stuck_table settled (since 4 8 5 7 first-flowset settled handed) computed.1.1 (flows 4 8) (with 4 5 7) first-encodes in
    among_none (key 4) (sym (rw computed.1.0 at (x.same-flows (key 4))) ∙ among-here (key 4) (key 8 ∷ []))

-- ---- short: both flows are listed, and their packets are told apart in no cell
-- Theorem: nor is it true of short
pub short-other : NoOtherWhere report short → ⊥
unfolding keys_where count_of same_key
short-other all =
    let handed : HandedSized 1 (after stuck_table one_handed) = λ k m. elim (among_cases k (key 8) [] (rw computed.2.0 at m)) [
      | inl e ↦ ap length e
      | inr n ↦ among_none k n
    ] in
    let x = all 1 bit_switch stuck_table one_handed (since 4 8 5 7 first-flowset one_handed handed) computed.2.1 (flows 4 8) (with 4 5 7) first-encodes in
    let said : ◌≡◌ {A = Option ℕ} none (some 5) = rw computed.2.0 at (x.same-counts (key 4) (among-here (key 4) (key 8 ∷ []))) in
    let z : ◌≡◌ {A = ℕ} 0 1 = cc in
    omega arith

-- ---- stray: the flows handed over take the place of those counted, which have as many packets
stray-flowset : FlowSet 1 (flows 4 7) (with 4 5 5)
stray-flowset = two-flows 4 7 5 5 (unfold same_key in refl) (omega arith) (omega arith)

stray-since : Since 1 bit_switch stray_table two_handed
unfolding keys_where
stray-since = since 4 7 5 5 stray-flowset two_handed (λ k m. elim (among_cases k (key 6) (key 5 ∷ []) (rw computed.3.0 at m)) [
  | inl e ↦ ap length e
  | inr n ↦ elim (among_cases k (key 5) [] n) [ inl e ↦ ap length e | inr o ↦ among_none k o ]
])

-- 4 was counted and is not listed
stray-untrue : NoOther 4 1 by_bits stray_table (after stray_table two_handed) → ⊥
unfolding keys_of among same_key
stray-untrue all = clash refl
    (rw computed.3.0 at ((all (flows 4 7) (with 4 5 5) (encodes-own 4 1 by_bits bits-placed (flows 4 7) (with 4 5 5) stray-flowset)).same-flows (key 4)))

-- Theorem: nor of stray
pub stray-other : NoOtherWhere report stray → ⊥
stray-other all = stray-untrue (all 1 bit_switch stray_table two_handed stray-since computed.3.1)

-- Theorem: nor of whole by 01's rule, without 02 b
pub before-other : NoOtherWhere report_before whole → ⊥
before-other all = stray-untrue (all 1 bit_switch stray_table two_handed stray-since computed.3.2)
