-- What a whole report says of the session that it counts: no FlowCount above 0, no unknown count, nothing left in the cells; so nothing is left to do.
use mathlib.Core.Path.{◌≡◌, refl}
use mathlib.Core.Logic.{inl, inr}
use mathlib.Core.Bool.{Bool, true, false, ◌&&◌}
use mathlib.Core.List.{List, [], ◌∷◌}
use Prim.Native.Nat.{ℕ, ◌<◌}
use native.Mathlib.Omega.{arith}
use lib.ListN.{length}
use lib.Dec.{eqb, ltb}
use borrow.Author.Tests.{eqb-true, ltb-false}
use Rattle.laws.specs.Zeros.{all_zero}
use Rattle.laws.proofs.Bools.{split, clash, and_l, and_r}
use Rattle.laws.proofs.Lowest.{number-zero}
use Rattle.laws.proofs.Upto.{all-at}
use Rattle.theory.specs.Encode.{Key, among, Table, Placement}
use Rattle.theory.specs.Session.{Record, Session, unknowns_of, unknown, open_cells, pure, ready}
use Rattle.theory.specs.Report.{whole, nothing_left, state_of, report}
use Rattle.theory.specs.Runs.{AtRest}
use Rattle.theory.proofs.Single.{pure-one}
use Rattle.theory.proofs.Steps.{ready-names}

-- where no cell is open, every FlowCount is 0
pub none_open : (n : ℕ) (t : Table) → open_cells n t ≡ 0 → (c : ℕ) → c < n → (t c).flow_count ≡ 0
unfolding open_cells
none_open n t = number-zero n (λ c. (t c).flow_count)

-- where no count is unknown, none of a key is
pub none-unknown : (list : List Record) → length (unknowns_of list) ≡ 0 → (k : Key) → among k (unknowns_of list) ≡ false
none-unknown list e k = go (unknowns_of list) e
  where
    go : (l : List Key) → length l ≡ 0 → among k l ≡ false
    go [] e = unfold among in refl
    go (x ∷ l) e = absurd (omega arith)

-- whole: no cell is open, no count is unknown, and nothing is left
pub whole-only : (opens unknowns : ℕ) (nothing : Bool) → state_of opens unknowns nothing ≡ whole → (opens ≡ 0) × (unknowns ≡ 0) × (nothing ≡ true)
whole-only opens unknowns nothing z = elim (split (ltb 0 opens)) [
  | inl a ↦ absurd (let h = rw a at z in let q : ◌≡◌ {A = ℕ} 0 1 = cc in omega arith)
  | inr a ↦ elim (split (ltb 0 unknowns)) [
    | inl b ↦ absurd (let h = rw (a, b) at z in let q : ◌≡◌ {A = ℕ} 0 1 = cc in omega arith)
    | inr b ↦ elim (split nothing) [
      | inr d ↦ absurd (let h = rw (a, b, d) at z in let q : ◌≡◌ {A = ℕ} 0 1 = cc in omega arith)
      | inl d ↦ (omega (arith, ltb-false 0 opens a), omega (arith, ltb-false 0 unknowns b), d)
    ]
  ]
]

module _ (n : ℕ) (s : Session) (z : (report n s).state ≡ whole) where
  whole_says : (open_cells n s.cells ≡ 0) × (length (unknowns_of s.list) ≡ 0) × (nothing_left n s.cells ≡ true)
  unfolding report
  whole_says = whole-only (open_cells n s.cells) (length (unknowns_of s.list)) (nothing_left n s.cells) z

  pub whole-known : (k : Key) → unknown s k ≡ false
  whole-known = none-unknown s.list whole_says.1

  pub whole-flows : (c : ℕ) → c < n → (s.cells c).flow_count ≡ 0
  whole-flows = none_open n s.cells whole_says.0

  nothing-at : (c : ℕ) → c < n → (all_zero (s.cells c).flow_xor && eqb (s.cells c).packet_count 0) ≡ true
  unfolding nothing_left
  nothing-at = all-at n (λ c. all_zero (s.cells c).flow_xor && eqb (s.cells c).packet_count 0) whole_says.2

  pub whole-xors : (c : ℕ) → c < n → all_zero (s.cells c).flow_xor ≡ true
  whole-xors c h = and_l (all_zero (s.cells c).flow_xor) (eqb (s.cells c).packet_count 0) (nothing-at c h)

  pub whole-packets : (c : ℕ) → c < n → (s.cells c).packet_count ≡ 0
  whole-packets c h = eqb-true (s.cells c).packet_count 0 (and_r (all_zero (s.cells c).flow_xor) (eqb (s.cells c).packet_count 0) (nothing-at c h))

  -- no cell is pure, and none ready
  pub whole-rests : (has : Placement) → AtRest n has s
  whole-rests has = record {
    none-pure = λ c h. elim (split (pure has s.cells c)) [
      | inl p ↦ absurd (omega (arith, pure-one has s c p, whole-flows c h))
      | inr p ↦ p
    ];
    none-ready = λ c h. elim (split (ready has s c)) [
      | inl p ↦ clash (ready-names n has s c p) (whole-known _)
      | inr p ↦ p
    ];
  }
