-- The number of unknown flows in a cell and the XOR of their positions, as the list changes; one unknown flow stands at that XOR.
use mathlib.Core.Path.{◌≡◌, refl, sym, ap, ap₂, subst, ◌∙◌}
use mathlib.Core.Logic.{inl, inr}
use mathlib.Core.Bool.{Bool, true, false, not, cond, ◌&&◌}
use mathlib.Core.List.{List, [], ◌∷◌, ◌++◌}
use Prim.Native.Nat.{ℕ, zero, suc, ◌+◌, ◌<◌}
use native.Mathlib.Omega.{arith}
use lib.Bits.{bit_xor, xor_zero_r}
use lib.ListN.{length, get_or}
use Rattle.laws.proofs.Bools.{split, or-fl, or-fr}
use Rattle.laws.proofs.Xor.{xor_assoc, xor-swap, xor-undo}
use Rattle.theory.specs.Encode.{Key, same_key, among, Distinct, sum_over, count}
use Rattle.theory.specs.Session.{Record, keys_of, keys_where, unknowns_of, first, new_record, told_record, with_count}
use Rattle.theory.specs.Notes.{positions_from, tell_at}
use Rattle.theory.proofs.Flow.{same_refl, same-flip, among-here, among_there, among-other}

-- no record stands past the list
abbrev blank : Record
blank = new_record false []

-- ---- one record appended
pub positions-append : (P : Key → Bool) (i : ℕ) (rs : List Record) (flag : Bool) (x : Key)
    → positions_from P i (rs ++ (new_record flag x ∷ [])) ≡ bit_xor (positions_from P i rs) (cond (P x) (i + length rs) 0)
unfolding positions_from
positions-append P i [] flag x = elim (split (P x)) [ inl p ↦ rw p (xor_zero_r i ∙ omega arith) | inr p ↦ rw p ]
positions-append P i (r ∷ rs) flag x =
    let ih : positions_from P (suc i) (rs ++ (new_record flag x ∷ [])) ≡ bit_xor (positions_from P (suc i) rs) (cond (P x) (i + suc (length rs)) 0)
    = positions-append P (suc i) rs flag x ∙ ap (λ t. bit_xor (positions_from P (suc i) rs) (cond (P x) t 0)) (omega arith) in
    elim (split (not r.known && P r.key)) [
      | inl p ↦ rw (p, ih) (sym (xor_assoc i (positions_from P (suc i) rs) (cond (P x) (i + suc (length rs)) 0)))
      | inr p ↦ rw p ih
    ]

-- ---- the one unknown flow that passes
positions-none : (P : Key → Bool) (i : ℕ) (rs : List Record) → count P (unknowns_of rs) ≡ 0 → positions_from P i rs ≡ 0
unfolding positions_from keys_where sum_over
positions-none P i [] z = refl
positions-none P i (r ∷ rs) z = elim (split r.known) [
  | inl q ↦ rw q (positions-none P (suc i) rs (rw q at z))
  | inr q ↦ elim (split (P r.key)) [
    | inl p ↦ absurd (let h = rw (q, p) at z in omega arith)
    | inr p ↦ rw (q, p) (positions-none P (suc i) rs (rw (q, p) at z))
  ]
]

pub record Stands (P : Key → Bool) (i : ℕ) (rs : List Record) (j : ℕ) : Type 0 where
  pub place : positions_from P i rs ≡ i + j
  pub below : j < length rs
  pub key-there : (get_or rs j blank).key ≡ first P (unknowns_of rs)
  pub unknown-there : (get_or rs j blank).known ≡ false

pub positions-one : (P : Key → Bool) (i : ℕ) (rs : List Record) → count P (unknowns_of rs) ≡ 1 → (j : ℕ) × Stands P i rs j
unfolding positions_from keys_where sum_over first
positions-one P i [] z = absurd (omega arith)
positions-one P i (r ∷ rs) z = elim (split r.known) [
  | inl q ↦ (let t = positions-one P (suc i) rs (rw q at z) in let a = t.1.place in let b = t.1.below in (
    suc t.0,
    record {
      place = rw q (omega arith);
      below = omega arith;
      key-there = rw q t.1.key-there;
      unknown-there = t.1.unknown-there;
    },
  ))
  | inr q ↦ elim (split (P r.key)) [
    | inl p ↦ (
      0,
      record {
        place = rw (q, p, positions-none P (suc i) rs (let h = rw (q, p) at z in omega arith)) (xor_zero_r i ∙ omega arith);
        below = omega arith;
        key-there = rw (q, p);
        unknown-there = q;
      },
    )
    | inr p ↦ (let t = positions-one P (suc i) rs (rw (q, p) at z) in let a = t.1.place in let b = t.1.below in (
      suc t.0,
      record {
        place = rw (q, p) (omega arith);
        below = omega arith;
        key-there = rw (q, p) t.1.key-there;
        unknown-there = t.1.unknown-there;
      },
    ))
  ]
]

-- ---- a count made known is one write
key-among : (rs : List Record) (j : ℕ) → j < length rs → among (get_or rs j blank).key (keys_of rs) ≡ true
unfolding keys_of
key-among [] j h = absurd (omega arith)
key-among (r ∷ rs) zero h = among-here r.key (keys_of rs)
key-among (r ∷ rs) (suc j) h = among_there (get_or rs j blank).key r.key (keys_of rs) (key-among rs j (omega arith))

with_count-none : (x : Key) (v : ℕ) (rs : List Record) → among x (keys_of rs) ≡ false → with_count x v rs ≡ rs
unfolding with_count keys_of among
with_count-none x v [] m = refl
with_count-none x v (r ∷ rs) m = rw (
  same-flip x r.key (or-fl (same_key x r.key) (among x (keys_of rs)) m),
  with_count-none x v rs (or-fr (same_key x r.key) (among x (keys_of rs)) m),
)

first-told : (v : ℕ) (r : Record) (rs : List Record) → among r.key (keys_of rs) ≡ false → with_count r.key v (r ∷ rs) ≡ tell_at zero v (r ∷ rs)
unfolding with_count tell_at
first-told v r rs m = ap₂ (λ one rest. cond one (told_record r v) r ∷ rest) (same_refl r.key) (with_count-none r.key v rs m)

pub with_count-at : (x : Key) (v : ℕ) (rs : List Record) → Distinct (keys_of rs) → (j : ℕ) → j < length rs → (get_or rs j blank).key ≡ x
    → with_count x v rs ≡ tell_at j v rs
unfolding with_count keys_of Distinct tell_at
with_count-at x v [] d j h e = absurd (omega arith)
with_count-at x v (r ∷ rs) d zero h e = subst (λ y. with_count y v (r ∷ rs) ≡ tell_at zero v (r ∷ rs)) e (first-told v r rs d.0)
with_count-at x v (r ∷ rs) d (suc j) h e =
    rw (
      same-flip x r.key (among-other x r.key (keys_of rs) (sym (ap (λ t. among t (keys_of rs)) e) ∙ key-among rs j (omega arith)) d.0),
      with_count-at x v rs d.1 j (omega arith) e,
    )

-- ---- one unknown flow less, and its position XORed out
module _ (P : Key → Bool) (v : ℕ) where
  pub count-told : (rs : List Record) (j : ℕ) → j < length rs → (get_or rs j blank).known ≡ false
      → count P (unknowns_of rs) ≡ cond (P (get_or rs j blank).key) 1 0 + count P (unknowns_of (tell_at j v rs))
  unfolding keys_where sum_over tell_at
  count-told [] j h o = absurd (omega arith)
  count-told (r ∷ rs) zero h o = elim (split (P r.key)) [
    | inl p ↦ rw (o, p)
    | inr p ↦ rw (o, p) (omega arith)
  ]
  count-told (r ∷ rs) (suc j) h o = let ih = count-told rs j (omega arith) o in elim (split r.known) [
    | inl q ↦ rw q ih
    | inr q ↦ elim (split (P r.key)) [ inl p ↦ rw (q, p) (omega arith) | inr p ↦ rw (q, p) ih ]
  ]

  pub positions-told : (i : ℕ) (rs : List Record) (j : ℕ) → j < length rs → (get_or rs j blank).known ≡ false
      → positions_from P i (tell_at j v rs) ≡ bit_xor (cond (P (get_or rs j blank).key) (i + j) 0) (positions_from P i rs)
  unfolding positions_from tell_at
  positions-told i [] j h o = absurd (omega arith)
  positions-told i (r ∷ rs) zero h o = elim (split (P r.key)) [
    | inl p ↦ rw (o, p) (sym (ap (λ t. bit_xor t (bit_xor i (positions_from P (suc i) rs))) (let z : i + 0 ≡ i = omega arith in z)
        ∙ xor-undo i (positions_from P (suc i) rs)))
    | inr p ↦ rw (o, p)
  ]
  positions-told i (r ∷ rs) (suc j) h o =
      let x = (get_or rs j blank).key in
      let ih : positions_from P (suc i) (tell_at j v rs) ≡ bit_xor (cond (P x) (i + suc j) 0) (positions_from P (suc i) rs)
      = positions-told (suc i) rs j (omega arith) o ∙ ap (λ t. bit_xor (cond (P x) t 0) (positions_from P (suc i) rs)) (omega arith) in
      elim (split (not r.known && P r.key)) [
        | inl p ↦ rw (p, ih) (xor-swap i (cond (P x) (i + suc j) 0) (positions_from P (suc i) rs))
        | inr p ↦ rw p ih
      ]
