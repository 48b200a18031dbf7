-- The form of a block, fact by fact.
use mathlib.Core.Path.{◌≡◌, refl, ap, ◌∙◌}
use mathlib.Core.Bool.{true, ◌&&◌, ◌||◌}
use mathlib.Core.List.{List}
use Prim.Native.Nat.{ℕ}
use borrow.Author.Tests.{eqb-true, eq-eqb}
use lib.Dec.{eqb, ltb}
use lib.ListN.{get_or, take, drop}
use Rattle.laws.proofs.Bools.{and_l, and_r}
use Rattle.layout.specs.declared.Layout.{Layout}
use Rattle.layout.specs.declared.Sizes.{Sizes}
use Rattle.laws.specs.Zeros.{all_zero}
use Rattle.fields.specs.Field.{field}
use Rattle.form.specs.Form.{sizes_in, same_sizes, kind_of, cells_formed, formed}

pub record Formed (l : Layout) (z : Sizes) (n : ℕ) (b : List ℕ) : Type 0 where
  pub kind : get_or b 0 0 ≡ kind_of l z n
  pub sizes : sizes_in b ≡ z
  pub five : get_or b 5 0 ≡ 0
  pub number : field 2 b 6 ≡ n
  pub zeros : all_zero (take 12 (drop 496 b)) ≡ true
  pub cells : (ltb n z.f || cells_formed l (take 480 (drop 16 b))) ≡ true

four : {a b c d a' b' c' d' : ℕ} → a ≡ a' → b ≡ b' → c ≡ c' → d ≡ d'
    → ◌≡◌ {A = Sizes} (record { kf = a; f = b; k = c; q = d }) (record { kf = a'; f = b'; k = c'; q = d' })
four p q r s = rw (p, q, r, s)

pub sizes-same : (y z : Sizes) → same_sizes y z ≡ true → y ≡ z
sizes-same y z h =
    let a = eqb y.kf z.kf in
    let b = eqb y.f z.f in
    let c = eqb y.k z.k in
    let d = eqb y.q z.q in
    let after-a = and_r a (b && (c && d)) h in
    let after-b = and_r b (c && d) after-a in
    four (eqb-true y.kf z.kf (and_l a (b && (c && d)) h)) (eqb-true y.f z.f (and_l b (c && d) after-a))
    (eqb-true y.k z.k (and_l c d after-b)) (eqb-true y.q z.q (and_r c d after-b))

pub same-sizes : (z : Sizes) → same_sizes z z ≡ true
same-sizes z = rw (eq-eqb z.kf z.kf refl, eq-eqb z.f z.f refl, eq-eqb z.k z.k refl, eq-eqb z.q z.q refl)

pub is-formed : (l : Layout) (z : Sizes) (n : ℕ) (b : List ℕ) → Formed l z n b → formed l z n b ≡ true
unfolding formed
is-formed l z n b h =
    rw (
      h.kind,
      eq-eqb (kind_of l z n) (kind_of l z n) refl,
      ap (λ y. same_sizes y z) h.sizes ∙ same-sizes z,
      eq-eqb _ _ h.five,
      eq-eqb _ _ h.number,
      h.zeros,
    )
    h.cells

pub form-facts : (l : Layout) (z : Sizes) (n : ℕ) (b : List ℕ) → formed l z n b ≡ true → Formed l z n b
unfolding formed
form-facts l z n b h =
    let p₁ = eqb (get_or b 0 0) (kind_of l z n) in
    let p₂ = same_sizes (sizes_in b) z in
    let p₃ = eqb (get_or b 5 0) 0 in
    let p₄ = eqb (field 2 b 6) n in
    let p₅ = all_zero (take 12 (drop 496 b)) in
    let p₆ = ltb n z.f || cells_formed l (take 480 (drop 16 b)) in
    let h₂ = and_r p₁ (p₂ && (p₃ && (p₄ && (p₅ && p₆)))) h in
    let h₃ = and_r p₂ (p₃ && (p₄ && (p₅ && p₆))) h₂ in
    let h₄ = and_r p₃ (p₄ && (p₅ && p₆)) h₃ in
    let h₅ = and_r p₄ (p₅ && p₆) h₄ in
    record {
      kind = eqb-true (get_or b 0 0) (kind_of l z n) (and_l p₁ (p₂ && (p₃ && (p₄ && (p₅ && p₆)))) h);
      sizes = sizes-same (sizes_in b) z (and_l p₂ (p₃ && (p₄ && (p₅ && p₆))) h₂);
      five = eqb-true (get_or b 5 0) 0 (and_l p₃ (p₄ && (p₅ && p₆)) h₃);
      number = eqb-true (field 2 b 6) n (and_l p₄ (p₅ && p₆) h₄);
      zeros = and_l p₅ p₆ h₅;
      cells = and_r p₅ p₆ h₅;
    }
