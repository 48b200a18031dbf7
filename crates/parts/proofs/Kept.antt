-- The slices that are lent to a part stay the same.
use Rattle.std.proofs.Common.{◌≡◌, refl, sym, ap, subst, ◌∙◌, List, ℕ, Bor}
use Rattle.hash.specs.declared.Placing.{Placing}
use Rattle.list.specs.Records.{Records}
use Rattle.table.specs.Table.{Tab}
use Rattle.handing.specs.Hand.{hand_of, Hands}
use Rattle.parts.specs.declared.Part.{Part}
use Rattle.parts.specs.Parts.{PartKept}

pub kept-self : (p : Part) → PartKept p p
kept-self p = (
  refl,
  refl,
  refl,
  refl,
  refl,
  refl,
  refl,
  refl,
  refl,
  refl,
  refl,
  refl,
  refl,
  refl,
  refl,
  refl,
  refl,
  refl,
  refl,
  refl,
  refl,
  refl,
)

pub kept-on : (p q r : Part) → PartKept p q → PartKept q r → PartKept p r
kept-on p q r k m = (
  k.0 ∙ m.0,
  k.1 ∙ m.1,
  k.2 ∙ m.2,
  k.3 ∙ m.3,
  k.4 ∙ m.4,
  k.5 ∙ m.5,
  k.6 ∙ m.6,
  k.7 ∙ m.7,
  k.8 ∙ m.8,
  k.9 ∙ m.9,
  k.10 ∙ m.10,
  k.11 ∙ m.11,
  k.12 ∙ m.12,
  k.13 ∙ m.13,
  k.14 ∙ m.14,
  k.15 ∙ m.15,
  k.16 ∙ m.16,
  k.17 ∙ m.17,
  k.18 ∙ m.18,
  k.19 ∙ m.19,
  k.20 ∙ m.20,
  k.21 ∙ m.21,
)

module _ (p q : Part) (k : PartKept q p) where
  pub filter-same : q.filter.now ≡ p.filter.now
  filter-same = ap (λ (b : Bor (List ℕ)). b.now) k.21

  -- what a hand-over needs and does is the same
  pub kept-hands : (n handed : ℕ) (key : List ℕ) (t : Tab) (rs : Records) (seen : List ℕ)
      → Hands p.placing.shape.layout p.placing.shape.sizes p.placing.salt n handed key p.filter.now t rs seen
      → Hands q.placing.shape.layout q.placing.shape.sizes q.placing.salt n handed key q.filter.now t rs seen
  kept-hands n handed key t rs seen h =
      subst (λ (x : Placing). Hands x.shape.layout x.shape.sizes x.salt n handed key q.filter.now t rs seen) (sym k.20)
      (subst (λ f. Hands p.placing.shape.layout p.placing.shape.sizes p.placing.salt n handed key f t rs seen) (sym filter-same) h)

  pub kept-hand : (n : ℕ) (key : List ℕ) (t : Tab) (rs : Records) (seen : List ℕ)
      → hand_of q.placing.shape.layout q.placing.shape.sizes q.placing.salt n key q.filter.now t rs seen
      ≡ hand_of p.placing.shape.layout p.placing.shape.sizes p.placing.salt n key p.filter.now t rs seen
  kept-hand n key t rs seen =
      ap (λ (x : Placing). hand_of x.shape.layout x.shape.sizes x.salt n key q.filter.now t rs seen) k.20
      ∙ ap (λ f. hand_of p.placing.shape.layout p.placing.shape.sizes p.placing.salt n key f t rs seen) filter-same
