-- What a round's hand-overs need of the two sessions, and leave of them.
use Rattle.std.proofs.Common.{◌≡◌, refl, sym, ap, ap₂, subst, ◌∙◌, length, ℕ, ◌+◌, ◌*◌, ◌≤◌}
use native.Mathlib.Omega.{arith}
use Rattle.hash.specs.declared.Placing.{Placing}
use Rattle.layout.specs.declared.Layout.{Layout}
use Rattle.layout.specs.Sizes.{filter_bytes}
use Rattle.parts.specs.declared.Part.{Part}
use Rattle.parts.specs.Sides.{Switch, switch, Side, side, Stands, Given, hand_list, with_given}
use Rattle.parts.specs.Parts.{switch_in, side_in, given_in, PartKept, Takes}
use Rattle.parts.proofs.Kept.{filter-same}
use Rattle.rounds.specs.Rounds.{Pair, pair, settle_both, hand_both, round, rounds}
use Rattle.rounds.specs.Meets.{pair_in, Meets}
use Rattle.rounds.proofs.Steps.{Stand, given-stands, keys-within, listed-few}

-- a session that takes a list
takes : (p : Part) (l : Layout) (v : Switch) (from : Side) → p.placing.shape.layout ≡ l → length p.filter.now ≡ filter_bytes p.placing.shape.sizes
    → Stands l (switch_in p) (side_in p) → Stands l v from → Takes p from.list.keys from.listed
takes p l v from e f h g = record {
  steady = (subst (λ k. Stands k (switch_in p) (side_in p)) (sym e) h).steady;
  filter-fits = f;
  keys_in = subst (λ (k : Layout). from.listed * k.key ≤ length from.list.keys) (sym e) (keys-within l v from g);
  few = omega (arith, listed-few l v from g);
}

-- a session after hand-overs
side-given : (p q : Part) (n : ℕ) (o : Given) → given_in q n ≡ o → q.packets.now ≡ p.packets.now → side_in q ≡ with_given (side_in p) o
side-given p q n o e s = ap₂ (λ (g : Given) packets. side g.listed g.table packets g.list g.seen) e s

-- the same sessions, whatever is left of them, in their room
pub meets-kept : (a b a' b' : Part) → Meets a b → PartKept a' a → PartKept b' b
    → Stands a.placing.shape.layout (switch_in a) (side_in a') → Stands a.placing.shape.layout (switch_in b) (side_in b') → Meets a' b'
meets-kept a b a' b' h k m f g =
    let layout-a = ap (λ (x : Placing). x.shape.layout) k.20 in
    let layout-b = ap (λ (x : Placing). x.shape.layout) m.20 in
    record {
      layout-is = layout-b ∙ h.layout-is ∙ sym layout-a;
      filter-a = ap length (filter-same a a' k) ∙ h.filter-a ∙ ap (λ (x : Placing). filter_bytes x.shape.sizes) (sym k.20);
      filter-b = ap length (filter-same b b' m) ∙ h.filter-b ∙ ap (λ (x : Placing). filter_bytes x.shape.sizes) (sym m.20);
      stands-a = subst (λ (x : Placing). Stands x.shape.layout (switch x.shape.sizes x.salt) (side_in a')) (sym k.20) f;
      stands_b =
          subst (λ (x : Placing). Stands x.shape.layout (switch_in b') (side_in b')) (sym k.20)
          (subst (λ (x : Placing). Stands a.placing.shape.layout (switch x.shape.sizes x.salt) (side_in b')) (sym m.20) g);
    }

module _ (a b : Part) (h : Meets a b) where
  abbrev l : Layout
  l = a.placing.shape.layout

  abbrev A : Switch
  A = switch_in a

  abbrev B : Switch
  B = switch_in b

  pub start-stand : (n : ℕ) → Stand l A B (pair_in a b n)
  start-stand n = record { stands-a = h.stands-a; stands_b = h.stands_b }

  abbrev to_b : Given
  to_b = hand_list l B b.filter.now a.keys.now a.listed (side_in b)

  abbrev to_a : Given
  to_a = hand_list l A a.filter.now to_b.list.keys to_b.listed (side_in a)

  pub few-b : a.listed ≤ 3072
  few-b = listed-few l A (side_in a) h.stands-a

  pub takes-b : Takes b a.keys.now a.listed
  takes-b = takes b l A (side_in a) h.layout-is h.filter-b h.stands_b h.stands-a

  module _ (b' : Part) (x : ℕ) (e : given_in b' x ≡ hand_list b.placing.shape.layout B b.filter.now a.keys.now a.listed (side_in b))
      (s : b'.packets.now ≡ b.packets.now) where
    given_b : given_in b' x ≡ to_b
    given_b = e ∙ ap (λ k. hand_list k B b.filter.now a.keys.now a.listed (side_in b)) h.layout-is

    side-b : side_in b' ≡ with_given (side_in b) to_b
    side-b = side-given b b' x to_b given_b s

    stands-next : Stands l B (side_in b')
    stands-next = subst (Stands l B) (sym side-b) (given-stands l B b.filter.now (side_in a) A (side_in b) h.stands-a h.stands_b h.filter-b)

    pub few-a : b'.listed ≤ 3072
    few-a = listed-few l B (side_in b') stands-next

    pub takes-a : Takes a b'.keys.now b'.listed
    takes-a = takes a l B (side_in b') refl h.filter-a h.stands-a stands-next

    module _ (a' : Part) (y : ℕ) (e' : given_in a' y ≡ hand_list l A a.filter.now b'.keys.now b'.listed (side_in a))
        (s' : a'.packets.now ≡ a.packets.now) where
      given_a : given_in a' y ≡ to_a
      given_a = e' ∙ ap (λ (g : Given). hand_list l A a.filter.now g.list.keys g.listed (side_in a)) given_b

      side-a : side_in a' ≡ with_given (side_in a) to_a
      side-a = side-given a a' y to_a given_a s'

      pub handed-is : (n : ℕ) → pair_in a' b' (n + x + y) ≡ hand_both l A a.filter.now B b.filter.now (pair_in a b n)
      unfolding hand_both
      handed-is n = λ k. pair (side-a k) (side-b k) (n + (given_b k).twelves + (given_a k).twelves)

      pub handed-meets : PartKept a' a → PartKept b' b → Meets a' b'
      handed-meets k m =
          meets-kept a b a' b' h k m
          (subst (Stands l A) (sym side-a) (subst (λ (x : Side). Stands l A (with_given (side_in a) (hand_list l A a.filter.now x.list.keys x.listed (side_in a)))) side-b
          (given-stands l A a.filter.now (side_in b') B (side_in a) stands-next h.stands-a h.filter-a)))
          stands-next

-- what settling the same sessions does is the same
pub both-kept : (a b a' b' : Part) → PartKept a' a → PartKept b' b → (p : Pair)
    → settle_both a'.placing.shape.layout (switch_in a') (switch_in b') p ≡ settle_both a.placing.shape.layout (switch_in a) (switch_in b) p
both-kept a b a' b' k m p =
    ap₂ (λ (x y : Placing). settle_both x.shape.layout (switch x.shape.sizes x.salt) (switch y.shape.sizes y.salt) p) k.20 m.20

pub round-kept : (a b a' b' : Part) → PartKept a' a → PartKept b' b → (p : Pair)
    → round a'.placing.shape.layout (switch_in a') a'.filter.now (switch_in b') b'.filter.now p
    ≡ round a.placing.shape.layout (switch_in a) a.filter.now (switch_in b) b.filter.now p
round-kept a b a' b' k m p =
    ap₂ (λ (x y : Placing). round x.shape.layout (switch x.shape.sizes x.salt) a'.filter.now (switch y.shape.sizes y.salt) b'.filter.now p) k.20 m.20
    ∙ ap₂ (λ f g. round a.placing.shape.layout (switch_in a) f (switch_in b) g p) (filter-same a a' k) (filter-same b b' m)

pub rounds-kept : (a b a' b' : Part) → PartKept a' a → PartKept b' b → (n : ℕ) (p : Pair)
    → rounds n a'.placing.shape.layout (switch_in a') a'.filter.now (switch_in b') b'.filter.now p
    ≡ rounds n a.placing.shape.layout (switch_in a) a.filter.now (switch_in b) b.filter.now p
rounds-kept a b a' b' k m n p =
    ap₂ (λ (x y : Placing). rounds n x.shape.layout (switch x.shape.sizes x.salt) a'.filter.now (switch y.shape.sizes y.salt) b'.filter.now p) k.20 m.20
    ∙ ap₂ (λ f g. rounds n a.placing.shape.layout (switch_in a) f (switch_in b) g p) (filter-same a a' k) (filter-same b b' m)
