-- The tests of the call: what each answers, and what holds where all pass.
use mathlib.Core.Path.{◌≡◌, refl, ap, ◌∙◌}
use mathlib.Core.Logic.{inl, inr}
use mathlib.Core.Bool.{Bool, true, false, ◌&&◌}
use lib.Dec.{eqb}
use Rattle.laws.proofs.Bools.{split, and_l, and_r, clash}
use Rattle.layout.specs.declared.Layout.{Layout}
use Rattle.layout.specs.Sizes.{in_range}
use Rattle.test8.specs.Test8.{is_session}
use Rattle.room.specs.declared.Session.{Session}
use Rattle.room.specs.Memory.{Memory}
use Rattle.rounds.specs.Joined.{seam, room_end}
use Rattle.std.specs.Prelude.{Ok, Err}
use Rattle.exchange.specs.declared.ExchangeError.TheVariants.{NotSession, BadRoom, OtherSlot}
use Rattle.exchange.specs.Exchange.{Tested, areas_fit, room_a, room_b, exchange_test}

-- the test of 8 of a session in its room
abbrev pub test_of : Layout → Session → Memory → Bool
test_of l s m = is_session l s.sizes s.salt s.listed m.table m.list

-- what holds of two sessions and their room where the tests pass
pub record Passing (l : Layout) (s t : Session) (m : Memory) : Type 0 where
  pub ranged-a : in_range s.sizes ≡ true
  pub ranged-b : in_range t.sizes ≡ true
  pub fits : areas_fit (room_end l s.sizes t.sizes) m ≡ true
  pub session-a : test_of l s (room_a (seam l s.sizes) m) ≡ true
  pub session-b : test_of l t (room_b (seam l s.sizes) m) ≡ true
  pub slots : eqb s.slot t.slot ≡ true

abbrev pub is_passed : Tested → Bool
is_passed (Ok done) = true
is_passed (Err e) = false

module _ (l : Layout) (s t : Session) (m : Memory) where
  abbrev sizes : Bool
  sizes = in_range s.sizes && in_range t.sizes

  abbrev fit : Bool
  fit = areas_fit (room_end l s.sizes t.sizes) m

  abbrev in_a : Bool
  in_a = test_of l s (room_a (seam l s.sizes) m)

  abbrev in_b : Bool
  in_b = test_of l t (room_b (seam l s.sizes) m)

  pub tested-sizes : sizes ≡ false → exchange_test l s t m ≡ Err NotSession
  unfolding exchange_test
  tested-sizes y = rw y

  pub tested-room : sizes ≡ true → fit ≡ false → exchange_test l s t m ≡ Err BadRoom
  unfolding exchange_test
  tested-room y f = rw (y, f)

  pub tested-rest : sizes ≡ true → fit ≡ true → (in_a && in_b) ≡ false → exchange_test l s t m ≡ Err NotSession
  unfolding exchange_test
  tested-rest y f r = rw (y, f, r)

  pub tested-slot : sizes ≡ true → fit ≡ true → (in_a && in_b) ≡ true → eqb s.slot t.slot ≡ false → exchange_test l s t m ≡ Err OtherSlot
  unfolding exchange_test
  tested-slot y f r e = rw (y, f, r, e)

  pub tested-passed : sizes ≡ true → fit ≡ true → (in_a && in_b) ≡ true → eqb s.slot t.slot ≡ true → exchange_test l s t m ≡ Ok tt
  unfolding exchange_test
  tested-passed y f r e = rw (y, f, r, e)

  -- it does not answer both Passed and another
  other : {A : Type 0} {r : Tested} → exchange_test l s t m ≡ Ok tt → exchange_test l s t m ≡ r → is_passed r ≡ false → A
  other h e f = clash (ap is_passed h) (ap is_passed e ∙ f)

  passing : sizes ≡ true → fit ≡ true → (in_a && in_b) ≡ true → eqb s.slot t.slot ≡ true → Passing l s t m
  passing y f r e =
      record {
        ranged-a = and_l (in_range s.sizes) (in_range t.sizes) y;
        ranged-b = and_r (in_range s.sizes) (in_range t.sizes) y;
        fits = f;
        session-a = and_l in_a in_b r;
        session-b = and_r in_a in_b r;
        slots = e;
      }

  pub passed : exchange_test l s t m ≡ Ok tt → Passing l s t m
  passed h =
      elim (split sizes) [
        | inr y ↦ other h (tested-sizes y) refl
        | inl y ↦ elim (split fit) [
          | inr f ↦ other h (tested-room y f) refl
          | inl f ↦ elim (split (in_a && in_b)) [
            | inr r ↦ other h (tested-rest y f r) refl
            | inl r ↦ elim (split (eqb s.slot t.slot)) [
              | inr e ↦ other h (tested-slot y f r e) refl
              | inl e ↦ passing y f r e
            ]
          ]
        ]
      ]
