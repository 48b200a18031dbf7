-- Opening gives a session that passes the test of 8, and every call leaves one.
use mathlib.Core.Path.{◌≡◌, refl, sym, ap, ◌∙◌, subst}
use mathlib.Core.Logic.{inl, inr}
use mathlib.Core.Bool.{Bool, true, false}
use mathlib.Core.List.{List, [], ◌∷◌, ◌++◌}
use Prim.Native.Nat.{ℕ, ◌≤◌}
use Rattle.laws.proofs.Bools.{split, clash}
use Rattle.theory.specs.Encode.{Key, same_key, Distinct, Placement}
use Rattle.theory.specs.Session.{Record, Session, keys_of, new_record, take_out, with_count, set_count, next, peel_pure, count_step, settle}
use Rattle.theory.specs.HandOver.{Switch, hand_over}
use Rattle.theory.specs.Fits.{Fits}
use Rattle.theory.specs.Notes.{Noted, noted, map_result, settle_noted, hand_noted}
use Rattle.theory.specs.Proper.{CountsPositive, Proper}
use Rattle.theory.proofs.Records.{take-distinct}
use Rattle.theory.proofs.Steps.{fits-length, peel-next, peel-fits, count_next, count-positive, count_fits}
use Rattle.theory.proofs.Settle.{settle-keeps}
use Rattle.theory.proofs.HandOver.{hand-keeps, hand-fits}
use Rattle.theory.proofs.Noted.{distinct-peel, distinct-count, settle-noted, hand-noted}

-- ---- the counts stay positive
positive-append : (rs : List Record) (flag : Bool) (x : Key) → CountsPositive rs → CountsPositive (rs ++ (new_record flag x ∷ []))
unfolding CountsPositive
positive-append [] flag x h = (λ p. clash p refl, tt)
positive-append (r ∷ rs) flag x h = (h.0, positive-append rs flag x h.1)

positive-count : (x : Key) (v : ℕ) → 1 ≤ v → (rs : List Record) → CountsPositive rs → CountsPositive (with_count x v rs)
unfolding CountsPositive with_count
positive-count x v p [] h = tt
positive-count x v p (r ∷ rs) h = elim (split (same_key r.key x)) [
  | inl q ↦ rw q ((λ _. p), positive-count x v p rs h.1)
  | inr q ↦ rw q (h.0, positive-count x v p rs h.1)
]

pub positive-take : (has : Placement) (flag : Bool) (x : Key) (s : Session) → CountsPositive s.list → CountsPositive (take_out has flag x s).list
unfolding take_out
positive-take has flag x s = positive-append s.list flag x

pub positive-set : (has : Placement) (x : Key) (v : ℕ) → 1 ≤ v → (s : Session) → CountsPositive s.list → CountsPositive (set_count has x v s).list
unfolding set_count
positive-set has x v p s = positive-count x v p s.list

-- ---- a session without its notes
record Sound (n : ℕ) (s : Session) : Type 0 where
  pub apart : Distinct (keys_of s.list)
  pub positive : CountsPositive s.list
  pub fits : Fits n s

proper-of : (n : ℕ) (has : Placement) (s : Session) → Sound n s → Proper n has (noted has s)
proper-of n has s o = record { room = fits-length n s o.fits; apart = o.apart; positive = o.positive; fits = o.fits; right = refl }

of-proper : (n : ℕ) (has : Placement) (t : Noted) → Proper n has t → Sound n t.session
of-proper n has t p = record { apart = p.apart; positive = p.positive; fits = p.fits }

proper-noted : (n : ℕ) (has : Placement) (t : Noted) → Proper n has t → t ≡ noted has t.session
proper-noted n has t p = ap (λ m. record { session = t.session; notes = m }) p.right

module _ (n : ℕ) (has : Placement) where
  peel-proper : (s t : Session) → Sound n s → peel_pure n has s ≡ next t → Sound n t
  peel-proper s t o e = record {
    apart = distinct-peel n has s t o.apart e;
    positive = rw (peel-next n has _ s t e).result (positive-take has false _ s o.positive);
    fits = peel-fits n has s t o.fits e;
  }

  count-proper : (s t : Session) → Sound n s → count_step n has s ≡ next t → Sound n t
  count-proper s t o e =
      let p = count_next n has s t e in
      record {
        apart = distinct-count n has s t o.apart e;
        positive = rw p.result (positive-set has _ _ (count-positive n has s _ _ p.sound) s o.positive);
        fits = count_fits n has s t o.fits e;
      }

  module _ (t : Noted) (p : Proper n has t) where
    -- Theorem: on a session that passes, settling by the marks is settling by looking through all cells
    pub proper-settles : settle_noted n has t ≡ map_result (noted has) (settle n has t.session)
    proper-settles = ap (settle_noted n has) (proper-noted n has t p) ∙ settle-noted n has t.session p.apart

    -- Theorem: and it leaves a session that passes
    pub settle-proper : Proper n has (settle_noted n has t).state
    settle-proper = subst (λ r. Proper n has r.state) (sym proper-settles)
        (proper-of n has (settle n has t.session).state
        (settle-keeps n has (Sound n) peel-proper count-proper t.session (of-proper n has t p)))

-- Theorem: and so does a hand-over
module _ (w : Switch) (x : Key) (t : Noted) (p : Proper w.size w.has t) where
  pub proper-hands : hand_noted w x t ≡ noted w.has (hand_over w x t.session)
  proper-hands = ap (hand_noted w x) (proper-noted w.size w.has t p) ∙ hand-noted w x t.session

  pub hand-proper : Proper w.size w.has (hand_noted w x t)
  hand-proper = subst (Proper w.size w.has) (sym proper-hands) (proper-of w.size w.has (hand_over w x t.session)
      (hand-keeps w (Sound w.size) (peel-proper w.size w.has) (count-proper w.size w.has)
      (λ y s a o. record {
        apart = take-distinct w.has true y s o.apart a.unlisted;
        positive = positive-take w.has true y s o.positive;
        fits = hand-fits w y s a o.fits;
      })
      x t.session (of-proper w.size w.has t p)))
