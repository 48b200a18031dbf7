-- Answer 13, which request l of document 02 takes out: 01 'A session', "13 is given before a peel, ahead of 14, when 2 N flows are listed".
-- No call gives it; these definitions say where it was given, so that it can be shown that no settling ever comes there.
use Rattle.std.specs.Prelude.{◌≡◌, Bool, false, ◌&&◌, List, ℕ, zero, suc, ◌*◌, ◌<◌, length, leb}
use Rattle.laws.specs.Upto.{any_upto}
use Rattle.theory.specs.Session.{Session, pure, repeat, peel_pure}
use Rattle.theory.specs.HandOver.{Switch}
use Rattle.theory.specs.Family.{Family, Way, hand_along, settle_upto, round_along}

-- after m peels of a settling of s a cell is pure, so that a peel would follow, and 2 N flows are listed
unfoldable pub meets13 : Switch → Session → ℕ → Bool
meets13 w s m =
    let t = (repeat (peel_pure w.size w.has) m s).state in
    any_upto w.size (pure w.has t.cells) && leb (2 * w.size) (length t.list)

-- no settling of s comes there
abbrev pub Never13 : Switch → Session → Type 0
Never13 w s = (m : ℕ) → meets13 w s m ≡ false

-- the sessions of an exchange after the settlings before its rounds and m rounds
unfoldable pub family_after : ℕ → (ℕ → Switch) → List Way → Family → ℕ → Family
family_after n W l p zero = (settle_upto W n p).family
family_after n W l p (suc m) = (round_along n W l (family_after n W l p m)).family

-- no settling of an exchange comes there: neither those before the rounds nor those of any round, each from what stands before it
pub record ExchangeNever13 (n : ℕ) (W : ℕ → Switch) (l : List Way) (p : Family) : Type 0 where
  pub at_first : (i : ℕ) → i < n → Never13 (W i) ((settle_upto W i p).family.session i)
  pub in-round : (m i : ℕ) → i < n → Never13 (W i) ((settle_upto W i (hand_along W l (family_after n W l p m))).family.session i)
