-- Off the test of 8 a settling does come where 13 was given: so that it never does on a session that passes says something.
use mathlib.Core.Path.{◌≡◌, refl}
use mathlib.Core.Bool.{true, false}
use mathlib.Core.List.{[], ◌∷◌}
use lib.Dec.{eqb}
use lib.ListN.{get_or}
use Rattle.laws.specs.Upto.{any_upto, lowest}
use Rattle.theory.specs.Encode.{same_key, among}
use Rattle.theory.specs.Session.{Session, keys_of, pure, has_empty_cell, new_record, take_out, after_step, repeat, peel_damaged, peel_at, peel}
use Rattle.theory.specs.HandOver.{Switch}
use Rattle.theory.specs.Thirteen.{meets13}

-- two cells; a key's byte says which it has
abbrev pair : Switch
pair = record { size = 2; has = λ k c. eqb (get_or k 0 0) c; passes = λ k. true }

-- both are pure, and three flows are listed, all handed over: more than N
abbrev crowded : Session
crowded = record {
  cells = λ c. record { flow_xor = c ∷ []; flow_count = 1; packet_count = 1 };
  list = new_record true (7 ∷ []) ∷ new_record true (8 ∷ []) ∷ new_record true (9 ∷ []) ∷ [];
}

-- Theorem: a settling comes there, not before its first peel but before its second
pub crowded-meets-13 : (meets13 pair crowded 0 ≡ false) × (meets13 pair crowded 1 ≡ true)
unfolding meets13 repeat after_step peel peel_at peel_damaged has_empty_cell take_out any_upto lowest pure keys_of among same_key
crowded-meets-13 = (refl, refl)
