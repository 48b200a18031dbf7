-- Off clean flowsets demand 3 is false, even where no 14 occurs.
use mathlib.Core.Path.{◌≡◌, refl}
use mathlib.Core.List.{[], ◌∷◌}
use Rattle.laws.specs.Xor.{xor_bytes}
use Rattle.laws.specs.Upto.{any_upto, all_upto, lowest, number_upto}
use Rattle.laws.specs.Zeros.{all_zero}
use Rattle.theory.specs.Encode.{same_key, among, sum_over}
use Rattle.theory.specs.Session.{keys_of, keys_where, pure, ready, first, has_empty_cell, open_cells, take_out, with_count, set_count, settled, after_step, repeat, peel_damaged, peel_at, peel, count_damaged, count_at, count_step, then_counts, settle}
use Rattle.theory.specs.HandOver.{hand, settling, hand_answer, hand_over, call, calls}
use Rattle.theory.specs.Report.{stray, nothing_left, report}
use Rattle.theory.specs.Unclean.{placed, table, End, ends}
use Prim.Native.Nat.{ℕ}

abbrev stray_with : (x y : ℕ) → End
stray_with x y = record { stop = settled; keys = (x ∷ []) ∷ (y ∷ []) ∷ []; state = stray }

-- settle, hand 2, settle lists 1 and 2; handing 2 first lists 2 and 6: both report stray
pub order-matters : (ends (settling ∷ hand (2 ∷ []) ∷ []) ≡ stray_with 1 2) × (ends (hand (2 ∷ []) ∷ []) ≡ stray_with 2 6)
unfolding xor_bytes any_upto all_upto all_zero lowest number_upto same_key among sum_over
    keys_of keys_where pure ready first has_empty_cell open_cells take_out with_count set_count
    after_step repeat peel_damaged peel_at peel count_damaged count_at count_step then_counts settle hand_answer hand_over call calls nothing_left report
    placed table ends
order-matters = (refl, refl)
