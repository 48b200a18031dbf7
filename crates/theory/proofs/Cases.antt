-- The ten cases of 01, computed from the definitions.
use mathlib.Core.Path.{◌≡◌, refl}
use Rattle.laws.specs.Xor.{xor_bytes}
use Rattle.laws.specs.Upto.{any_upto, all_upto, lowest, number_upto}
use Rattle.laws.specs.Zeros.{all_zero}
use Rattle.theory.specs.Encode.{same_key, among, sum_over, empty_table, encode_cell, encode}
use Rattle.theory.specs.Session.{keys_of, keys_where, pure, ready, first, has_empty_cell, open_cells, take_out, with_count, set_count, after_step, repeat, peel_damaged, peel_at, peel, count_damaged, count_at, count_step, then_counts, settle}
use Rattle.theory.specs.HandOver.{hand_answer, hand_over, call, calls}
use Rattle.theory.specs.Report.{nothing_left, report}
use Rattle.theory.specs.Cases.{placed_with, packets_in, one_cell, lines_of, standing, last_outcome, outcome, ten_cases, outcomes, results}

-- Theorem: each case has the result that the table says
pub ten-cases : outcomes ten_cases ≡ results ten_cases
unfolding xor_bytes any_upto all_upto all_zero lowest number_upto same_key among sum_over empty_table encode_cell encode
    keys_of keys_where pure ready first has_empty_cell open_cells take_out with_count set_count
    after_step repeat peel_damaged peel_at peel count_damaged count_at count_step then_counts settle hand_answer hand_over call calls nothing_left report
    placed_with packets_in one_cell lines_of standing last_outcome outcome outcomes results
ten-cases = refl
