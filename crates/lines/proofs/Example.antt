-- 01 'Printing program': "Slot 7, salt 9, an empty flowset prints exactly: `7 9 0 0 0 whole`".
use mathlib.Core.Path.{◌≡◌, refl}
use mathlib.Core.List.{[], ◌∷◌}
use Rattle.laws.specs.Upto.{lowest}
use Rattle.summary.specs.declared.State.TheVariants.{Whole}
use Rattle.lines.specs.Text.{width, digits, decimal, followed, report_text, head_line}

pub example : head_line 7 9 (record { listed = 0; counted = 0; opens = 0; state = Whole })
    ≡ 55 ∷ 32 ∷ 57 ∷ 32 ∷ 48 ∷ 32 ∷ 48 ∷ 32 ∷ 48 ∷ 32 ∷ 119 ∷ 104 ∷ 111 ∷ 108 ∷ 101 ∷ 10 ∷ []
unfolding head_line report_text followed decimal digits width lowest
example = refl
