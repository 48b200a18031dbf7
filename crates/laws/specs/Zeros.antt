-- Lists of zeros.
use Rattle.std.specs.Prelude.{Bool, List, ℕ, eqb, length, get_or}
use Rattle.laws.specs.Upto.{all_upto}

-- whether every number of the list is 0
unfoldable pub all_zero : List ℕ → Bool
all_zero s = all_upto (length s) (λ i. eqb (get_or s i 0) 0)
