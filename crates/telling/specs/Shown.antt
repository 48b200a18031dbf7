-- How a buffer is shown: a space, then its bytes in hexadecimal, or a dot where there are none.
use Rattle.std.specs.Prelude.{List, ℕ, [], ◌∷◌, ◌==◌, length, if◌then◌else◌}
use Rattle.hex.specs.Hex.{encode_lower}

abbrev pub shown : List ℕ → List ℕ
shown bytes = 32 ∷ (if length bytes == 0 then 46 ∷ [] else encode_lower bytes)
