-- Chains beside each other.
use Rattle.std.specs.Prelude.{List, [], ◌∷◌, ℕ}
use Rattle.hash.specs.Fnv.{absorb}

-- each chain with the bytes absorbed
unfoldable pub absorb_all : List ℕ → List ℕ → List ℕ
absorb_all [] s = []
absorb_all (h ∷ hs) s = absorb h s ∷ absorb_all hs s
