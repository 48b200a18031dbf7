-- The order of work: what a call keeps of its salt, and a hash from there on.
use Rattle.std.specs.Prelude.{List, [], ◌∷◌, ◌++◌, ℕ}
use Rattle.laws.specs.BigEndian.{bytes_of}
use Rattle.hash.specs.declared.Salted.{Salted}
use Rattle.hash.specs.Fnv.{absorb, fnv}
use Rattle.hash.specs.Places.{filter_role, cell_role}

-- the state after salt and role
unfoldable pub after_role : ℕ → ℕ → ℕ
after_role salt role = fnv (bytes_of 4 salt ++ (role ∷ []))

-- the hash of index i and a key, from a state on
unfoldable pub hash_after : ℕ → ℕ → List ℕ → ℕ
hash_after h i key = absorb h (i ∷ key)

-- the two states of a salt
unfoldable pub after_salt : ℕ → Salted
after_salt salt = record { filter = record { state = after_role salt filter_role }; cells = record { state = after_role salt cell_role } }
