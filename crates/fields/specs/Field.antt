-- Fields of byte lists: 01 'Blocks of 512 bytes', "Numbers are high byte first".
use Rattle.std.specs.Prelude.{List, ℕ, length, take, drop}
use Rattle.std.proofs.lemmas.List.Edits.{sets}
use Rattle.laws.specs.BigEndian.{bytes_of, number_of}
use Rattle.laws.specs.Xor.{xor_bytes}

-- the number in the n bytes from place `at` on
unfoldable pub field : ℕ → List ℕ → ℕ → ℕ
field n s at = number_of (take n (drop at s))

-- the list with a number in the n bytes from place `at` on
unfoldable pub with_field : ℕ → List ℕ → ℕ → ℕ → List ℕ
with_field n s at x = sets s at (bytes_of n x)

-- the list with a run of bytes XORed into those from place `at` on
unfoldable pub xored_at : List ℕ → ℕ → List ℕ → List ℕ
xored_at s at bytes = sets s at (xor_bytes (take (length bytes) (drop at s)) bytes)
