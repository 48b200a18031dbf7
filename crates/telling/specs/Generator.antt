-- The numbers that fill buffers in tests: tests/PROTOCOL.md, "A generator x := x * 1664525 + 1013904223 modulo 2^32".
use Rattle.std.specs.Prelude.{List, ℕ, ◌+◌, ◌*◌, ◌/◌, ◌%◌, ◌^◌}
use Rattle.laws.specs.Upto.{each_upto, list_upto}

unfoldable pub next_number : ℕ → ℕ
next_number x = (x * 1664525 + 1013904223) % 2 ^ 32

-- the generator's state after n numbers
unfoldable pub after_numbers : ℕ → ℕ → ℕ
after_numbers n seed = each_upto n (λ i x. next_number x) seed

-- so many bytes of it: "its high byte for each byte"
unfoldable pub random_bytes : ℕ → ℕ → List ℕ
random_bytes n seed = list_upto n (λ i. after_numbers (i + 1) seed / 2 ^ 24)
