-- Filter bits: 01 'Blocks of 512 bytes', "Filter bit n is in ..", and 'Taking packets', "A flow is new when ..".
use Rattle.std.specs.Prelude.{Bool, not, List, ℕ, ◌/◌, ◌%◌, ◌^◌, ◌<◌, eqb, get_or, set}
use Rattle.std.specs.Int.Bits.{bit_and, bit_or}
use Rattle.laws.specs.Upto.{any_upto, each_upto}
use Rattle.layout.specs.declared.Sizes.{Sizes}
use Rattle.hash.specs.Places.{bit_of}

-- 01 'Blocks of 512 bytes': "with mask 128 shifted right by n mod 8"
abbrev pub mask : ℕ → ℕ
mask n = 128 / 2 ^ (n % 8)

-- filter bit n is 1; the filter's payload bytes stand one after the other, so the bit's byte is n / 8
unfoldable pub is_set : List ℕ → ℕ → Bool
is_set filter n = not (eqb (bit_and (get_or filter (n / 8) 0) (mask n)) 0)

-- filter bit n set to 1
unfoldable pub with_bit : List ℕ → ℕ → List ℕ
with_bit filter n = set filter (n / 8) (bit_or (get_or filter (n / 8) 0) (mask n))

-- of the first kf of the bits listed: one is 0; all set
unfoldable pub any_clear : List ℕ → List ℕ → ℕ → Bool
any_clear filter bits kf = any_upto kf (λ i. not (is_set filter (get_or bits i 0)))

unfoldable pub with_bits : List ℕ → List ℕ → ℕ → List ℕ
with_bits filter bits kf = each_upto kf (λ i f. with_bit f (get_or bits i 0)) filter

-- the first kf of the bits listed lie in a filter of that many bytes
abbrev pub InFilter : List ℕ → ℕ → ℕ → Type 0
InFilter bits kf bytes = (i : ℕ) → i < kf → get_or bits i 0 / 8 < bytes

-- 01 'Taking packets': "A flow is new when one of its kf filter bits is 0"
unfoldable pub is_new : Sizes → ℕ → List ℕ → List ℕ → Bool
is_new z salt filter key = any_upto z.kf (λ i. not (is_set filter (bit_of z salt key i)))

-- 01 'Taking packets': "A new flow sets its bits"
unfoldable pub with_flow : Sizes → ℕ → List ℕ → List ℕ → List ℕ
with_flow z salt filter key = each_upto z.kf (λ i f. with_bit f (bit_of z salt key i)) filter

-- 01 'Taking packets': "one of its kf filter bits": filter bit n is one of a flow's
unfoldable pub has_bit : Sizes → ℕ → List ℕ → ℕ → Bool
has_bit z salt key n = any_upto z.kf (λ i. eqb (bit_of z salt key i) n)
