-- A number written is read back, and a field beside it is as it was, at any width.
use mathlib.Core.Path.{◌≡◌, sym, ap, ◌∙◌}
use mathlib.Core.List.{List, [], ◌∷◌, ◌++◌}
use mathlib.Core.Logic.{◌⊎◌, inl, inr}
use native.Mathlib.Nat.{div-one}
use Prim.Native.Nat.{ℕ, ◌+◌, ◌*◌, ◌^◌, ◌<◌, ◌≤◌}
use native.Mathlib.Omega.{arith}
use lib.ListN.{length, get_or, take, drop}
use lib.Seq.{sets, length-sets}
use Rattle.std.specs.Int.{w16, w32, from_be_bytes, to_be_bytes}
use Rattle.laws.specs.BigEndian.{bytes_of, number_of, Bytes}
use Rattle.laws.proofs.BigEndian.{length-bytes, number-bytes, part-lt, part-add, part-suc, part-one}
use Rattle.laws.proofs.Lists.{part-sets-same, part-sets-other, sets-before, sets-after, lent-sets}
use Rattle.fields.specs.Field.{field, with_field}

pub length-with : (n : ℕ) (s : List ℕ) (at x : ℕ) → length (with_field n s at x) ≡ length s
unfolding with_field
length-with n s at x = length-sets s at (bytes_of n x)

-- what was written
pub field-same : (n : ℕ) (s : List ℕ) (at x : ℕ) → x < 256 ^ n → at + n ≤ length s → field n (with_field n s at x) at ≡ x
unfolding field with_field
field-same n s at x p h =
    let e = length-bytes n x in
    ap number_of (ap (λ m. take m (drop at (sets s at (bytes_of n x)))) (sym e) ∙ part-sets-same (bytes_of n x) s at (rw e h)) ∙ number-bytes n x p

-- a part that lies before or after
pub part-other : (n : ℕ) (s : List ℕ) (at x i m : ℕ) → (i + m ≤ at) ⊎ (at + n ≤ i) → take m (drop i (with_field n s at x)) ≡ take m (drop i s)
unfolding with_field
part-other n s at x i m h = part-sets-other (bytes_of n x) s at i m 0 (rw (length-bytes n x) h)

pub field-other : (n : ℕ) (s : List ℕ) (at x i m : ℕ) → (i + m ≤ at) ⊎ (at + n ≤ i) → field m (with_field n s at x) i ≡ field m s i
unfolding field
field-other n s at x i m h = ap number_of (part-other n s at x i m h)

pub byte-other : (n : ℕ) (s : List ℕ) (at x i : ℕ) → (i < at) ⊎ (at + n ≤ i) → get_or (with_field n s at x) i 0 ≡ get_or s i 0
unfolding with_field
byte-other n s at x i (inl h) = sets-before (bytes_of n x) s at i 0 h
byte-other n s at x i (inr h) = sets-after (bytes_of n x) s at i 0 (rw (length-bytes n x) h)

pub field_lt : (n : ℕ) (s : List ℕ) (at : ℕ) → Bytes s → field n s at < 256 ^ n
unfolding field
field_lt n s at b = part-lt n at s b

-- the bytes that are read, and those that are written
pub short-is : (s : List ℕ) (at : ℕ) → at + 2 ≤ length s → get_or s at 0 * 256 + get_or s (at + 1) 0 ≡ field 2 s at
unfolding field
short-is s at h = sym (part-suc 1 at s h ∙ ap (λ y. get_or s at 0 * 256 ^ 1 + y) (part-one (at + 1) s (omega arith)))

pub long-is : (s : List ℕ) (at : ℕ) → at + 4 ≤ length s → field 2 s at * 65536 + field 2 s (at + 2) ≡ field 4 s at
unfolding field
long-is s at h = sym (part-add 2 2 at s h)

pub short-bytes : (s : List ℕ) (at : ℕ) → at + 2 ≤ length s → from_be_bytes w16 (get_or s at 0 ∷ get_or s (at + 1) 0 ∷ []) ≡ field 2 s at
short-bytes s at h = short-is s at h

pub long-bytes : (s : List ℕ) (at : ℕ) → at + 4 ≤ length s
    → from_be_bytes w32 (get_or s at 0 ∷ get_or s (at + 1) 0 ∷ get_or s (at + 2) 0 ∷ get_or s (at + 3) 0 ∷ []) ≡ field 4 s at
long-bytes s at h =
    let e : at + 2 + 1 ≡ at + 3 = omega arith in
    omega (arith, long-is s at h, short-is s at (omega arith), rw e at (short-is s (at + 2) (omega arith)))

-- and to write
short-all : (x : ℕ) → to_be_bytes w16 x ≡ bytes_of 2 x
unfolding bytes_of
short-all x = rw (div-one x)

long-all : (x : ℕ) → to_be_bytes w32 x ≡ bytes_of 4 x
unfolding bytes_of
long-all x = rw (div-one x)

pub short-put : (s : List ℕ) (at x : ℕ) {k : ℕ} {new bytes : List ℕ} → at + 2 ≤ length s → k ≡ 2 → bytes ≡ to_be_bytes w16 x → new ≡ bytes
    → take at s ++ (new ++ drop k (drop at s)) ≡ with_field 2 s at x
unfolding with_field
short-put s at x {k} {new} h e f g =
    let all : new ≡ bytes_of 2 x = g ∙ f ∙ short-all x in
    rw all (lent-sets (bytes_of 2 x) s at k (length-bytes 2 x ∙ sym e) (omega (arith, e)))

pub long-put : (s : List ℕ) (at x : ℕ) {k : ℕ} {new bytes : List ℕ} → at + 4 ≤ length s → k ≡ 4 → bytes ≡ to_be_bytes w32 x → new ≡ bytes
    → take at s ++ (new ++ drop k (drop at s)) ≡ with_field 4 s at x
unfolding with_field
long-put s at x {k} {new} h e f g =
    let all : new ≡ bytes_of 4 x = g ∙ f ∙ long-all x in
    rw all (lent-sets (bytes_of 4 x) s at k (length-bytes 4 x ∙ sym e) (omega (arith, e)))

-- one byte is a number
pub byte-is : (s : List ℕ) (at : ℕ) → at < length s → field 1 s at ≡ get_or s at 0
unfolding field
byte-is s at h = part-one at s h
