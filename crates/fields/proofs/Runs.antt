-- Runs of bytes, one byte at a time.
use mathlib.Core.Path.{◌≡◌, refl, sym, ap, ◌∙◌}
use mathlib.Core.List.{List, [], ◌∷◌, ◌++◌, append-nil}
use Prim.Native.Nat.{ℕ, zero, suc, ◌+◌, ◌<◌, ◌≤◌}
use native.Mathlib.Nat.{le_of_suc-le-suc}
use native.Mathlib.Omega.{arith}
use lib.Bits.{bit_xor}
use lib.ListN.{length, get_or, set, take, drop, drop_of_length-le}
use lib.Seq.{take_all}
use Rattle.laws.specs.Xor.{xor_bytes}
use Rattle.laws.proofs.Lists.{length_part, lent-sets}
use Rattle.laws.proofs.Xor.{xor_bytes-length}
use Rattle.fields.specs.Field.{xored_at}

-- the first k bytes of s XORed with those of key, the rest as it was: what the loop holds after k turns
unfoldable pub xor_upto : ℕ → List ℕ → List ℕ → List ℕ
xor_upto k s key = xor_bytes (take k s) (take k key) ++ drop k s

pub xor-none : (s key : List ℕ) → xor_upto 0 s key ≡ s
unfolding xor_upto xor_bytes
xor-none s key = refl

pub xor-turn : (k : ℕ) (s key : List ℕ) → k < length s → k < length key
    → set (xor_upto k s key) k (bit_xor (get_or (xor_upto k s key) k 0) (get_or key k 0)) ≡ xor_upto (suc k) s key
unfolding xor_upto xor_bytes
xor-turn k [] key p q = absurd (omega arith)
xor-turn k (x ∷ s) [] p q = absurd (omega arith)
xor-turn zero (x ∷ s) (y ∷ key) p q = refl
xor-turn (suc k) (x ∷ s) (y ∷ key) p q = ap (bit_xor x y ∷◌) (xor-turn k s key (le_of_suc-le-suc p) (le_of_suc-le-suc q))

pub xor-whole : (k : ℕ) (s key : List ℕ) → length s ≤ k → length key ≤ k → xor_upto k s key ≡ xor_bytes s key
unfolding xor_upto
xor-whole k s key p q = rw (take_all k s p, take_all k key q, drop_of_length-le s p) (append-nil (xor_bytes s key))

-- a run XORed into a part that is lent for it
pub part-xored : (s bytes : List ℕ) (at : ℕ) {k : ℕ} {new : List ℕ} → at + length bytes ≤ length s → k ≡ length bytes
    → new ≡ xor_bytes (take k (drop at s)) bytes → take at s ++ (new ++ drop k (drop at s)) ≡ xored_at s at bytes
unfolding xored_at
part-xored s bytes at {k} {new} h q f =
    let part = take (length bytes) (drop at s) in
    let new_is : new ≡ xor_bytes part bytes = f ∙ ap (λ m. xor_bytes (take m (drop at s)) bytes) q in
    let e = xor_bytes-length part bytes (length bytes) (length_part s at (length bytes) h) refl in
    rw new_is (lent-sets (xor_bytes part bytes) s at k (e ∙ sym q) (omega (arith, q, h)))

-- the first k bytes copied
pub copy-turn : (k : ℕ) (s bytes : List ℕ) → k < length s → k < length bytes
    → set (take k bytes ++ drop k s) k (get_or bytes k 0) ≡ take (suc k) bytes ++ drop (suc k) s
copy-turn k [] bytes p q = absurd (omega arith)
copy-turn k (x ∷ s) [] p q = absurd (omega arith)
copy-turn zero (x ∷ s) (y ∷ bytes) p q = refl
copy-turn (suc k) (x ∷ s) (y ∷ bytes) p q = ap (y ∷◌) (copy-turn k s bytes (le_of_suc-le-suc p) (le_of_suc-le-suc q))

pub copy-whole : (k : ℕ) (s bytes : List ℕ) → length s ≤ k → length bytes ≤ k → take k bytes ++ drop k s ≡ bytes
copy-whole k s bytes p q = rw (take_all k bytes q, drop_of_length-le s p) (append-nil bytes)
