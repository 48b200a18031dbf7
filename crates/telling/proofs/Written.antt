-- What stands in a writer after bytes in hexadecimal, one part after another, and after a buffer.
use Rattle.std.proofs.Common.{◌≡◌, ℕ, List, [], ◌∷◌, ◌++◌, refl, sym, subst, ◌∙◌, append_assoc}
use Rattle.std.specs.declared.option.Option.{Option}
use Rattle.std.specs.Io.KnownBytes.{Appends}
use Rattle.std.proofs.KnownBytes.{Appends-nil, Appends-trans}
use Rattle.hex.specs.Hex.{encode_with, encode_lower, lower_digits}

encoded-append : (t xs ys : List ℕ) → encode_with t (xs ++ ys) ≡ encode_with t xs ++ encode_with t ys
unfolding encode_with
encoded-append t [] ys = refl
encoded-append t (x ∷ xs) ys = cc (encoded-append t xs ys)

-- the bytes but for a rest are written
abbrev pub Said : Option (List ℕ) → Option (List ℕ) → List ℕ → List ℕ → Type 0
Said first now rest bytes = (front : List ℕ) × (front ++ rest ≡ bytes) × Appends first now (encode_lower front)

pub said-none : (first : Option (List ℕ)) (bytes : List ℕ) → Said first first bytes bytes
unfolding encode_with
said-none first bytes = ([], refl, Appends-nil first)

pub said-more : (first now next : Option (List ℕ)) (chunk rest bytes : List ℕ) → Said first now (chunk ++ rest) bytes
    → Appends now next (encode_lower chunk) → Said first next rest bytes
said-more first now next chunk rest bytes (front, e, p) q = (
  front ++ chunk,
  append_assoc front chunk rest ∙ e,
  subst (Appends first next) (sym (encoded-append lower_digits front chunk)) (Appends-trans first now next (encode_lower front) (encode_lower chunk) p q),
)
