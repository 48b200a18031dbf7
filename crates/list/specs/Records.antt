-- The found flows: 01 'A session', "a lent list of 2 N flow records, each with key, count, known or unknown, peeled or handed".
use Rattle.std.specs.Prelude.{◌≡◌, Bool, not, List, ℕ, ◌*◌, eqb, length, get_or, set, take, drop}
use Rattle.std.specs.Int.Bits.{bit_or}
use Rattle.std.proofs.lemmas.List.Edits.{sets}
use Rattle.laws.specs.Digit.{digit}
use Rattle.laws.specs.Upto.{any_upto, all_upto, number_upto}
use Rattle.layout.specs.declared.Layout.{Layout}

-- the records as three lists: keys one after the other, counts, and flags (bit 0 known, bit 1 handed)
pub record Records : Type 0 where
  pub keys : List ℕ
  pub counts : List ℕ
  pub flags : List ℕ

abbrev pub records : List ℕ → List ℕ → List ℕ → Records
records keys counts flags = record { keys = keys; counts = counts; flags = flags }

-- the lists have room for m records, and no more
pub record Room (l : Layout) (m : ℕ) (rs : Records) : Type 0 where
  pub keys-fit : length rs.keys ≡ m * l.key
  pub counts-fit : length rs.counts ≡ m
  pub flags-fit : length rs.flags ≡ m

-- the key at position i of keys that stand one after the other
unfoldable pub key_at : Layout → List ℕ → ℕ → List ℕ
key_at l keys i = take l.key (drop (i * l.key) keys)

-- the count at position i is known; the flow there was handed over
unfoldable pub is_known : Records → ℕ → Bool
is_known rs i = eqb (digit (get_or rs.flags i 0) 0) 1

unfoldable pub is_handed : Records → ℕ → Bool
is_handed rs i = eqb (digit (get_or rs.flags i 0) 1) 1

-- how many of the first n flows were handed over, and how many were peeled
unfoldable pub handed_in : ℕ → Records → ℕ
handed_in n rs = number_upto n (is_handed rs)

unfoldable pub peeled_in : ℕ → Records → ℕ
peeled_in n rs = number_upto n (λ i. not (is_handed rs i))

-- two keys of one length are the same
unfoldable pub same_bytes : List ℕ → List ℕ → Bool
same_bytes a b = all_upto (length b) (λ j. eqb (get_or a j 0) (get_or b j 0))

-- 01 'A session': "already listed": the key is among the first n
unfoldable pub is_listed : Layout → ℕ → List ℕ → List ℕ → Bool
is_listed l n keys key = any_upto n (λ i. same_bytes (key_at l keys i) key)

-- 01 'A session': "It is then appended, count unknown and stored as 0"; flag 0 for a peeled flow, 2 for one handed over
unfoldable pub appended : Layout → ℕ → List ℕ → ℕ → Records → Records
appended l n key flag rs = records (sets rs.keys (n * l.key) key) (set rs.counts n 0) (set rs.flags n flag)

-- the flags with the count at position i known
unfoldable pub known_at : ℕ → List ℕ → List ℕ
known_at i flags = set flags i (bit_or (get_or flags i 0) 1)

-- 01 'A session': "becomes the count of its one unknown flow": the flow at position i
abbrev pub with_count : ℕ → ℕ → Records → Records
with_count i v rs = records rs.keys (set rs.counts i v) (known_at i rs.flags)
