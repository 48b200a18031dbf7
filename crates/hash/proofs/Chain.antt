-- Absorbing byte by byte; a place is below n.
use mathlib.Core.Path.{◌≡◌, refl, sym, ap, ◌∙◌}
use mathlib.Core.List.{List, [], ◌∷◌, ◌++◌}
use Prim.Native.Nat.{ℕ, zero, suc, ◌+◌, ◌*◌, ◌^◌, ◌<◌, ◌≤◌}
use native.Mathlib.Nat.{mul_comm, div-lt_iff_lt-mul, mul-lt-mul_of_pos_right, mul-le-mul}
use native.Mathlib.Numerals.{add-one}
use native.Mathlib.Omega.{arith}
use lib.ListN.{length, take, get_or, replicate}
use lib.Seq.{take-suc}
use Rattle.std.proofs.lemmas.List.{take_all, get_or-replicate}
use lib.Bits.{bit_xor}
use lib.Pow.{pow_pos}
use Rattle.laws.specs.BigEndian.{bytes_of}
use Rattle.laws.specs.Upto.{list_upto}
use Rattle.hash.specs.Fnv.{step, absorb, basis, fnv, hash_of, place}
use Rattle.hash.specs.declared.Salted.{Salted}
use Rattle.laws.proofs.Upto.{list_at, list_same, four_same}
use Rattle.hash.specs.Chains.{absorb_all}
use Rattle.hash.specs.Places.{filter_role, cell_role}
use Rattle.hash.specs.Salted.{after_role, hash_after, after_salt}

-- a list is absorbed part by part
pub absorb-append : (s t : List ℕ) (h : ℕ) → absorb h (s ++ t) ≡ absorb (absorb h s) t
unfolding absorb
absorb-append [] t h = refl
absorb-append (b ∷ s) t h = absorb-append s t (step h b)

-- salt and role once, then the index, then the key: 01's hash
pub hash-after : (salt role i : ℕ) (key : List ℕ) → hash_after (after_role salt role) i key ≡ hash_of salt role i key
unfolding hash_of hash_after after_role absorb
hash-after salt role i key =
    ap (λ h. absorb h (i ∷ key)) (absorb-append (bytes_of 4 salt) (role ∷ []) basis) ∙ sym (absorb-append (bytes_of 4 salt) (role ∷ i ∷ key) basis)

-- one byte more of a list, and all of it
pub absorb-next : (h : ℕ) (s : List ℕ) (i : ℕ) → i < length s → step (absorb h (take i s)) (get_or s i 0) ≡ absorb h (take (i + 1) s)
unfolding absorb
absorb-next h s i p = rw (add-one, take-suc s i 0 p) (sym (absorb-append (take i s) (get_or s i 0 ∷ []) h))

pub absorb-whole : (h : ℕ) (s : List ℕ) (i : ℕ) → length s ≤ i → absorb h (take i s) ≡ absorb h s
absorb-whole h s i p = ap (absorb h) (take_all i s p)

-- four chains that each have absorbed as much of a slice of its own: one byte more, and all of it
pub four-on : (a b c d : List ℕ) (i : ℕ) {hs next : List ℕ} → i < length a → i < length b → i < length c → i < length d
    → hs ≡ (fnv (take i a) ∷ fnv (take i b) ∷ fnv (take i c) ∷ fnv (take i d) ∷ [])
    → next ≡ list_upto 4 (λ j. step (get_or hs j 0) (get_or (get_or a i 0 ∷ get_or b i 0 ∷ get_or c i 0 ∷ get_or d i 0 ∷ []) j 0))
    → next ≡ (fnv (take (i + 1) a) ∷ fnv (take (i + 1) b) ∷ fnv (take (i + 1) c) ∷ fnv (take (i + 1) d) ∷ [])
unfolding list_upto
four-on a b c d i p q r s e f =
    f
    ∙ ap (λ hs. list_upto 4 (λ j. step (get_or hs j 0) (get_or (get_or a i 0 ∷ get_or b i 0 ∷ get_or c i 0 ∷ get_or d i 0 ∷ []) j 0))) e
    ∙ four_same (absorb-next basis a i p) (absorb-next basis b i q) (absorb-next basis c i r) (absorb-next basis d i s)

pub four-whole : (a b c d : List ℕ) (i : ℕ) {hs : List ℕ} → length a ≤ i → length b ≤ i → length c ≤ i → length d ≤ i
    → hs ≡ (fnv (take i a) ∷ fnv (take i b) ∷ fnv (take i c) ∷ fnv (take i d) ∷ [])
    → hs ≡ (fnv a ∷ fnv b ∷ fnv c ∷ fnv d ∷ [])
four-whole a b c d i p q r s e =
    e ∙ four_same (absorb-whole basis a i p) (absorb-whole basis b i q) (absorb-whole basis c i r) (absorb-whole basis d i s)

-- states are below 2 ^ 32
pub step-lt : (h b : ℕ) → step h b < 2 ^ 32
unfolding step
step-lt h b = let x : ℕ = bit_xor h b * 16777619 in omega arith

pub absorb-lt : (s : List ℕ) (h : ℕ) → h < 2 ^ 32 → absorb h s < 2 ^ 32
unfolding absorb
absorb-lt [] h p = p
absorb-lt (b ∷ s) h p = absorb-lt s (step h b) (step-lt h b)

pub hash-lt : (salt role i : ℕ) (key : List ℕ) → hash_of salt role i key < 2 ^ 32
unfolding hash_of
hash-lt salt role i key = absorb-lt (bytes_of 4 salt ++ (role ∷ i ∷ key)) 2166136261 (omega arith)

pub place-lt : (h n : ℕ) → h < 2 ^ 32 → 0 < n → place h n < n
unfolding place
place-lt h n p q = (div-lt_iff_lt-mul (pow_pos 32)).1 (rw (mul_comm n (2 ^ 32)) (mul-lt-mul_of_pos_right p q))

-- the product of two numbers of 32 bits fits 64
pub product_lt : (a b : ℕ) → a < 2 ^ 32 → b < 2 ^ 32 → a * b < 2 ^ 64
product_lt a b p q =
    let le : a * b ≤ 4294967295 * 4294967295 = mul-le-mul {n₂ = 4294967295} {m₂ = 4294967295} (omega arith) (omega arith) in
    omega arith

-- salt and role, one after the other
pub role-after : (salt role : ℕ) {a b : ℕ} → a ≡ absorb basis (bytes_of 4 salt) → b ≡ step a role → b ≡ after_role salt role
unfolding absorb after_role
role-after salt role p q = rw (q, p) (sym (absorb-append (bytes_of 4 salt) (role ∷ []) basis))

-- the two states that are handed on
pub states-two : (salt : ℕ) {h : Salted} → h ≡ after_salt salt
    → (h.filter.state ≡ after_role salt filter_role) × (h.cells.state ≡ after_role salt cell_role)
unfolding after_salt
states-two salt e = (ap (λ x. x.filter.state) e, ap (λ x. x.cells.state) e)

pub two-states : (salt : ℕ) {h : Salted} → h.filter.state ≡ after_role salt filter_role → h.cells.state ≡ after_role salt cell_role
    → h ≡ after_salt salt
unfolding after_salt
two-states salt p q = λ i. record { filter = record { state = p i }; cells = record { state = q i } }

-- one chain from there: the index, then the key
pub chain-after : (salt role i : ℕ) (key : List ℕ) {h a b : ℕ} → h ≡ after_role salt role → a ≡ step h i → b ≡ absorb a key → b ≡ hash_of salt role i key
unfolding hash_after absorb
chain-after salt role i key e p q = rw (q, p, e) (hash-after salt role i key)

-- chains with a list absorbed: of a function's values
all-append : (hs gs s : List ℕ) → absorb_all (hs ++ gs) s ≡ absorb_all hs s ++ absorb_all gs s
unfolding absorb_all
all-append [] gs s = refl
all-append (h ∷ hs) gs s = ap (absorb h s ∷◌) (all-append hs gs s)

pub all-upto : (n : ℕ) (f : ℕ → ℕ) (s : List ℕ) → absorb_all (list_upto n f) s ≡ list_upto n (λ i. absorb (f i) s)
unfolding list_upto absorb_all
all-upto zero f s = refl
all-upto (suc n) f s = all-append (list_upto n f) (f n ∷ []) s ∙ ap (λ hs. hs ++ (absorb (f n) s ∷ [])) (all-upto n f s)

-- chains that have absorbed as much of a key: nothing of it, and one byte more
pub absorbed-begin : (n : ℕ) (f : ℕ → ℕ) (key : List ℕ) {hs : List ℕ} → hs ≡ list_upto n f → hs ≡ absorb_all (list_upto n f) (take 0 key)
unfolding absorb
absorbed-begin n f key e = e ∙ sym (all-upto n f [])

pub absorbed-on : (n : ℕ) (f : ℕ → ℕ) (key : List ℕ) (k : ℕ) {hs next : List ℕ} → k < length key → hs ≡ absorb_all (list_upto n f) (take k key)
    → next ≡ list_upto n (λ i. step (get_or hs i 0) (get_or key k 0))
    → next ≡ absorb_all (list_upto n f) (take (k + 1) key)
absorbed-on n f key k {hs} p e r =
    r
    ∙ list_same n (λ i. step (get_or hs i 0) (get_or key k 0)) (λ i. absorb (f i) (take (k + 1) key))
    (λ i l.
    ap (λ h. step h (get_or key k 0)) (ap (λ s. get_or s i 0) (e ∙ all-upto n f (take k key)) ∙ list_at n (λ j. absorb (f j) (take k key)) 0 i l)
    ∙ absorb-next (f i) key k p)
    ∙ sym (all-upto n f (take (k + 1) key))

-- chains that each have an index, with the key absorbed, are hashes
pub all-hashed : (n h first : ℕ) (key : List ℕ) {hs : List ℕ} → hs ≡ list_upto n (λ i. step h (first + i))
    → absorb_all hs key ≡ list_upto n (λ i. hash_after h (first + i) key)
unfolding hash_after absorb
all-hashed n h first key e = ap (λ hs. absorb_all hs key) e ∙ all-upto n (λ i. step h (first + i)) key

-- from the first index on
from-first : (n h : ℕ) (key : List ℕ) → absorb_all (list_upto n (step h)) key ≡ list_upto n (λ i. hash_after h i key)
from-first n h key =
    let from : (i : ℕ) → 0 + i ≡ i = λ i. omega arith in
    all-hashed n h 0 key (list_same n _ _ (λ i l. ap (step h) (sym (from i)))) ∙ list_same n _ _ (λ i l. ap (λ j. hash_after h j key) (from i))

-- as hashes: nothing of the key, one byte more that each takes from a list of as many, and the whole key
pub chains-begin : (n h : ℕ) (key : List ℕ) {hs : List ℕ} → hs ≡ list_upto n (step h) → hs ≡ list_upto n (λ i. hash_after h i (take 0 key))
unfolding hash_after absorb
chains-begin n h key e = e

pub chains-on : (n h : ℕ) (key : List ℕ) (k : ℕ) {hs next : List ℕ} → k < length key → hs ≡ list_upto n (λ i. hash_after h i (take k key))
    → next ≡ list_upto n (λ i. step (get_or hs i 0) (get_or (replicate n (get_or key k 0)) i 0))
    → next ≡ list_upto n (λ i. hash_after h i (take (k + 1) key))
chains-on n h key k {hs} p e r =
    absorbed-on n (step h) key k p (e ∙ sym (from-first n h (take k key)))
    (r ∙ list_same n _ _ (λ i l. ap (step (get_or hs i 0)) (get_or-replicate n i (get_or key k 0) 0 l)))
    ∙ from-first n h (take (k + 1) key)

pub chains-end : (n h : ℕ) (key : List ℕ) (k : ℕ) {hs : List ℕ} → length key ≤ k → hs ≡ list_upto n (λ i. hash_after h i (take k key))
    → hs ≡ list_upto n (λ i. hash_after h i key)
chains-end n h key k p e = e ∙ ap (λ s. list_upto n (λ i. hash_after h i s)) (take_all k key p)

pub absorbed-end : (n h : ℕ) (key : List ℕ) (k : ℕ) {hs : List ℕ} → length key ≤ k → hs ≡ absorb_all (list_upto n (step h)) (take k key)
    → hs ≡ list_upto n (λ i. hash_after h i key)
absorbed-end n h key k p e = chains-end n h key k p (e ∙ from-first n h (take k key))

-- which are 01's, from the state after salt and role; of chains from any index on, and from the first
pub all_after : (n salt role first : ℕ) (key : List ℕ) {h : ℕ} {hs : List ℕ} → h ≡ after_role salt role
    → hs ≡ list_upto n (λ i. hash_after h (first + i) key)
    → hs ≡ list_upto n (λ i. hash_of salt role (first + i) key)
all_after n salt role first key e f = f ∙ list_same n _ _ (λ i l. rw e (hash-after salt role (first + i) key))

pub hashes_after : (n salt role : ℕ) (key : List ℕ) {h : ℕ} {hs : List ℕ} → h ≡ after_role salt role
    → hs ≡ list_upto n (λ i. hash_after h i key)
    → hs ≡ list_upto n (λ i. hash_of salt role i key)
hashes_after n salt role key {h} e f =
    let from : (i : ℕ) → 0 + i ≡ i = λ i. omega arith in
    all_after n salt role 0 key e (f ∙ list_same n _ _ (λ i l. ap (λ j. hash_after h j key) (sym (from i))))
    ∙ list_same n _ _ (λ i l. ap (λ j. hash_of salt role j key) (from i))
