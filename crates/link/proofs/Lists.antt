-- The found flows: which keys are listed, a record appended, and a count made known.
use mathlib.Core.Path.{◌≡◌, refl, sym, ap, ◌∙◌}
use mathlib.Core.Bool.{Bool, true, false, ◌||◌}
use mathlib.Core.List.{[], ◌∷◌, ◌++◌}
use Prim.Native.Nat.{ℕ, zero, suc, ◌+◌, ◌<◌, ◌≤◌}
use native.Mathlib.Decide.{ℕ_discrete}
use native.Mathlib.Numerals.{add-one}
use native.Mathlib.Omega.{arith}
use lib.Dec.{eqb}
use lib.ListN.{length, get_or, set, length-set}
use lib.Seq.{ext_get_or, get_or-set_same, get_or-set_other}
use Rattle.laws.specs.Digit.{digit}
use Rattle.laws.specs.Upto.{any_upto, list_upto}
use Rattle.laws.proofs.Bools.{iff}
use Rattle.laws.proofs.Upto.{any_some, any_same, length-list, list_at, list_same}
use Rattle.layout.specs.declared.Layout.{Layout}
use Rattle.list.specs.Records.{Records, Room, key_at, is_known, is_handed, same_bytes, is_listed, appended, with_count}
use Rattle.list.proofs.Laws.{same-is, same_self, length-key, key-appended, key-kept, known-told, handed-told, flags-other}
use Rattle.theory.specs.Encode.{Key, same_key, among}
use Rattle.theory.specs.Session.{Record, keys_of, new_record, told_record}
use Rattle.theory.specs.Notes.{tell_at}
use Rattle.theory.proofs.Flow.{same-eq, same_refl, among-append}
use Rattle.theory.proofs.Records.{keys-append}
use Rattle.link.specs.View.{record_at, records_of, flag_of}
use Rattle.laws.proofs.Rows.{row_within}

-- ---- keys
-- two keys of one length are the same byte by byte or not
pub same_bytes_lem : (a b : Key) → length a ≡ length b → same_bytes a b ≡ same_key b a
same_bytes_lem a b e = iff (same_bytes a b) (same_key b a)
    (λ h. ap (same_key b) (same-is a b e h) ∙ same_refl b)
    (λ h. ap (same_bytes a) (same-eq b a h) ∙ same_self a)

among-list : (k : Key) (l : Layout) (rs : Records) (n : ℕ) → among k (keys_of (records_of l n rs)) ≡ any_upto n (λ i. same_key k (key_at l rs.keys i))
unfolding list_upto any_upto record_at keys_of among
among-list k l rs zero = refl
among-list k l rs (suc n) =
    ap (among k) (keys-append (records_of l n rs) (record_at l rs n)) ∙ among-append k (keys_of (records_of l n rs)) (key_at l rs.keys n)
    ∙ ap (λ b. b || same_key k (key_at l rs.keys n)) (among-list k l rs n)

-- ---- flags
flag-known : (handed : Bool) → eqb (digit (flag_of handed) 0) 1 ≡ false
unfolding digit
flag-known true = refl
flag-known false = refl

flag-handed : (handed : Bool) → eqb (digit (flag_of handed) 1) 1 ≡ handed
unfolding digit
flag-handed true = refl
flag-handed false = refl

abbrev blank : Record
blank = new_record false []

record-path : {r q : Record} → r.key ≡ q.key → r.count ≡ q.count → r.known ≡ q.known → r.handed ≡ q.handed → r ≡ q
record-path a b c d = λ i. record { key = a i; count = b i; known = c i; handed = d i }

module _ (l : Layout) (m n : ℕ) (rs : Records) (room : Room l m rs) where
  pub record-length : (i : ℕ) → i < m → length (key_at l rs.keys i) ≡ l.key
  record-length i h = length-key l rs.keys i (omega (arith, room.keys-fit, row_within i m l.key h))

  -- a listed key has the layout's length
  pub listed-length : n ≤ m → (key : Key) → among key (keys_of (records_of l n rs)) ≡ true → length key ≡ l.key
  listed-length within key h =
      let i = any_some n (λ j. same_key key (key_at l rs.keys j)) (sym (among-list key l rs n) ∙ h) in
      ap length (same-eq key (key_at l rs.keys i.0) i.2) ∙ record-length i.0 (omega (arith, i.1))

  -- 01 'A session': "already listed"
  pub listed-is : n ≤ m → (key : Key) → length key ≡ l.key → among key (keys_of (records_of l n rs)) ≡ is_listed l n rs.keys key
  unfolding is_listed
  listed-is within key e = among-list key l rs n ∙ any_same n (λ i. same_key key (key_at l rs.keys i)) (λ i. same_bytes (key_at l rs.keys i) key)
      (λ i h. sym (same_bytes_lem (key_at l rs.keys i) key (record-length i (omega arith) ∙ sym e)))

  -- ---- a record appended
  module _ (handed : Bool) (key : Key) (e : length key ≡ l.key) (h : n < m) where
    old-record : (i : ℕ) → i < n → record_at l (appended l n key (flag_of handed) rs) i ≡ record_at l rs i
    unfolding appended record_at is_known is_handed
    old-record i q =
        let other : i ≡ n → ⊥ = λ w. omega arith in
        let flag = get_or-set_other rs.flags n i (flag_of handed) 0 other in
        record-path (key-kept l rs.keys n key i q) (get_or-set_other rs.counts n i 0 0 other)
        (ap (λ x. eqb (digit x 0) 1) flag) (ap (λ x. eqb (digit x 1) 1) flag)

    new-record : record_at l (appended l n key (flag_of handed) rs) n ≡ new_record handed key
    unfolding appended record_at is_known is_handed
    new-record =
        let flag = get_or-set_same rs.flags n (flag_of handed) 0 (omega (arith, room.flags-fit)) in
        record-path
        (key-appended l rs.keys n key e (omega (arith, room.keys-fit, row_within n m l.key h)))
        (get_or-set_same rs.counts n 0 0 (omega (arith, room.counts-fit)))
        (ap (λ x. eqb (digit x 0) 1) flag ∙ flag-known handed) (ap (λ x. eqb (digit x 1) 1) flag ∙ flag-handed handed)

    -- 01 'A session': "It is then appended, count unknown and stored as 0"
    pub list-appended : records_of l (n + 1) (appended l n key (flag_of handed) rs) ≡ records_of l n rs ++ (new_record handed key ∷ [])
    unfolding list_upto
    list-appended =
        let now = appended l n key (flag_of handed) rs in
        ap (λ j. records_of l j now) (add-one n) ∙ ap (λ r. records_of l n now ++ (r ∷ [])) new-record
        ∙ ap (◌++ (new_record handed key ∷ [])) (list_same n (record_at l now) (record_at l rs) old-record)

  -- ---- a count made known
  module _ (i v : ℕ) (below : i < n) (within : n ≤ m) where
    other-record : (j : ℕ) → (j ≡ i → ⊥) → record_at l (with_count i v rs) j ≡ record_at l rs j
    unfolding record_at is_known is_handed
    other-record j d =
        let flag = flags-other i v j rs d in
        record-path refl (get_or-set_other rs.counts i j v 0 d) (ap (λ x. eqb (digit x 0) 1) flag) (ap (λ x. eqb (digit x 1) 1) flag)

    told-record : record_at l (with_count i v rs) i ≡ told_record (record_at l rs i) v
    unfolding record_at
    told-record = record-path refl (get_or-set_same rs.counts i v 0 (omega (arith, room.counts-fit)))
        (known-told i v rs (omega (arith, room.flags-fit))) (handed-told i v rs (omega (arith, room.flags-fit)))

    -- 01 'A session': "becomes the count of its one unknown flow"
    pub list-told : records_of l n (with_count i v rs) ≡ tell_at i v (records_of l n rs)
    unfolding tell_at
    list-told =
        let now = records_of l n (with_count i v rs) in
        let was = records_of l n rs in
        let told = told_record (get_or was i blank) v in
        let there = list_at n (record_at l rs) blank in
        ext_get_or blank now (set was i told)
        (length-list n (record_at l (with_count i v rs)) ∙ sym (length-set was i told ∙ length-list n (record_at l rs)))
        (λ j q.
        let b : j < n = omega (arith, length-list n (record_at l (with_count i v rs))) in
        list_at n (record_at l (with_count i v rs)) blank j b
        ∙ elim (ℕ_discrete j i) [
          | yes e ↦ rw (e, get_or-set_same was i told blank (rw (length-list n (record_at l rs)) below), there i below) told-record
          | no d ↦ rw (get_or-set_other was i j told blank d, there j b) (other-record j d)
        ])
