-- A list taken apart is put together again as it was, and numbers that a list can be are taken apart again as they were.
use mathlib.Core.Path.{◌≡◌, refl, sym, ap, ◌∙◌}
use mathlib.Core.Bool.{Bool, true, false}
use mathlib.Core.List.{List}
use Prim.Native.Nat.{ℕ, zero, suc, ◌*◌, ◌<◌}
use native.Mathlib.Omega.{arith}
use lib.Dec.{eqb}
use lib.ListN.{length, get_or, take, drop}
use lib.Seq.{ext_get_or}
use Rattle.laws.specs.BigEndian.{Bytes}
use Rattle.laws.specs.Digit.{digit}
use Rattle.laws.specs.Upto.{list_upto, join_upto}
use Rattle.laws.proofs.BigEndian.{bytes_take, bytes_drop, bytes-append}
use Rattle.laws.proofs.Upto.{length-list, list_at}
use Rattle.laws.proofs.Rows.{join-part, join-same, join-whole, length-join, row-long}
use Rattle.layout.specs.Sizes.{ipv4_layout}
use Rattle.list.specs.Records.{Records, records, Room, key_at, is_known, is_handed}
use Rattle.packet.specs.Key.{key_bytes, key_from}
use Rattle.packet.proofs.KeyBytes.{length-key, key-are-bytes, from_bytes, bytes-from}
use Rattle.records.specs.declared.Record.{Record}
use Rattle.records.specs.Record.{blank, at, Fits, AllFit, flag_byte, record_at, keys_upto, counts_upto, flags_upto, apart, together}

-- ---- flags
known-bit : (known handed : Bool) → eqb (digit (flag_byte known handed) 0) 1 ≡ known
unfolding digit
known-bit true true = refl
known-bit true false = refl
known-bit false true = refl
known-bit false false = refl

handed-bit : (known handed : Bool) → eqb (digit (flag_byte known handed) 1) 1 ≡ handed
unfolding digit
handed-bit true true = refl
handed-bit true false = refl
handed-bit false true = refl
handed-bit false false = refl

both_bits : (flag : ℕ) → flag < 4 → flag_byte (eqb (digit flag 0) 1) (eqb (digit flag 1) 1) ≡ flag
unfolding digit
both_bits zero h = refl
both_bits (suc zero) h = refl
both_bits (suc (suc zero)) h = refl
both_bits (suc (suc (suc zero))) h = refl
both_bits (suc (suc (suc (suc flag)))) h = absurd (omega arith)

-- ---- apart, then together
abbrev key_of : List Record → ℕ → List ℕ
key_of list i = key_bytes (at list i).key

keys-long : (list : List Record) (i : ℕ) → length (key_of list i) ≡ 13
keys-long list i = length-key (at list i).key

-- the lengths of what a list is taken apart into
pub apart-room : (list : List Record) → Room ipv4_layout (length list) (apart list)
unfolding apart keys_upto counts_upto flags_upto
apart-room list = record {
  keys-fit = length-join (length list) 13 (key_of list) (λ i h. keys-long list i);
  counts-fit = length-list (length list) _;
  flags-fit = length-list (length list) _;
}

record_apart : (list : List Record) (i : ℕ) → i < length list → Fits (at list i) → record_at (apart list) i ≡ at list i
unfolding record_at apart keys_upto counts_upto flags_upto key_at is_known is_handed
record_apart list i h f =
    let r = at list i in
    let n = length list in
    let key = ap key_from (join-part n 13 (key_of list) (λ j l. keys-long list j) i h) ∙ from_bytes r.key f.key in
    let count = list_at n (λ j. (at list j).count) 0 i h in
    let flag = list_at n (λ j. flag_byte (at list j).known (at list j).handed) 0 i h in
    let known = ap (λ x. eqb (digit x 0) 1) flag ∙ known-bit r.known r.handed in
    let handed = ap (λ x. eqb (digit x 1) 1) flag ∙ handed-bit r.known r.handed in
    λ j. record { key = key j; count = count j; known = known j; handed = handed j }

-- a list whose numbers fit is put together again as it was
pub together-apart : (list : List Record) → AllFit list → together (apart list) ≡ list
unfolding together
together-apart list f =
    let n : length (apart list).counts ≡ length list = (apart-room list).counts-fit in
    let long = length-list (length (apart list).counts) (record_at (apart list)) in
    ext_get_or blank (list_upto (length (apart list).counts) (record_at (apart list))) list (long ∙ n)
    (λ i h. list_at (length (apart list).counts) (record_at (apart list)) blank i (omega arith) ∙ record_apart list i (omega arith) (f i (omega arith)))

-- ---- together, then apart
-- numbers that m records can be: keys of bytes, and of flags the two bits
pub record Sound (m : ℕ) (rs : Records) : Type 0 where
  pub room : Room ipv4_layout m rs
  pub bytes : Bytes rs.keys
  pub two-bits : (i : ℕ) → i < m → get_or rs.flags i 0 < 4

listed : (n : ℕ) (f : ℕ → ℕ) (s : List ℕ) → length s ≡ n → ((i : ℕ) → i < n → f i ≡ get_or s i 0) → list_upto n f ≡ s
listed n f s e h = ext_get_or 0 (list_upto n f) s (length-list n f ∙ sym e)
    (λ i l. let q : i < n = omega (arith, length-list n f) in list_at n f 0 i q ∙ h i q)

pub apart-together : (m : ℕ) (rs : Records) → Sound m rs → apart (together rs) ≡ rs
unfolding apart together keys_upto counts_upto flags_upto record_at key_at is_known is_handed
apart-together m rs s =
    let f : ℕ → Record = record_at rs in
    let n : length (list_upto (length rs.counts) f) ≡ m = length-list (length rs.counts) f ∙ s.room.counts-fit in
    let there : (i : ℕ) → i < m → at (together rs) i ≡ f i = λ i h. list_at (length rs.counts) f blank i (omega (arith, s.room.counts-fit)) in
    let keys = join-same m (key_of (together rs)) (λ i. take 13 (drop (i * 13) rs.keys))
    (λ i h. ap (λ r. key_bytes r.key) (there i h)
    ∙ bytes-from (take 13 (drop (i * 13) rs.keys)) (row-long m 13 rs.keys s.room.keys-fit i h) (bytes_take 13 (drop (i * 13) rs.keys) (bytes_drop (i * 13) rs.keys s.bytes)))
    ∙ join-whole m 13 rs.keys s.room.keys-fit in
    let counts = listed m (λ i. (at (together rs) i).count) rs.counts s.room.counts-fit (λ i h. ap (λ r. r.count) (there i h)) in
    let flags = listed m (λ i. flag_byte (at (together rs) i).known (at (together rs) i).handed) rs.flags s.room.flags-fit
    (λ i h. ap (λ r. flag_byte r.known r.handed) (there i h) ∙ both_bits (get_or rs.flags i 0) (s.two-bits i h)) in
    rw n (λ j. records (keys j) (counts j) (flags j))

-- what a list is taken apart into are such numbers
keys-bytes : (n : ℕ) (list : List Record) → Bytes (join_upto n (key_of list))
unfolding join_upto
keys-bytes zero list = λ i. omega arith
keys-bytes (suc n) list = bytes-append (join_upto n (key_of list)) (key_of list n) (keys-bytes n list) (key-are-bytes (at list n).key)

flag_small : (known handed : Bool) → flag_byte known handed < 4
flag_small true true = omega arith
flag_small true false = omega arith
flag_small false true = omega arith
flag_small false false = omega arith

pub apart-sound : (list : List Record) → Sound (length list) (apart list)
unfolding apart keys_upto flags_upto
apart-sound list = record {
  room = apart-room list;
  bytes = keys-bytes (length list) list;
  two-bits = λ i h.
      rw (list_at (length list) (λ j. flag_byte (at list j).known (at list j).handed) 0 i h) (flag_small (at list i).known (at list i).handed);
}
