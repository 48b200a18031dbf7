-- One record among the numbers of a list; a turn of each loop; a list apart and together again.
use mathlib.Core.Path.{◌≡◌, refl, ap, ◌∙◌}
use mathlib.Core.List.{List, ◌++◌}
use Prim.Native.Nat.{ℕ, ◌+◌, ◌-◌, ◌*◌, ◌/◌, ◌%◌, ◌<◌, ◌≤◌}
use native.Mathlib.Nat.{div-one}
use native.Mathlib.Omega.{arith}
use lib.Dec.{eqb}
use lib.ListN.{length, get_or, set, take, drop, length-append, length-drop}
use Rattle.laws.specs.Digit.{digit}
use Rattle.laws.specs.Upto.{list_upto, join_upto}
use Rattle.laws.proofs.Lists.{lent-sets}
use Rattle.laws.proofs.Upto.{element-put, length-list}
use Rattle.laws.proofs.Rows.{row_put, row_within, length-join}
use Rattle.layout.specs.Sizes.{ipv4_layout}
use Rattle.list.specs.Records.{Records, records, key_at, is_known, is_handed}
use Rattle.packet.specs.declared.Key.{Key}
use Rattle.packet.specs.Key.{key_bytes, key_from}
use Rattle.packet.proofs.KeyBytes.{length-key}
use Rattle.records.specs.declared.Record.{Record}
use Rattle.records.specs.Record.{at, Wide, flag_byte, stored, record_at, keys_upto, counts_upto, flags_upto, apart_upto, together_upto}

-- ---- one record
-- what the code leaves is the record stored
pub stores : (i : ℕ) (r : Record) (rs : Records) {k flag : ℕ} {bytes new : List ℕ}
    → i * 13 + 13 ≤ length rs.keys → k ≡ 13 → bytes ≡ key_bytes r.key → new ≡ bytes → flag ≡ flag_byte r.known r.handed
    → records (take (i * 13) rs.keys ++ (new ++ drop k (drop (i * 13) rs.keys))) (set rs.counts i r.count) (set rs.flags i flag)
    ≡ stored i r rs
unfolding stored
stores i r rs h q e f g =
    rw (f, e, g, q)
    (ap (λ ks. records ks (set rs.counts i r.count) (set rs.flags i (flag_byte r.known r.handed)))
    (lent-sets (key_bytes r.key) rs.keys (i * 13) 13 (length-key r.key) h))

-- what the code reads is the record there
pub loads : (rs : Records) (i : ℕ) {key : Key} → key ≡ key_from (key_at ipv4_layout rs.keys i)
    → ◌≡◌ {A = Record} (record {
      key = key;
      count = get_or rs.counts i 0;
      known = eqb (get_or rs.flags i 0 % 2) 1;
      handed = eqb (get_or rs.flags i 0 / 2 % 2) 1;
    }) (record_at rs i)
unfolding record_at is_known is_handed digit
loads rs i e = rw (e, div-one)

-- ---- a turn of each loop
-- one record more, stored over what stood there
pub apart-turn : (n i : ℕ) (list : List Record) (rs : Records) → Wide n rs → i < n
    → stored i (at list i) (apart_upto i list rs) ≡ apart_upto (i + 1) list rs
unfolding stored apart_upto keys_upto counts_upto flags_upto
apart-turn n i list rs w h =
    let key : ℕ → List ℕ = λ j. key_bytes (at list j).key in
    let long = length-join i 13 key (λ j l. length-key (at list j).key) in
    let keys = row_put i 13 key rs.keys long (length-key (at list i).key) (omega (arith, w.keys-fit, row_within i n 13 h)) in
    let counts = element-put i (λ j. (at list j).count) rs.counts (omega (arith, w.counts-fit)) in
    let flags = element-put i (λ j. flag_byte (at list j).known (at list j).handed) rs.flags (omega (arith, w.flags-fit)) in
    λ j. records (keys j) (counts j) (flags j)

pub together-turn : (i : ℕ) (rs : Records) (list : List Record) → i < length list
    → set (together_upto i rs list) i (record_at rs i) ≡ together_upto (i + 1) rs list
unfolding together_upto
together-turn i rs list h = element-put i (record_at rs) list h

-- before the first turn
pub apart_none : (list : List Record) (rs : Records) → rs ≡ apart_upto 0 list rs
unfolding apart_upto keys_upto counts_upto flags_upto list_upto join_upto
apart_none list rs = refl

pub together-none : (rs : Records) (list : List Record) → list ≡ together_upto 0 rs list
unfolding together_upto list_upto
together-none rs list = refl

-- record i lies within numbers of which the first i are written, where there is room for n
pub apart-inside : (n i : ℕ) (list : List Record) (rs now : Records) → Wide n rs → i < n → now ≡ apart_upto i list rs
    → (i * 13 + 13 ≤ length now.keys) × (i < length now.counts) × (i < length now.flags)
unfolding apart_upto keys_upto counts_upto flags_upto
apart-inside n i list rs now w h e =
    let key : ℕ → List ℕ = λ j. key_bytes (at list j).key in
    let keys : length now.keys ≡ i * 13 + (length rs.keys - i * 13) = ap (λ (x : Records). length x.keys) e
    ∙ simp (length-append, length-drop) (ap (λ m. m + (length rs.keys - i * 13)) (length-join i 13 key (λ j l. length-key (at list j).key))) in
    let counts : length now.counts ≡ i + (length rs.counts - i) = ap (λ (x : Records). length x.counts) e ∙ simp (length-append, length-drop, length-list) in
    let flags : length now.flags ≡ i + (length rs.flags - i) = ap (λ (x : Records). length x.flags) e ∙ simp (length-append, length-drop, length-list) in
    (omega (arith, w.keys-fit, row_within i n 13 h), omega (arith, w.counts-fit), omega (arith, w.flags-fit))
