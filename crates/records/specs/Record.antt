-- The found flows as records: 01 'A session', "a lent list of 2 N flow records, each with key, count, known or unknown, peeled or handed".
use Rattle.std.specs.Prelude.{Bool, true, false, List, ◌++◌, ℕ, ◌*◌, ◌<◌, ◌≤◌, ◌^◌, length, get_or, set, drop}
use Rattle.std.proofs.lemmas.List.Edits.{sets}
use Rattle.laws.specs.Upto.{list_upto, join_upto}
use Rattle.layout.specs.Sizes.{ipv4_layout}
use Rattle.list.specs.Records.{Records, records, key_at, is_known, is_handed}
use Rattle.packet.specs.Key.{InRange, key_bytes, key_from}
use Rattle.records.specs.declared.Record.{Record}

-- the record with nothing in it
abbrev pub blank : Record
blank = record { key = record { source = 0; destination = 0; sport = 0; dport = 0; protocol = 0 }; count = 0; known = false; handed = false }

abbrev pub at : List Record → ℕ → Record
at list i = get_or list i blank

-- a record whose numbers fit the widths that its types give them
pub record Fits (r : Record) : Type 0 where
  pub key : InRange r.key
  pub count : r.count < 2 ^ 32

abbrev pub AllFit : List Record → Type 0
AllFit list = (i : ℕ) → i < length list → Fits (at list i)

-- ---- a record among the numbers of a list
-- bit 0 known, bit 1 handed
abbrev pub flag_byte : Bool → Bool → ℕ
flag_byte true true = 3
flag_byte true false = 1
flag_byte false true = 2
flag_byte false false = 0

-- the numbers with this record at position i
unfoldable pub stored : ℕ → Record → Records → Records
stored i r rs = records (sets rs.keys (i * 13) (key_bytes r.key)) (set rs.counts i r.count) (set rs.flags i (flag_byte r.known r.handed))

-- the record that the numbers have at position i
unfoldable pub record_at : Records → ℕ → Record
record_at rs i = record {
  key = key_from (key_at ipv4_layout rs.keys i);
  count = get_or rs.counts i 0;
  known = is_known rs i;
  handed = is_handed rs i;
}

-- ---- a list apart, and together
-- keys, counts and flags of the first n records
unfoldable pub keys_upto : ℕ → List Record → List ℕ
keys_upto n list = join_upto n (λ i. key_bytes (at list i).key)

unfoldable pub counts_upto : ℕ → List Record → List ℕ
counts_upto n list = list_upto n (λ i. (at list i).count)

unfoldable pub flags_upto : ℕ → List Record → List ℕ
flags_upto n list = list_upto n (λ i. flag_byte (at list i).known (at list i).handed)

-- the list as the three lists of numbers that the session's definitions are over
unfoldable pub apart : List Record → Records
apart list = records (keys_upto (length list) list) (counts_upto (length list) list) (flags_upto (length list) list)

-- the list that three lists of numbers are
unfoldable pub together : Records → List Record
together rs = list_upto (length rs.counts) (record_at rs)

-- ---- the first n of either, written over what stood there
-- numbers that have room for n records
pub record Wide (n : ℕ) (rs : Records) : Type 0 where
  pub keys-fit : n * 13 ≤ length rs.keys
  pub counts-fit : n ≤ length rs.counts
  pub flags-fit : n ≤ length rs.flags

unfoldable pub apart_upto : ℕ → List Record → Records → Records
apart_upto n list rs = records
    (keys_upto n list ++ drop (n * 13) rs.keys) (counts_upto n list ++ drop n rs.counts) (flags_upto n list ++ drop n rs.flags)

unfoldable pub together_upto : ℕ → Records → List Record → List Record
together_upto n rs list = list_upto n (record_at rs) ++ drop n list
