-- What a call over numbers leaves, put together, is what the call over records leaves; a list of the wrong length is refused whatever its length.
use mathlib.Core.Path.{◌≡◌, refl, sym, ap, ◌∙◌}
use mathlib.Core.List.{List, append-nil}
use Prim.Native.Nat.{ℕ, ◌*◌, ◌<◌, ◌≤◌}
use native.Mathlib.Nat.{zero-add}
use native.Mathlib.Omega.{arith}
use borrow.Author.Tests.{le-leb, lt-leb}
use lib.Dec.{eqb}
use lib.ListN.{length, take, drop, length-append, length-drop}
use lib.Seq.{take_at, get_or-take, drop-length}
use Rattle.laws.specs.Digit.{digit}
use Rattle.laws.proofs.Lists.{part-inside}
use Rattle.laws.proofs.Rows.{row_within}
use Rattle.laws.proofs.Upto.{list_same}
use Rattle.layout.specs.Sizes.{ipv4_layout}
use Rattle.list.specs.Records.{Records, Room, key_at, is_known, is_handed}
use Rattle.packet.specs.Key.{key_from}
use Rattle.room.specs.Memory.{Memory, memory}
use Rattle.records.specs.declared.Record.{Record}
use Rattle.records.specs.Record.{record_at, apart, together, apart_upto, together_upto}
use Rattle.records.proofs.Trip.{apart-room}
use Rattle.calls.specs.Calls.{Arrays, Ran, ran, taken}
-- crates above name these here
unfoldable pub use Rattle.calls.specs.Calls.{first, over}

-- what a call leaves, with the first n records of the arrays written over
abbrev pub widened : {A : Type 0} → ℕ → Records → A → Memory → Ran A
widened n rs answer m = ran answer (memory m.filter m.table m.packets (over n m.list rs))

-- ---- how many are taken apart
pub taken-all : (most n : ℕ) → n ≤ most → taken most n ≡ n
unfolding taken
taken-all most n h = rw (le-leb n most h)

pub taken_none : (most n : ℕ) → most < n → taken most n ≡ 0
unfolding taken
taken_none most n h = rw (lt-leb n most h)

-- ---- what was written over the arrays is read from them again
pub first-over : (n : ℕ) (new rs : Records) → Room ipv4_layout n new → first n (over n new rs) ≡ new
unfolding first over
first-over n new rs a =
    rw (
      take_at new.keys (drop (n * 13) rs.keys) (n * 13) a.keys-fit,
      take_at new.counts (drop n rs.counts) n a.counts-fit,
      take_at new.flags (drop n rs.flags) n a.flags-fit,
    )

-- a record of the arrays is one of their first
record-first : (n i : ℕ) (rs : Records) → i < n → record_at (first n rs) i ≡ record_at rs i
unfolding record_at first key_at is_known is_handed
record-first n i rs h =
    let key = part-inside rs.keys 0 (n * 13) (i * 13) 13 (row_within i n 13 h) ∙ ap (λ x. take 13 (drop x rs.keys)) (zero-add (i * 13)) in
    let count = get_or-take n rs.counts i 0 h in
    let flag = get_or-take n rs.flags i 0 h in
    λ j. record {
      key = key_from (key j);
      count = count j;
      known = eqb (digit (flag j) 0) 1;
      handed = eqb (digit (flag j) 1) 1;
    }

-- what the arrays hold after the list was taken apart, and the list after they were put together
pub first-apart : (list : List Record) (rs : Records) → first (length list) (apart_upto (length list) list rs) ≡ apart list
unfolding apart_upto apart over
first-apart list rs =
    first-over (length list) (apart list) rs (apart-room list)

pub together-over : (list : List Record) (new rs : Records) → Room ipv4_layout (length list) new
    → together_upto (length list) (over (length list) new rs) list ≡ together new
unfolding together_upto together
together-over list new rs a =
    let n = length list in
    rw (drop-length list, append-nil, a.counts-fit)
    (list_same n (record_at (over n new rs)) (record_at new)
    (λ i h. sym (record-first n i (over n new rs) h) ∙ ap (λ x. record_at x i) (first-over n new rs a)))

-- none of the arrays' records
pub first-none : (rs : Records) → length (first 0 rs).counts ≡ 0
unfolding first
first-none rs = refl

-- what is written over the arrays, which keep their lengths, is as long as what stood there
pub over-long : (most n : ℕ) (new rs : Records) → n ≤ most → Arrays most rs → Arrays most (over n new rs) → Room ipv4_layout n new
unfolding over
over-long most n new rs h a b = record {
  keys-fit = omega (arith, length-append new.keys (drop (n * 13) rs.keys), length-drop (n * 13) rs.keys, a.keys-fit, b.keys-fit);
  counts-fit = omega (arith, length-append new.counts (drop n rs.counts), length-drop n rs.counts, a.counts-fit, b.counts-fit);
  flags-fit = omega (arith, length-append new.flags (drop n rs.flags), length-drop n rs.flags, a.flags-fit, b.flags-fit);
}
