-- The whole standard input: fewer than 4 bytes are refused, and any other is slot and image.
use mathlib.Core.Path.{◌≡◌, sym, ap, ◌∙◌}
use mathlib.Core.Bool.{true, not, ◌||◌}
use mathlib.Core.List.{List, ◌++◌}
use Prim.Native.Nat.{ℕ, ◌-◌, ◌%◌, ◌^◌, ◌<◌, ◌≤◌}
use native.Mathlib.Decide.{dec_lt}
use native.Mathlib.Omega.{arith}
use borrow.Author.Tests.{lt-ltb, le-ltb}
use lib.Dec.{eqb, ltb}
use lib.ListN.{length, take, drop, length-append, length-drop}
use lib.Seq.{sets, take_all, take_at, drop_at, length-take-le}
use Rattle.laws.specs.BigEndian.{bytes_of, number_of}
use Rattle.laws.proofs.BigEndian.{part_end, length-bytes, number-bytes}
use Rattle.laws.proofs.Bools.{or_r}
use Rattle.fields.specs.Field.{field}
use Rattle.reading.specs.Read.{bad_length, read_of}
use Rattle.lines.specs.Text.{Put, refused_line}
use Rattle.printing.specs.Print.{read_lines, image_lines, printed}

pub input-short : (input : List ℕ) → length input < 4 → refused_line 1 ≡ printed input
unfolding printed
input-short input h = rw (lt-ltb (length input) 4 h)

pub input-image : (input : List ℕ) {slot : ℕ} → 4 ≤ length input → slot ≡ field 4 input 0
    → image_lines slot (take (length input - 4) (drop 4 input)) ≡ printed input
unfolding printed
input-image input h e = rw (part_end (length input - 4) 4 input (omega arith), le-ltb (length input) 4 h, e)

-- a slot's four bytes before an image
pub slot-image : (slot : ℕ) (image : List ℕ) → slot < 2 ^ 32 → printed (bytes_of 4 slot ++ image) ≡ image_lines slot image
unfolding printed field
slot-image slot image q =
    let e = length-bytes 4 slot in
    let long = le-ltb (length (bytes_of 4 slot ++ image)) 4 (omega (arith, length-append (bytes_of 4 slot) image)) in
    let wanted = ap number_of (take_at (bytes_of 4 slot) image 4 e) ∙ number-bytes 4 slot q in
    rw (long, wanted, drop_at (bytes_of 4 slot) image 4 e)

-- ---- the longest input
-- 01 'Blocks of 512 bytes': "or over 40,960 (1)": with the slot's bytes, over 40,964
long-bad : (n : ℕ) → 40960 < n → bad_length n ≡ true
unfolding bad_length
long-bad n h =
    let bad = ltb 40960 n in
    let odd = not (eqb (n % 512) 0) in
    or_r (eqb n 0) (odd || bad) (or_r odd bad (lt-ltb 40960 n h))

over-long : (input : List ℕ) → 40964 < length input → printed input ≡ refused_line 1
unfolding printed image_lines read_of read_lines
over-long input h = rw (
  le-ltb (length input) 4 (omega arith),
  long-bad (length (drop 4 input)) (omega (arith, length-drop 4 input)),
)

-- Theorem: an input cut one byte after the longest, or later, prints what the whole input prints
pub input-cut : (n : ℕ) (input : List ℕ) → 40964 < n → printed (take n input) ≡ printed input
input-cut n input h = elim (dec_lt n (length input)) [
  | yes q ↦ over-long (take n input) (omega (arith, length-take-le n input (omega arith))) ∙ sym (over-long input (omega arith))
  | no q ↦ ap printed (take_all n input (omega arith))
]

-- all is written from the start on
pub whole : {s t text all : List ℕ} {r : ℕ} → text ≡ all → Put s t 0 r text → (r ≡ length all) × (t ≡ sets s 0 all) × (r ≤ length s)
whole {s} e p = (omega (arith, p.place, ap length e), p.bytes ∙ ap (sets s 0) e, p.inside)
