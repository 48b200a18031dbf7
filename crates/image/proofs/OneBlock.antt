-- One block: what is read of a block as it is written, and that a block so read is one.
use mathlib.Core.Path.{◌≡◌, refl, sym, ap, ap₂, ◌∙◌}
use mathlib.Core.Bool.{true}
use mathlib.Core.List.{List, ◌++◌, append_assoc}
use Prim.Native.Nat.{ℕ, ◌^◌, ◌<◌}
use native.Mathlib.Omega.{arith}
use borrow.Author.Tests.{eqb-true, eq-eqb}
use lib.ListN.{length, get_or, take, drop, replicate, length-append}
use lib.Seq.{take_at, drop_at, take_all}
use Rattle.laws.specs.BigEndian.{bytes_of, Bytes}
use Rattle.laws.proofs.BigEndian.{length-bytes, number-bytes, part_bytes}
use Rattle.laws.proofs.Lists.{part-cons, length_part, part-parts}
use Rattle.layout.specs.declared.Sizes.{Sizes}
use Rattle.laws.specs.Zeros.{all_zero}
use Rattle.fields.specs.Field.{field}
use Rattle.laws.proofs.Zeros.{zero_is}
use Rattle.hash.specs.Fnv.{fnv, basis}
use Rattle.hash.proofs.Chain.{absorb-lt}
use Rattle.block.specs.Block.{header, unchecked, checked, block}
use Rattle.form.specs.Form.{sizes_in}
use Rattle.reading.specs.Read.{checks}
use Rattle.block.proofs.Lengths.{length-header, length-unchecked}

-- ---- what is read of a block as it is written
module _ (kind : ℕ) (z : Sizes) (n salt slot : ℕ) (payload : List ℕ) where
  pub kind-back : get_or (block kind z n salt slot payload) 0 0 ≡ kind
  unfolding block checked unchecked header
  kind-back = refl

  pub sizes-back : sizes_in (block kind z n salt slot payload) ≡ z
  unfolding block checked unchecked header
  sizes-back = refl

  pub five-back : get_or (block kind z n salt slot payload) 5 0 ≡ 0
  unfolding block checked unchecked header
  five-back = refl

  pub number-back : n < 256 ^ 2 → field 2 (block kind z n salt slot payload) 6 ≡ n
  unfolding block checked unchecked header field bytes_of
  number-back h = number-bytes 2 n h

  pub salt-back : salt < 256 ^ 4 → field 4 (block kind z n salt slot payload) 8 ≡ salt
  unfolding block checked unchecked header field bytes_of
  salt-back h = number-bytes 4 salt h

  pub slot-back : slot < 256 ^ 4 → field 4 (block kind z n salt slot payload) 12 ≡ slot
  unfolding block checked unchecked header field bytes_of
  slot-back h = number-bytes 4 slot h

  module _ (size : length payload ≡ 480) where
    pub payload-back : take 480 (drop 16 (block kind z n salt slot payload)) ≡ payload
    unfolding block checked unchecked
    payload-back =
        let h = header kind z n salt slot in
        rw (append_assoc h, drop_at h _ 16 (length-header kind z n salt slot), append_assoc payload) (take_at payload _ 480 size)

    pub end_back : take 12 (drop 496 (block kind z n salt slot payload)) ≡ replicate 12 0
    unfolding block checked unchecked
    end_back =
        let h = header kind z n salt slot in
        let k : length (h ++ payload) ≡ 496 = simp (length-append, length-header, size) in
        rw (← append_assoc h payload (replicate 12 0), append_assoc (h ++ payload), drop_at (h ++ payload) _ 496 k)

    pub check-back : checks (block kind z n salt slot payload) ≡ true
    unfolding block checked checks field
    check-back =
        let x = fnv (unchecked kind z n salt slot payload) in
        let k = length-unchecked kind z n salt slot payload size in
        let small : x < 256 ^ 4 = absorb-lt (unchecked kind z n salt slot payload) basis (omega arith) in
        rw (
          take_at (unchecked kind z n salt slot payload) (bytes_of 4 x) 508 k,
          drop_at (unchecked kind z n salt slot payload) (bytes_of 4 x) 508 k,
          take_all 4 (bytes_of 4 x) (omega (arith, length-bytes 4 x)),
          number-bytes 4 x small,
        )
        (eq-eqb x x refl)

-- ---- a block that is read is written so
module _ (b : List ℕ) (bytes : Bytes b) (size : length b ≡ 512) where
  header-only : get_or b 5 0 ≡ 0 → take 16 b ≡ header (get_or b 0 0) (sizes_in b) (field 2 b 6) (field 4 b 8) (field 4 b 12)
  unfolding header field
  header-only five =
      rw (
        part-cons b 0 15 0 (omega arith),
        part-cons b 1 14 0 (omega arith),
        part-cons b 2 13 0 (omega arith),
        part-cons b 3 12 0 (omega arith),
        part-cons b 4 11 0 (omega arith),
        part-cons b 5 10 0 (omega arith),
        five,
        part-parts 2 8 6 b,
        part-parts 4 4 8 b,
        part_bytes 2 6 b bytes (omega arith),
        part_bytes 4 8 b bytes (omega arith),
        part_bytes 4 12 b bytes (omega arith),
      )

  pub block-only : checks b ≡ true → get_or b 5 0 ≡ 0 → all_zero (take 12 (drop 496 b)) ≡ true
      → b ≡ block (get_or b 0 0) (sizes_in b) (field 2 b 6) (field 4 b 8) (field 4 b 12) (take 480 (drop 16 b))
  unfolding block checked unchecked checks field
  block-only check five zeros =
      let twelve : take 12 (drop 496 b) ≡ replicate 12 0
      = zero_is (take 12 (drop 496 b)) zeros ∙ ap (λ n. replicate n 0) (length_part b 496 12 (omega arith)) in
      let front : take 508 b ≡ header (get_or b 0 0) (sizes_in b) (field 2 b 6) (field 4 b 8) (field 4 b 12) ++ (take 480 (drop 16 b) ++ replicate 12 0)
      = part-parts 16 492 0 b ∙ ap₂ ◌++◌ (header-only five) (part-parts 480 12 16 b ∙ ap (λ s. take 480 (drop 16 b) ++ s) twelve) in
      let last : take 4 (drop 508 b) ≡ bytes_of 4 (fnv (take 508 b))
      = sym (part_bytes 4 508 b bytes (omega arith)) ∙ ap (bytes_of 4) (eqb-true (field 4 b 508) (fnv (take 508 b)) check) in
      sym (take_all 512 b (omega arith)) ∙ part-parts 508 4 0 b ∙ ap₂ ◌++◌ front (last ∙ ap (λ s. bytes_of 4 (fnv s)) front)
