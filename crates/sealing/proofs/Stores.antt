-- What the stores of each writing function leave.
use mathlib.Core.Path.{◌≡◌, refl, sym, ap, ◌∙◌}
use mathlib.Core.Bool.{true, ◌&&◌}
use mathlib.Core.List.{List, ◌++◌, append_assoc, append-nil}
use Prim.Native.Nat.{ℕ, ◌+◌, ◌-◌, ◌*◌, ◌≤◌}
use native.Mathlib.Omega.{arith}
use borrow.Author.Tests.{eqb-true}
use lib.Dec.{eqb}
use lib.ListN.{length, set, take, drop, replicate, length-append, length-take, length-drop, drop_of_length-le}
use lib.Seq.{sets-eq, take_at, drop_at, drop-drop}
use Rattle.laws.specs.BigEndian.{bytes_of}
use Rattle.laws.specs.Upto.{join_upto}
use Rattle.laws.proofs.BigEndian.{length-bytes}
use Rattle.laws.proofs.Bools.{and_l, and_r}
use Rattle.layout.specs.declared.Layout.{Layout}
use Rattle.layout.specs.declared.Sizes.{Sizes}
use Rattle.layout.specs.Sizes.{cell_bytes, filter_bytes, blocks}
use Rattle.fields.specs.Field.{with_field}
use Rattle.hash.specs.Fnv.{fnv}
use Rattle.block.specs.Block.{header, unchecked, checked, block, padded, block_of}
use Rattle.block.proofs.Lengths.{length-padded, length-header, length-of}
use Rattle.sealing.specs.Seal.{seal_rooms}
use Rattle.laws.proofs.Rows.{length-join, join-turn}

-- ---- a header, byte by byte
pub header-put : (b : List ℕ) (kind : ℕ) (z : Sizes) (n salt slot : ℕ) → 16 ≤ length b
    → with_field 4 (with_field 4 (with_field 2
    (set (set (set (set (set (set b 0 kind) 1 z.kf) 2 z.f) 3 z.k) 4 z.q) 5 0) 6 n) 8 salt) 12 slot
    ≡ header kind z n salt slot ++ drop 16 b
unfolding header with_field bytes_of
header-put b kind z n salt slot h = sets-eq (header kind z n salt slot) b 0 h

-- ---- a payload: bytes copied over the first part, the rest of 480 cleared
pub payload-put : (bytes rest : List ℕ) {copied cleared : List ℕ} → length bytes ≤ 480 → 480 ≤ length rest → copied ≡ bytes
    → cleared ≡ replicate (length (take (480 - length bytes) (drop (length bytes) (copied ++ drop (length bytes) rest)))) 0
    → take (length bytes) (copied ++ drop (length bytes) rest)
    ++ (cleared ++ drop (480 - length bytes) (drop (length bytes) (copied ++ drop (length bytes) rest)))
    ≡ padded bytes ++ drop 480 rest
unfolding padded
payload-put bytes rest p q e f =
    let k : length (take (480 - length bytes) (drop (length bytes) rest)) ≡ 480 - length bytes = simp (length-take, length-drop) (omega arith) in
    let m : length bytes + (480 - length bytes) ≡ 480 = omega arith in
    rw (
      f,
      e,
      take_at bytes (drop (length bytes) rest) (length bytes) refl,
      drop_at bytes (drop (length bytes) rest) (length bytes) refl,
      k,
      drop-drop (480 - length bytes) (length bytes) rest,
      m,
    )
    (sym (append_assoc bytes (replicate (480 - length bytes) 0) (drop 480 rest)))

-- ---- an end: 12 bytes cleared, and the check of the 508 before it
check-put : (front tail : List ℕ) → length front ≡ 508 → length tail ≡ 4
    → with_field 4 (front ++ tail) 508 (fnv (take 508 (front ++ tail))) ≡ checked front
unfolding with_field checked
check-put front tail p q =
    let x = fnv (take 508 (front ++ tail)) in
    let k = length-bytes 4 x in
    sets-eq (bytes_of 4 x) (front ++ tail) 508 (simp (length-append) (omega arith))
    ∙ rw (k, take_at front tail 508 p, drop_of_length-le (front ++ tail) {i = 512} (rw length-append (omega arith)))
    (append-nil (front ++ bytes_of 4 (fnv front)))

pub end-put : (b : List ℕ) {cleared : List ℕ} {check : ℕ} → length b ≡ 512 → cleared ≡ replicate (length (take 12 (drop 496 b))) 0
    → check ≡ fnv (take 508 (take 496 b ++ (cleared ++ drop 12 (drop 496 b))))
    → with_field 4 (take 496 b ++ (cleared ++ drop 12 (drop 496 b))) 508 check ≡ checked (take 496 b ++ replicate 12 0)
end-put b p e f =
    let k : length (take 12 (drop 496 b)) ≡ 12 = simp (length-take, length-drop) (omega arith) in
    let front : length (take 496 b ++ replicate 12 0) ≡ 508 = simp (length-append, length-take) (omega arith) in
    let tail : length (drop 12 (drop 496 b)) ≡ 4 = simp (length-drop) (omega arith) in
    rw (f, e, k, ← append_assoc (take 496 b) (replicate 12 0) (drop 12 (drop 496 b)))
    (check-put (take 496 b ++ replicate 12 0) (drop 12 (drop 496 b)) front tail)

-- ---- a block: header, payload, end
pub block-put : (b bytes : List ℕ) (kind : ℕ) (z : Sizes) (n salt slot : ℕ) {headed filled ended : List ℕ} → length b ≡ 512 → length bytes ≤ 480
    → headed ≡ header kind z n salt slot ++ drop 16 b
    → filled ≡ padded bytes ++ drop 480 (take (length headed - 16) (drop 16 headed))
    → ended ≡ checked (take 496 (take 16 headed ++ (filled ++ drop (length headed - 16) (drop 16 headed))) ++ replicate 12 0)
    → ended ≡ block kind z n salt slot (padded bytes)
unfolding block unchecked
block-put b bytes kind z n salt slot p q e f g =
    let h = header kind z n salt slot in
    let m = length-header kind z n salt slot in
    let k = length-padded bytes q in
    let w : length (h ++ padded bytes) ≡ 496 = simp (length-append, m, k) in
    g ∙ rw (f, e, take_at h (drop 16 b) 16 m)
    (rw (append_assoc (padded bytes), ← append_assoc h (padded bytes), take_at (h ++ padded bytes) _ 496 w)
    (ap checked (append_assoc h (padded bytes) (replicate 12 0))))

-- ---- blocks of one kind, one after the other
module _ (kind : ℕ) (z : Sizes) (salt slot first width : ℕ) (bytes : List ℕ) (fits : width ≤ 480) where
  pub length-blocks : (n : ℕ) → length (join_upto n (block_of kind z salt slot first width bytes)) ≡ n * 512
  length-blocks n = length-join n 512 (block_of kind z salt slot first width bytes) (λ i _. length-of kind z salt slot first width bytes i fits)

  pub blocks-turn : (n : ℕ) (s : List ℕ) {part written : List ℕ} → part ≡ join_upto n (block_of kind z salt slot first width bytes) ++ drop (n * 512) s
      → written ≡ block kind z (first + n) salt slot (padded (take (n * width + width - n * width) (drop (n * width) bytes)))
      → take (n * 512) part ++ (written ++ drop (n * 512 + 512 - n * 512) (drop (n * 512) part))
      ≡ join_upto (n + 1) (block_of kind z salt slot first width bytes) ++ drop ((n + 1) * 512) s
  unfolding block_of
  blocks-turn n s e f =
      let w : n * width + width - n * width ≡ width = omega arith in
      let k : n * 512 + 512 - n * 512 ≡ 512 = omega arith in
      rw (f, w, k, e) (join-turn n 512 (block_of kind z salt slot first width bytes) s (length-blocks n))

  pub blocks-all : (n count : ℕ) (s : List ℕ) → n ≡ count → length s ≡ count * 512
      → join_upto n (block_of kind z salt slot first width bytes) ++ drop (n * 512) s ≡ join_upto count (block_of kind z salt slot first width bytes)
  blocks-all n count s e h =
      rw (e, drop_of_length-le s {i = count * 512} (omega arith)) (append-nil (join_upto count (block_of kind z salt slot first width bytes)))

-- ---- the lengths that sealing asks for
pub rooms : (l : Layout) (z : Sizes) (filter cells image : ℕ) → seal_rooms l z filter cells image ≡ true
    → (filter ≡ filter_bytes z) × (cells ≡ cell_bytes l z) × (image ≡ blocks z * 512)
unfolding seal_rooms
rooms l z filter cells image h =
    let a = eqb filter (filter_bytes z) in
    let b = eqb cells (cell_bytes l z) in
    let d = eqb image (blocks z * 512) in
    let rest = and_r a (b && d) h in (
      eqb-true filter (filter_bytes z) (and_l a (b && d) h),
      eqb-true cells (cell_bytes l z) (and_l b d rest),
      eqb-true image (blocks z * 512) (and_r b d rest),
    )
