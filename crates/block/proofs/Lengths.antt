-- How long the parts of a block are.
use mathlib.Core.Path.{◌≡◌, refl}
use mathlib.Core.List.{List}
use Prim.Native.Nat.{ℕ, ◌+◌, ◌*◌, ◌≤◌}
use native.Mathlib.Omega.{arith}
use lib.ListN.{length, take, drop, length-append, length-take, length-replicate}
use Rattle.laws.specs.BigEndian.{bytes_of}
use Rattle.laws.proofs.BigEndian.{length-bytes}
use Rattle.layout.specs.declared.Sizes.{Sizes}
use Rattle.block.specs.Block.{header, unchecked, checked, block, padded, block_of}

pub length-padded : (bytes : List ℕ) → length bytes ≤ 480 → length (padded bytes) ≡ 480
unfolding padded
length-padded bytes h = simp (length-append, length-replicate) (omega arith)

module _ (kind : ℕ) (z : Sizes) (n salt slot : ℕ) where
  pub length-header : length (header kind z n salt slot) ≡ 16
  unfolding header bytes_of
  length-header = refl

  pub length-unchecked : (payload : List ℕ) → length payload ≡ 480 → length (unchecked kind z n salt slot payload) ≡ 508
  unfolding unchecked
  length-unchecked payload h = simp (length-append, length-header, h)

  pub length-block : (payload : List ℕ) → length payload ≡ 480 → length (block kind z n salt slot payload) ≡ 512
  unfolding block checked
  length-block payload h = simp (length-append, length-unchecked payload h, length-bytes)

pub length-of : (kind : ℕ) (z : Sizes) (salt slot first width : ℕ) (bytes : List ℕ) (n : ℕ) → width ≤ 480
    → length (block_of kind z salt slot first width bytes n) ≡ 512
unfolding block_of
length-of kind z salt slot first width bytes n h =
    length-block kind z (first + n) salt slot (padded (take width (drop (n * width) bytes)))
    (length-padded (take width (drop (n * width) bytes)) (rw length-take (omega arith)))
