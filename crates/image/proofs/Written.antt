-- What sealing writes are bytes, where those of filter and cells are.
use mathlib.Core.List.{List, ◌++◌}
use Prim.Native.Nat.{ℕ, zero, suc, ◌+◌, ◌-◌, ◌*◌, ◌<◌}
use native.Mathlib.Omega.{arith}
use lib.ListN.{length, take, drop, replicate}
use Rattle.laws.specs.BigEndian.{bytes_of, Bytes}
use Rattle.laws.specs.Upto.{join_upto}
use Rattle.laws.proofs.BigEndian.{bytes-are-bytes, bytes-append, bytes_take, bytes_drop, bytes-zeros}
use Rattle.layout.specs.declared.Layout.{Layout}
use Rattle.layout.specs.declared.Sizes.{Sizes}
use Rattle.layout.specs.Sizes.{Ranged}
use Rattle.hash.specs.Fnv.{fnv}
use Rattle.block.specs.Block.{header, unchecked, checked, block, padded, block_of, image_of}

bytes-join : (n : ℕ) (f : ℕ → List ℕ) → ((i : ℕ) → Bytes (f i)) → Bytes (join_upto n f)
unfolding join_upto
bytes-join zero f h = bytes-zeros 0
bytes-join (suc n) f h = bytes-append (join_upto n f) (f n) (bytes-join n f h) (h n)

module _ (z : Sizes) (r : Ranged z) (salt slot : ℕ) where
  header-bytes : (kind n : ℕ) → kind < 256 → Bytes (header kind z n salt slot)
  unfolding header
  header-bytes kind n k zero = k
  header-bytes kind n k (suc zero) = omega arith
  header-bytes kind n k (suc (suc zero)) = omega arith
  header-bytes kind n k (suc (suc (suc zero))) = omega arith
  header-bytes kind n k (suc (suc (suc (suc zero)))) = omega arith
  header-bytes kind n k (suc (suc (suc (suc (suc zero))))) = omega arith
  header-bytes kind n k (suc (suc (suc (suc (suc (suc i)))))) = bytes-append (bytes_of 2 n) (bytes_of 4 salt ++ bytes_of 4 slot) (bytes-are-bytes 2 n)
      (bytes-append (bytes_of 4 salt) (bytes_of 4 slot) (bytes-are-bytes 4 salt) (bytes-are-bytes 4 slot)) i

  block-bytes : (kind first width : ℕ) (bytes : List ℕ) → kind < 256 → Bytes bytes → (n : ℕ) → Bytes (block_of kind z salt slot first width bytes n)
  unfolding block_of block checked unchecked padded
  block-bytes kind first width bytes k b n =
      let part = take width (drop (n * width) bytes) in
      let rest : List ℕ = replicate (480 - length part) 0 in
      let front = header kind z (first + n) salt slot ++ ((part ++ rest) ++ replicate 12 0) in
      bytes-append front (bytes_of 4 (fnv front)) (bytes-append (header kind z (first + n) salt slot) ((part ++ rest) ++ replicate 12 0)
      (header-bytes kind (first + n) k) (bytes-append (part ++ rest) (replicate 12 0)
      (bytes-append part rest (bytes_take width (drop (n * width) bytes) (bytes_drop (n * width) bytes b)) (bytes-zeros (480 - length part))) (bytes-zeros 12)))
      (bytes-are-bytes 4 (fnv front))

  -- Theorem: an image is bytes
  pub image-bytes : (l : Layout) → l.filter < 256 → l.table < 256 → (filter cells : List ℕ) → Bytes filter → Bytes cells
      → Bytes (image_of l z salt slot filter cells)
  unfolding image_of
  image-bytes l p q filter cells f c =
      let first = block_of l.filter z salt slot 0 480 filter in
      let second = block_of l.table z salt slot z.f (l.cells * l.cell) cells in
      bytes-append (join_upto z.f first) (join_upto (z.k * z.q) second)
      (bytes-join z.f first (block-bytes l.filter 0 480 filter p f))
      (bytes-join (z.k * z.q) second (block-bytes l.table z.f (l.cells * l.cell) cells q c))
