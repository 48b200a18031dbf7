-- A block and an image as bytes: 01 'Blocks of 512 bytes'.
use Rattle.std.specs.Prelude.{Bool, List, ◌∷◌, ◌++◌, ℕ, ◌+◌, ◌-◌, ◌*◌, eqb, length, get_or, take, drop, replicate}
use Rattle.laws.specs.BigEndian.{bytes_of}
use Rattle.laws.specs.Upto.{all_upto, join_upto}
use Rattle.layout.specs.declared.Layout.{Layout}
use Rattle.layout.specs.declared.Sizes.{Sizes}
use Rattle.hash.specs.Fnv.{fnv}

-- 01 'Blocks of 512 bytes': "Byte 0 kind .., 1 kf, 2 F, 3 k, 4 q, 5 zero, 6 to 7 place in the image from 0, 8 to 11 salt, 12 to 15 slot"
unfoldable pub header : ℕ → Sizes → ℕ → ℕ → ℕ → List ℕ
header kind z n salt slot = kind ∷ z.kf ∷ z.f ∷ z.k ∷ z.q ∷ 0 ∷ (bytes_of 2 n ++ (bytes_of 4 salt ++ bytes_of 4 slot))

-- 01 'Blocks of 512 bytes': "16 to 495 payload, 496 to 507 zero"
unfoldable pub unchecked : ℕ → Sizes → ℕ → ℕ → ℕ → List ℕ → List ℕ
unchecked kind z n salt slot payload = header kind z n salt slot ++ (payload ++ replicate 12 0)

-- 01 'Blocks of 512 bytes': "508 to 511 FNV-1a of the first 508 bytes"
unfoldable pub checked : List ℕ → List ℕ
checked front = front ++ bytes_of 4 (fnv front)

unfoldable pub block : ℕ → Sizes → ℕ → ℕ → ℕ → List ℕ → List ℕ
block kind z n salt slot payload = checked (unchecked kind z n salt slot payload)

-- bytes in a payload of 480, what they leave unused zero
unfoldable pub padded : List ℕ → List ℕ
padded bytes = bytes ++ replicate (480 - length bytes) 0

-- 01 'Blocks of 512 bytes': "written there as the next 24 cells": block n of one kind, with the next bytes of working memory, `width` in a block;
-- the first block of the kind has the place `first` in the image
unfoldable pub block_of : ℕ → Sizes → ℕ → ℕ → ℕ → ℕ → List ℕ → ℕ → List ℕ
block_of kind z salt slot first width bytes n = block kind z (first + n) salt slot (padded (take width (drop (n * width) bytes)))

-- 01 'Blocks of 512 bytes': "The image is F filter blocks, then k × q cell blocks"
unfoldable pub image_of : Layout → Sizes → ℕ → ℕ → List ℕ → List ℕ → List ℕ
image_of l z salt slot filter cells =
    join_upto z.f (block_of l.filter z salt slot 0 480 filter)
    ++ join_upto (z.k * z.q) (block_of l.table z salt slot z.f (l.cells * l.cell) cells)

-- block n of an image
abbrev pub block_at : List ℕ → ℕ → List ℕ
block_at image n = take 512 (drop (n * 512) image)

-- 01 'Blocks of 512 bytes': "FlowXOR 13, zero 1": the zero byte of each cell is zero
unfoldable pub zero_bytes : Layout → ℕ → List ℕ → Bool
zero_bytes l n cells = all_upto n (λ c. eqb (get_or cells (c * l.cell + l.key) 0) 0)
