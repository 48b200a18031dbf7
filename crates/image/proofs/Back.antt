-- The theorems of the image: it is read back as it was written, and nothing but what is written so is read.
use mathlib.Core.Path.{◌≡◌, sym, ap, ap₂, ◌∙◌}
use mathlib.Core.List.{List}
use Prim.Native.Nat.{ℕ, ◌^◌, ◌<◌}
use Rattle.laws.specs.BigEndian.{Bytes}
use Rattle.layout.specs.declared.Layout.{Layout}
use Rattle.layout.specs.declared.Sizes.{Sizes}
use Rattle.layout.specs.Sizes.{Lays}
use Rattle.std.proofs.Common.{Ok}
use Rattle.block.specs.Block.{image_of}
use Rattle.sealing.specs.Seal.{Sealable, seal_of}
use Rattle.reading.specs.Read.{image_with, read_of, filter_in, cells_in}
use Rattle.sealing.proofs.Answers.{seal-done}
use Rattle.reading.proofs.Accepts.{accepted}
use Rattle.image.proofs.Blocks.{image-back, filter-back, table-back, image-written, was-sealable}

-- an image is read back as it was written
pub read_back : (l : Layout) → Lays l → (z : Sizes) (filter cells : List ℕ) → Sealable l z filter cells
    → (salt slot : ℕ) → salt < 2 ^ 32 → slot < 2 ^ 32
    → (read_of l (image_of l z salt slot filter cells) slot ≡ image_with z salt)
    × (filter_in z (image_of l z salt slot filter cells) ≡ filter)
    × (cells_in l z (image_of l z salt slot filter cells) ≡ cells)
read_back l lays z filter cells s salt slot p q =
    (image-back l lays z filter cells s salt slot p q, filter-back l lays z filter cells s salt slot, table-back l lays z filter cells s salt slot)

-- and nothing but what is written so is read
pub read_only : (l : Layout) → Lays l → (image : List ℕ) → Bytes image → (slot : ℕ) (z : Sizes) (salt : ℕ)
    → read_of l image slot ≡ image_with z salt
    → (image ≡ image_of l z salt slot (filter_in z image) (cells_in l z image))
    × Sealable l z (filter_in z image) (cells_in l z image)
read_only l lays image bytes slot z salt e =
    let a = accepted l z salt slot image e in
    (image-written l lays z salt slot image bytes a, was-sealable l lays z salt slot image bytes a)

-- so images that are read alike are the same, byte for byte
pub read_alike : (l : Layout) → Lays l → (image image' : List ℕ) → Bytes image → Bytes image' → (slot : ℕ) (z : Sizes) (salt : ℕ)
    → read_of l image slot ≡ image_with z salt → read_of l image' slot ≡ image_with z salt
    → filter_in z image ≡ filter_in z image' → cells_in l z image ≡ cells_in l z image'
    → image ≡ image'
read_alike l lays image image' p p' slot z salt e e' f c =
    (read_only l lays image p slot z salt e).0 ∙ ap₂ (image_of l z salt slot) f c ∙ sym (read_only l lays image' p' slot z salt e').0

-- what was sealed is read
pub sealed-read : (l : Layout) → Lays l → (z : Sizes) (salt slot : ℕ) (filter cells image : List ℕ) → salt < 2 ^ 32 → slot < 2 ^ 32
    → (seal_of l z salt slot filter cells image).answer ≡ Ok tt
    → read_of l (seal_of l z salt slot filter cells image).image slot ≡ image_with z salt
sealed-read l lays z salt slot filter cells image p q e =
    let d = seal-done l z salt slot filter cells image e in
    ap (λ s. read_of l s slot) d.1 ∙ (read_back l lays z filter cells d.0 salt slot p q).0
