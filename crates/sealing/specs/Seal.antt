-- Sealing: 01 'Blocks of 512 bytes' and its table, "3 also for sizes outside their range at .. writing, or, in writing, a nonzero zero byte".
use Rattle.std.specs.Prelude.{◌≡◌, Bool, true, cond, not, ◌&&◌, List, ℕ, ◌*◌, eqb, length, Result, Ok, Err}
use Rattle.layout.specs.declared.Layout.{Layout}
use Rattle.layout.specs.declared.Sizes.{Sizes}
use Rattle.layout.specs.Sizes.{in_range, Ranged, table_cells, cell_bytes, filter_bytes, blocks}
use Rattle.layout.specs.Numbers.{Returned, only}
use Rattle.block.specs.Block.{image_of, zero_bytes}
use Rattle.sealing.specs.declared.SealError.{SealError}
use Rattle.sealing.specs.declared.SealError.TheVariants.{BadSizes, BadRoom, BadZero}

-- the lengths that filter, cells and image are lent in
unfoldable pub seal_rooms : Layout → Sizes → ℕ → ℕ → ℕ → Bool
seal_rooms l z filter cells image = eqb filter (filter_bytes z) && (eqb cells (cell_bytes l z) && eqb image (blocks z * 512))

-- what sealing takes, as facts
pub record Sealable (l : Layout) (z : Sizes) (filter cells : List ℕ) : Type 0 where
  pub sizes : Ranged z
  pub filter-length : length filter ≡ filter_bytes z
  pub cells-length : length cells ≡ cell_bytes l z
  pub zeros : zero_bytes l (table_cells l z) cells ≡ true

-- what sealing answers, and the image afterwards
pub record Sealing : Type 0 where
  pub answer : Result Unit SealError
  pub image : List ℕ

abbrev pub sealing : Result Unit SealError → List ℕ → Sealing
sealing answer image = record { answer = answer; image = image }

unfoldable pub seal_of : Layout → Sizes → ℕ → ℕ → List ℕ → List ℕ → List ℕ → Sealing
seal_of l z salt slot filter cells image =
    cond (not (in_range z)) (sealing (Err BadSizes) image)
    (cond (not (seal_rooms l z (length filter) (length cells) (length image))) (sealing (Err BadRoom) image)
    (cond (not (zero_bytes l (table_cells l z) cells)) (sealing (Err BadZero) image)
    (sealing (Ok tt) (image_of l z salt slot filter cells))))

-- 01's number of each refusal
abbrev pub error_number : SealError → ℕ
error_number BadSizes = 3
error_number BadRoom = 16
error_number BadZero = 3

-- 01's number and values for each answer; its block is 0 in all
abbrev pub seal_returns : Result Unit SealError → Returned
seal_returns (Ok x) = only 0
seal_returns (Err e) = only (error_number e)

abbrev pub seal_number : Result Unit SealError → ℕ
seal_number a = (seal_returns a).number
