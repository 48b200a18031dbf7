-- The same over the places that the code keeps in a list.
use Rattle.std.specs.Prelude.{◌≡◌, Bool, true, false, List, ℕ, ◌<◌, get_or}
use Rattle.laws.specs.Upto.{any_upto, each_upto}
use Rattle.layout.specs.declared.Layout.{Layout}
use Rattle.layout.specs.declared.Sizes.{Sizes}
use Rattle.layout.specs.declared.Shape.{Shape}
use Rattle.layout.specs.Sizes.{in_range, filter_bytes, cell_bytes}
use Rattle.cell.specs.Cell.{InTable, take_at_place}
use Rattle.encoder.specs.declared.StartError.{StartError}
use Rattle.encoder.specs.declared.StartError.TheVariants.{BadSizes, BadRoom}
use Rattle.encoder.specs.Encoder.{full_at, rooms_fit}

-- the first k places are cells that lie in so many bytes
abbrev pub InCells : Layout → List ℕ → ℕ → ℕ → Type 0
InCells l at k bytes = (i : ℕ) → i < k → InTable l bytes (get_or at i 0)

abbrev pub RoomsFit : Layout → Sizes → ℕ → ℕ → Type 0
RoomsFit l z filter cells = (filter ≡ filter_bytes z) × (cells ≡ cell_bytes l z)

unfoldable pub any_full : Layout → Bool → List ℕ → List ℕ → ℕ → Bool
any_full l new cells at k = any_upto k (λ i. full_at l new cells (get_or at i 0))

unfoldable pub take_each : Layout → Bool → List ℕ → List ℕ → ℕ → List ℕ → List ℕ
take_each l new key at k cells = each_upto k (λ i t. take_at_place l new key (get_or at i 0) t) cells

-- what the tests that starting and the packet call share find: the shape of what is lent, or why there is none
pub record Lends (l : Layout) (z : Sizes) (filter cells : ℕ) (s : Shape) : Type 0 where
  pub layout : s.layout ≡ l
  pub sizes : s.sizes ≡ z
  pub in_range : in_range z ≡ true
  pub rooms : rooms_fit l z filter cells ≡ true

abbrev pub LendsNot : Layout → Sizes → ℕ → ℕ → StartError → Type 0
LendsNot l z filter cells BadSizes = in_range z ≡ false
LendsNot l z filter cells BadRoom = (in_range z ≡ true) × (rooms_fit l z filter cells ≡ false)
