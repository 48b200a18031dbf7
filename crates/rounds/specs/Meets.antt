-- The two sessions of an exchange as values, and what the code needs of them.
use Rattle.std.specs.Prelude.{◌≡◌, ℕ, length}
use Rattle.layout.specs.Sizes.{filter_bytes}
use Rattle.parts.specs.declared.Part.{Part}
use Rattle.parts.specs.Sides.{Stands}
use Rattle.parts.specs.Parts.{switch_in, side_in}
use Rattle.rounds.specs.Rounds.{Pair, pair}

-- both sessions, and the number of answers 12 so far
abbrev pub pair_in : Part → Part → ℕ → Pair
pair_in a b twelves = pair (side_in a) (side_in b) twelves

-- both are of one layout and have their room, with marks and numbers as the test of 8 has them
pub record Meets (a b : Part) : Type 0 where
  pub layout-is : b.placing.shape.layout ≡ a.placing.shape.layout
  pub filter-a : length a.filter.now ≡ filter_bytes a.placing.shape.sizes
  pub filter-b : length b.filter.now ≡ filter_bytes b.placing.shape.sizes
  pub stands-a : Stands a.placing.shape.layout (switch_in a) (side_in a)
  pub stands_b : Stands a.placing.shape.layout (switch_in b) (side_in b)
