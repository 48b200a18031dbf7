-- What reading works out before it goes through the blocks: how far their checks are right.
use Rattle.std.specs.Prelude.{not, List, ℕ}
use Rattle.laws.specs.Upto.{lowest}
use Rattle.block.specs.Block.{block_at}
use Rattle.reading.specs.Read.{checks}

-- how many of m blocks have the right check, up to the first that has not
unfoldable pub right_blocks : ℕ → List ℕ → ℕ
right_blocks m blocks = lowest m (λ n. not (checks (block_at blocks n)))
