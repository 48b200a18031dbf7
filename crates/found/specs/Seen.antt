-- The index of the listed flows: a flow that is looked for is among those of its bucket, and no other key has to be compared.
use Rattle.std.specs.Prelude.{◌≡◌, List, ℕ, ◌+◌, ◌*◌, ◌%◌, ◌<◌, get_or}
use Rattle.laws.specs.Upto.{list_upto}
use Rattle.layout.specs.declared.Layout.{Layout}
use Rattle.layout.specs.declared.Sizes.{Sizes}
use Rattle.hash.specs.Places.{cell_of}
use Rattle.index.specs.Index.{Indexes}
use Rattle.list.specs.Records.{key_at}

-- the bucket of a flow, from its first two cells: a cheap function that spreads them over 8,192 buckets
abbrev pub bucket : List ℕ → ℕ
bucket at = (get_or at 0 0 * 384 + get_or at 1 0) % 8192

abbrev pub bucket_of : Layout → Sizes → ℕ → List ℕ → ℕ
bucket_of l z salt key = bucket (list_upto 4 (cell_of l z salt key))

-- the first n keys are in the index
abbrev pub Covers : Layout → Sizes → ℕ → ℕ → List ℕ → List ℕ → Type 0
Covers l z salt n keys seen = Indexes (λ i. bucket_of l z salt (key_at l keys i)) n seen

-- where a key is among the first n, bucket b of the index leads to it
pub record LeadsTo (l : Layout) (n : ℕ) (keys key : List ℕ) (b : ℕ) (seen : List ℕ) : Type 0 where
  pub bucket_at : ℕ → ℕ
  pub indexes : Indexes bucket_at n seen
  pub own : (i : ℕ) → i < n → key_at l keys i ≡ key → bucket_at i ≡ b
