-- A flow's cells and filter bits: 01 'Keys and hashing'.
use Rattle.std.specs.Prelude.{Bool, cond, List, ◌++◌, ℕ, ◌+◌, ◌*◌, ◌<◌, leb, eqb, get_or, replicate}
use Rattle.laws.specs.Upto.{any_upto, list_upto}
use Rattle.layout.specs.declared.Layout.{Layout}
use Rattle.layout.specs.declared.Sizes.{Sizes}
use Rattle.layout.specs.Sizes.{part_cells, filter_bits}
use Rattle.hash.specs.Fnv.{hash_of, place}

-- 01 'Keys and hashing': "a role byte (0x46 filter, 0x43 cells)"
abbrev pub filter_role : ℕ
filter_role = 0x46

abbrev pub cell_role : ℕ
cell_role = 0x43

-- 01 'Keys and hashing': "hash i chooses cell i × s + place among s"
unfoldable pub cell_of : Layout → Sizes → ℕ → List ℕ → ℕ → ℕ
cell_of l z salt key i = i * part_cells l z + place (hash_of salt cell_role i key) (part_cells l z)

-- 01 'Keys and hashing': "kf .. filter hashes", "The filter has 3,840 F bits"
unfoldable pub bit_of : Sizes → ℕ → List ℕ → ℕ → ℕ
bit_of z salt key i = place (hash_of salt filter_role i key) (filter_bits z)

-- 01 'Keys and hashing': "a flow's k cells": whether the key has the cell c
unfoldable pub has_cell : Layout → Sizes → ℕ → List ℕ → ℕ → Bool
has_cell l z salt key c = any_upto z.k (λ i. eqb (cell_of l z salt key i) c)

-- the first k places are below n
abbrev pub Within : List ℕ → ℕ → ℕ → Type 0
Within at k n = (i : ℕ) → i < k → get_or at i 0 < n

-- the filter bits as the code keeps them: eight places, of which the first kf count
unfoldable pub bits_of : Sizes → ℕ → List ℕ → List ℕ
bits_of z salt key =
    list_upto 4 (bit_of z salt key) ++ cond (leb z.kf 4) (replicate 4 0) (list_upto 4 (λ i. bit_of z salt key (4 + i)))
