-- The form of a block: 01 'Blocks of 512 bytes', "Form means every field range, kind, number and zero byte above".
use Rattle.std.specs.Prelude.{Bool, cond, ◌&&◌, ◌||◌, List, ℕ, ◌*◌, eqb, ltb, get_or, take, drop}
use Rattle.layout.specs.declared.Layout.{Layout}
use Rattle.layout.specs.declared.Sizes.{Sizes}
use Rattle.laws.specs.Zeros.{all_zero}
use Rattle.fields.specs.Field.{field}
use Rattle.block.specs.Block.{zero_bytes}

-- 01 'Blocks of 512 bytes': "1 kf, 2 F, 3 k, 4 q": the sizes that a block names
abbrev pub sizes_in : List ℕ → Sizes
sizes_in b = record { kf = get_or b 1 0; f = get_or b 2 0; k = get_or b 3 0; q = get_or b 4 0 }

abbrev pub same_sizes : Sizes → Sizes → Bool
same_sizes y z = eqb y.kf z.kf && (eqb y.f z.f && (eqb y.k z.k && eqb y.q z.q))

-- a cell block's payload: the zero byte of each cell, and what the cells leave unused
unfoldable pub cells_formed : Layout → List ℕ → Bool
cells_formed l payload = zero_bytes l l.cells payload && all_zero (drop (l.cells * l.cell) payload)

-- 01 'Blocks of 512 bytes': "Byte 0 kind (1 filter, 2 cells)", "F filter blocks, then k × q cell blocks": the kind of block n
abbrev pub kind_of : Layout → Sizes → ℕ → ℕ
kind_of l z n = cond (ltb n z.f) l.filter l.table

-- 01 'Blocks of 512 bytes': "Form means every field range, kind, number and zero byte above, including the zero byte in each cell";
-- of block n, in an image of sizes z
unfoldable pub formed : Layout → Sizes → ℕ → List ℕ → Bool
formed l z n b =
    eqb (get_or b 0 0) (kind_of l z n)
    && (same_sizes (sizes_in b) z
    && (eqb (get_or b 5 0) 0
    && (eqb (field 2 b 6) n
    && (all_zero (take 12 (drop 496 b))
    && (ltb n z.f || cells_formed l (take 480 (drop 16 b)))))))
