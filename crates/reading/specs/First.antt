-- The block that reading names is the first bad one: what each block gives by itself, by 01's number.
use Rattle.std.specs.Prelude.{◌≡◌, cond, not, ◌&&◌, List, ℕ, ◌*◌, ◌<◌, eqb, length}
use Rattle.layout.specs.declared.Layout.{Layout}
use Rattle.layout.specs.declared.Sizes.{Sizes}
use Rattle.layout.specs.Sizes.{in_range, blocks}
use Rattle.fields.specs.Field.{field}
use Rattle.block.specs.Block.{block_at}
use Rattle.form.specs.Form.{sizes_in, formed}
use Rattle.reading.specs.Read.{bad_length, checks}

-- 01 'Blocks of 512 bytes': "length zero, no multiple of 512 or over 40,960 (1); block 0: check (2), form (3), length against its sizes (1), slot not the
-- wanted one (5)": the first of these that fails, 0 where the length is good and block 0 passes
unfoldable pub first_number : Layout → List ℕ → ℕ → ℕ
first_number l image wanted =
    let b = block_at image 0 in
    let z = sizes_in b in
    cond (bad_length (length image)) 1
    (cond (not (checks b)) 2
    (cond (not (in_range z && formed l z 0 b)) 3
    (cond (not (eqb (length image) (blocks z * 512))) 1
    (cond (not (eqb (field 4 b 12) wanted)) 5 0))))

-- 01 'Blocks of 512 bytes': "check (2), form, including sizes that differ from block 0's (3), salt or slot not block 0's (4)": the first of these that fails
-- at block n with the bytes b, 0 where it passes; sizes, salt and slot are block 0's
unfoldable pub block_number : Layout → Sizes → ℕ → ℕ → ℕ → List ℕ → ℕ
block_number l z salt slot n b =
    cond (not (checks b)) 2
    (cond (not (formed l z n b)) 3
    (cond (not (eqb (field 4 b 8) salt && eqb (field 4 b 12) slot)) 4 0))

abbrev pub later_number : Layout → List ℕ → ℕ → ℕ
later_number l image n = let b = block_at image 0 in block_number l (sizes_in b) (field 4 b 8) (field 4 b 12) n (block_at image n)

-- 01 'Blocks of 512 bytes': "then each later block in order": block n is the first that does not pass, and r is its number
pub record FirstBad (l : Layout) (image : List ℕ) (wanted n r : ℕ) : Type 0 where
  pub begins : first_number l image wanted ≡ 0
  pub later : 0 < n
  pub within : n < blocks (sizes_in (block_at image 0))
  pub before : (i : ℕ) → 0 < i → i < n → later_number l image i ≡ 0
  pub number : later_number l image n ≡ r
  pub bad : 0 < r
