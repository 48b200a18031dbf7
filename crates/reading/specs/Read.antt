-- Reading: 01 'Blocks of 512 bytes', "Reading gets the wanted slot. Order: ..".
use Rattle.std.specs.Prelude.{Bool, cond, not, ◌&&◌, ◌||◌, List, ℕ, zero, suc, ◌+◌, ◌-◌, ◌*◌, ◌%◌, eqb, ltb, length, take, drop, Result, Ok, Err}
use Rattle.laws.specs.Upto.{join_upto}
use Rattle.layout.specs.declared.Layout.{Layout}
use Rattle.layout.specs.declared.Sizes.{Sizes}
use Rattle.layout.specs.Sizes.{in_range, blocks}
use Rattle.layout.specs.Numbers.{Returned, only, with_block}
use Rattle.fields.specs.Field.{field}
use Rattle.hash.specs.Fnv.{fnv}
use Rattle.block.specs.Block.{block_at}
use Rattle.form.specs.Form.{sizes_in, formed}
use Rattle.reading.specs.declared.Image.{Image}
use Rattle.reading.specs.declared.ReadError.{ReadError}
use Rattle.reading.specs.declared.ReadError.TheVariants.{Length, Check, Form, Mixed, Stale}

-- the answer for an image of these sizes and this salt
abbrev pub image_with : Sizes → ℕ → Result Image ReadError
image_with z salt = Ok (record { sizes = z; salt = salt })

-- 01 'Blocks of 512 bytes': "length zero, no multiple of 512 or over 40,960"
unfoldable pub bad_length : ℕ → Bool
bad_length n = eqb n 0 || (not (eqb (n % 512) 0) || ltb 40960 n)

-- 01 'Blocks of 512 bytes': "508 to 511 FNV-1a of the first 508 bytes"
unfoldable pub checks : List ℕ → Bool
checks b = eqb (field 4 b 508) (fnv (take 508 b))

-- 01 'Blocks of 512 bytes': "then each later block in order: check (2), form .. (3), salt or slot not block 0's (4)"; the m blocks from n on
unfoldable pub read_later : Layout → Sizes → ℕ → ℕ → List ℕ → ℕ → ℕ → Result Image ReadError
read_later l z salt slot image n zero = image_with z salt
read_later l z salt slot image n (suc m) =
    let b = block_at image n in
    cond (not (checks b)) (Err (Check n))
    (cond (not (formed l z n b)) (Err (Form n))
    (cond (not (eqb (field 4 b 8) salt && eqb (field 4 b 12) slot)) (Err (Mixed n))
    (read_later l z salt slot image (suc n) m)))

-- 01 'Blocks of 512 bytes': "length .. (1); block 0: check (2), form (3), length against its sizes (1), slot not the wanted one (5)"
unfoldable pub read_of : Layout → List ℕ → ℕ → Result Image ReadError
read_of l image wanted =
    let b = block_at image 0 in
    let z = sizes_in b in
    cond (bad_length (length image)) (Err Length)
    (cond (not (checks b)) (Err (Check 0))
    (cond (not (in_range z && formed l z 0 b)) (Err (Form 0))
    (cond (not (eqb (length image) (blocks z * 512))) (Err Length)
    (cond (not (eqb (field 4 b 12) wanted)) (Err Stale)
    (read_later l z (field 4 b 8) wanted image 1 (blocks z - 1))))))

-- the filter and the cells that an image of these sizes holds
unfoldable pub filter_in : Sizes → List ℕ → List ℕ
filter_in z image = join_upto z.f (λ n. take 480 (drop 16 (block_at image n)))

unfoldable pub cells_in : Layout → Sizes → List ℕ → List ℕ
cells_in l z image = join_upto (z.k * z.q) (λ n. take (l.cells * l.cell) (drop 16 (block_at image (z.f + n))))

-- 01's number and values for each refusal
abbrev pub error_returns : ReadError → Returned
error_returns Length = only 1
error_returns (Check n) = with_block 2 n
error_returns (Form n) = with_block 3 n
error_returns (Mixed n) = with_block 4 n
error_returns Stale = only 5

abbrev pub error_number : ReadError → ℕ
error_number e = (error_returns e).number

abbrev pub error_block : ReadError → ℕ
error_block e = (error_returns e).block

-- and for each answer
abbrev pub read_returns : Result Image ReadError → Returned
read_returns (Ok i) = only 0
read_returns (Err e) = error_returns e

abbrev pub read_number : Result Image ReadError → ℕ
read_number a = (read_returns a).number

abbrev pub read_block : Result Image ReadError → ℕ
read_block a = (read_returns a).block
