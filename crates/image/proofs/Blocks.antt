-- An image block by block: written, then read; and read, so written.
use mathlib.Core.Path.{◌≡◌, sym, ap, ap₂, ◌∙◌}
use mathlib.Core.Bool.{true, cond, ◌||◌}
use mathlib.Core.List.{List, ◌++◌}
use mathlib.Core.Logic.{inl, inr}
use Prim.Native.Nat.{ℕ, ◌+◌, ◌-◌, ◌*◌, ◌^◌, ◌≤◌, ◌<◌}
use native.Mathlib.Nat.{zero-add}
use native.Mathlib.Omega.{arith}
use borrow.Author.Tests.{lt-ltb, le-ltb, ltb-true, ltb-false}
use lib.Dec.{ltb}
use lib.ListN.{length, take, drop, length-take, drop_of_length-le}
use lib.Seq.{take-take}
use Rattle.laws.specs.BigEndian.{Bytes}
use Rattle.laws.specs.Upto.{join_upto}
use Rattle.laws.proofs.Bools.{split, and_l, and_r}
use Rattle.laws.proofs.BigEndian.{bytes_take, bytes_drop}
use Rattle.laws.proofs.Upto.{all-at, all_yes}
use Rattle.layout.specs.declared.Layout.{Layout}
use Rattle.layout.specs.declared.Sizes.{Sizes}
use Rattle.layout.specs.Sizes.{Lays, table_cells, filter_bytes, blocks}
use Rattle.layout.proofs.Ranges.{blocks-high}
use Rattle.laws.specs.Zeros.{all_zero}
use Rattle.block.specs.Block.{block, padded, block_of, image_of, zero_bytes, block_at}
use Rattle.sealing.specs.Seal.{Sealable}
use Rattle.form.specs.Form.{kind_of, cells_formed}
use Rattle.reading.specs.Read.{image_with, read_of, filter_in, cells_in}
use Rattle.block.proofs.Lengths.{length-padded, length-block}
use Rattle.block.proofs.Cells.{cells-fill, used-long}
use Rattle.form.proofs.Form.{Formed, is-formed, form-facts}
use Rattle.image.proofs.OneBlock.{block-only, kind-back, sizes-back, five-back, number-back, salt-back, slot-back, payload-back, end_back, check-back}
use Rattle.reading.proofs.Accepts.{Passes, Accepted, accepts}
use Rattle.image.proofs.Rows.{padded-back, padded-only, zero-take, cells-back, zero-blocks}
use Rattle.laws.proofs.Zeros.{zeros-zero}
use Rattle.laws.proofs.Rows.{join-same, length-join, join-part, join-add, row-long, join-whole}

-- ---- the image, block by block, whatever the kind
-- the bytes of working memory that stand in block n
abbrev part_at : Layout → Sizes → List ℕ → List ℕ → ℕ → List ℕ
part_at l z filter cells n =
    cond (ltb n z.f) (take 480 (drop (n * 480) filter)) (take (l.cells * l.cell) (drop ((n - z.f) * (l.cells * l.cell)) cells))

abbrev image_block : Layout → Sizes → ℕ → ℕ → List ℕ → List ℕ → ℕ → List ℕ
image_block l z salt slot filter cells n = block (kind_of l z n) z n salt slot (padded (part_at l z filter cells n))

module _ (l : Layout) (z : Sizes) (salt slot : ℕ) (filter cells : List ℕ) where
  image-blocks : image_of l z salt slot filter cells ≡ join_upto (blocks z) (image_block l z salt slot filter cells)
  unfolding image_of blocks block_of
  image-blocks =
      sym
      (join-add z.f (z.k * z.q) (image_block l z salt slot filter cells)
      ∙ ap₂ ◌++◌
      (join-same z.f _ _ (λ n h. rw (lt-ltb n z.f h, zero-add n)))
      (join-same (z.k * z.q) _ _ (λ n h.
      let e : z.f + n - z.f ≡ n = omega arith in
      rw (le-ltb (z.f + n) z.f (omega arith), e))))

  module _ (lays : Lays l) where
    part-short : (n : ℕ) → length (part_at l z filter cells n) ≤ 480
    part-short n = elim (split (ltb n z.f)) [
      | inl p ↦ rw (p, length-take) (omega arith)
      | inr p ↦ rw (p, length-take) (omega (arith, lays.payload-fits))
    ]

    block-long : (n : ℕ) → length (image_block l z salt slot filter cells n) ≡ 512
    block-long n =
        let part = part_at l z filter cells n in
        length-block (kind_of l z n) z n salt slot (padded part) (length-padded part (part-short n))

    pub length-image : length (image_of l z salt slot filter cells) ≡ blocks z * 512
    length-image = rw image-blocks (length-join (blocks z) 512 (image_block l z salt slot filter cells) (λ n _. block-long n))

    block-of-image : (n : ℕ) → n < blocks z → block_at (image_of l z salt slot filter cells) n ≡ image_block l z salt slot filter cells n
    block-of-image n h = rw image-blocks (join-part (blocks z) 512 (image_block l z salt slot filter cells) (λ i _. block-long i) n h)

-- ---- written, then read
module _ (l : Layout) (lays : Lays l) (z : Sizes) (filter cells : List ℕ) (s : Sealable l z filter cells) where
  filter-rows : length filter ≡ z.f * 480
  unfolding filter_bytes
  filter-rows = s.filter-length ∙ omega arith

  cell-rows : length cells ≡ z.k * z.q * (l.cells * l.cell)
  cell-rows = s.cells-length ∙ cells-fill l z

  zeros-of-part : (n : ℕ) → n < z.k * z.q → zero_bytes l l.cells (take (l.cells * l.cell) (drop (n * (l.cells * l.cell)) cells)) ≡ true
  zeros-of-part n h =
      let w = l.cells * l.cell in
      all-at (z.k * z.q) (λ m. zero_bytes l l.cells (take w (drop (m * w) cells)))
      (sym (zero-blocks l lays z (λ m. take w (drop (m * w) cells)) (row-long (z.k * z.q) w cells cell-rows))
      ∙ ap (zero_bytes l (table_cells l z)) (join-whole (z.k * z.q) w cells cell-rows) ∙ s.zeros) n h

  module _ (salt slot : ℕ) (small-salt : salt < 2 ^ 32) (small_slot : slot < 2 ^ 32) where
    payload-formed : (n : ℕ) → n < blocks z → (ltb n z.f || cells_formed l (padded (part_at l z filter cells n))) ≡ true
    unfolding blocks
    payload-formed n h = elim (split (ltb n z.f)) [
      | inl p ↦ rw p
      | inr p ↦
          let late = ltb-false n z.f p in
          let m = n - z.f in
          let part = take (l.cells * l.cell) (drop (m * (l.cells * l.cell)) cells) in
          rw p (cells-back l lays part (row-long (z.k * z.q) (l.cells * l.cell) cells cell-rows m (omega arith)) (zeros-of-part m (omega arith)))
    ]

    passes : (n : ℕ) → n < blocks z → Passes l z salt slot n (block_at (image_of l z salt slot filter cells) n)
    passes n h =
        let kind = kind_of l z n in
        let p = padded (part_at l z filter cells n) in
        let size = length-padded (part_at l z filter cells n) (part-short l z salt slot filter cells lays n) in
        let small : n < 256 ^ 2 = omega (arith, blocks-high z s.sizes) in
        let form : Formed l z n (block kind z n salt slot p)
        = record {
          kind = kind-back kind z n salt slot p;
          sizes = sizes-back kind z n salt slot p;
          five = five-back kind z n salt slot p;
          number = number-back kind z n salt slot p small;
          zeros = rw (end_back kind z n salt slot p size) (zeros-zero 12);
          cells = rw (payload-back kind z n salt slot p size) (payload-formed n h);
        } in
        rw (block-of-image l z salt slot filter cells lays n h)
        (record {
          check = check-back kind z n salt slot p size;
          form = is-formed l z n (block kind z n salt slot p) form;
          salts = salt-back kind z n salt slot p small-salt;
          slots = slot-back kind z n salt slot p small_slot;
        })

    pub image-back : read_of l (image_of l z salt slot filter cells) slot ≡ image_with z salt
    image-back =
        accepts l z salt slot (image_of l z salt slot filter cells)
        (record { sizes = s.sizes; whole = length-image l z salt slot filter cells lays; each = passes })

  module _ (salt slot : ℕ) where
    -- the used bytes of the payloads of one kind, joined, are the bytes that were written
    used-back : (first count w : ℕ) (bytes : List ℕ) → first + count ≤ blocks z → w ≤ 480 → length bytes ≡ count * w
        → ((n : ℕ) → n < count → part_at l z filter cells (first + n) ≡ take w (drop (n * w) bytes))
        → join_upto count (λ n. take w (drop 16 (block_at (image_of l z salt slot filter cells) (first + n)))) ≡ bytes
    used-back first count w bytes h q e parts =
        join-same count _ (λ n. take w (drop (n * w) bytes)) (λ n p.
        let m = first + n in
        let part = part_at l z filter cells m in
        let size = ap length (parts n p) ∙ row-long count w bytes e n p in
        let long = length-padded part (omega arith) in
        rw (
          block-of-image l z salt slot filter cells lays m (omega arith),
          ← take-take w 480 (drop 16 (image_block l z salt slot filter cells m)) q,
          payload-back (kind_of l z m) z m salt slot (padded part) long,
        )
        (padded-back w part size ∙ parts n p))
        ∙ join-whole count w bytes e

    pub filter-back : filter_in z (image_of l z salt slot filter cells) ≡ filter
    unfolding filter_in blocks
    filter-back =
        join-same z.f _ _ (λ n h. ap (λ m. take 480 (drop 16 (block_at (image_of l z salt slot filter cells) m))) (sym (zero-add n)))
        ∙ used-back 0 z.f 480 filter (omega arith) (omega arith) filter-rows (λ n h. rw (zero-add n, lt-ltb n z.f h))

    pub table-back : cells_in l z (image_of l z salt slot filter cells) ≡ cells
    unfolding cells_in blocks
    table-back =
        used-back z.f (z.k * z.q) (l.cells * l.cell) cells (omega arith) lays.payload-fits cell-rows (λ n h.
        let e : z.f + n - z.f ≡ n = omega arith in
        rw (le-ltb (z.f + n) z.f (omega arith), e))

-- ---- read, so written
same_block : {kind kind' n n' salt salt' slot slot' : ℕ} {z z' : Sizes} {p p' : List ℕ}
    → kind ≡ kind' → z ≡ z' → n ≡ n' → salt ≡ salt' → slot ≡ slot' → p ≡ p'
    → block kind z n salt slot p ≡ block kind' z' n' salt' slot' p'
same_block a b c d e f = rw (a, b, c, d, e, f)

-- a cell block's tests, of its payload
formed-parts : (l : Layout) (payload : List ℕ) → cells_formed l payload ≡ true
    → (zero_bytes l l.cells payload ≡ true) × (all_zero (drop (l.cells * l.cell) payload) ≡ true)
unfolding cells_formed
formed-parts l payload h =
    let a = zero_bytes l l.cells payload in
    let b = all_zero (drop (l.cells * l.cell) payload) in
    (and_l a b h, and_r a b h)

module _ (l : Layout) (lays : Lays l) (z : Sizes) (salt slot : ℕ) (image : List ℕ) (bytes : Bytes image) (a : Accepted l z salt slot image) where
  long : (n : ℕ) → n < blocks z → length (block_at image n) ≡ 512
  long n h = row-long (blocks z) 512 image a.whole n h

  form : (n : ℕ) → n < blocks z → Formed l z n (block_at image n)
  form n h = form-facts l z n (block_at image n) (a.each n h).form

  late : (n : ℕ) → n < z.k * z.q → z.f + n < blocks z
  unfolding blocks
  late n h = omega arith

  early : (n : ℕ) → n < z.f → n < blocks z
  unfolding blocks
  early n h = omega arith

  cells-formed : (n : ℕ) → n < z.k * z.q → cells_formed l (take 480 (drop 16 (block_at image (z.f + n)))) ≡ true
  cells-formed n h = rw (le-ltb (z.f + n) z.f (omega arith)) at (form (z.f + n) (late n h)).cells

  filter-row : (n : ℕ) → n < z.f → length (take 480 (drop 16 (block_at image n))) ≡ 480
  filter-row n h = used-long z image a.whole n 480 (early n h) (omega arith)

  cell_row : (n : ℕ) → n < z.k * z.q → length (take (l.cells * l.cell) (drop 16 (block_at image (z.f + n)))) ≡ l.cells * l.cell
  cell_row n h = used-long z image a.whole (z.f + n) (l.cells * l.cell) (late n h) lays.payload-fits

  -- the payload of block n is its part of what was read, padded
  filled : (n w : ℕ) (part : List ℕ) → n < blocks z → w ≤ 480 → part ≡ take w (drop 16 (block_at image n))
      → all_zero (drop w (take 480 (drop 16 (block_at image n)))) ≡ true → take 480 (drop 16 (block_at image n)) ≡ padded part
  filled n w part h q e zeros =
      padded-only w (take 480 (drop 16 (block_at image n))) q (used-long z image a.whole n 480 h (omega arith)) zeros
      ∙ ap padded (take-take w 480 (drop 16 (block_at image n)) q ∙ sym e)

  payload-only : (n : ℕ) → n < blocks z → take 480 (drop 16 (block_at image n)) ≡ padded (part_at l z (filter_in z image) (cells_in l z image) n)
  unfolding filter_in cells_in blocks
  payload-only n h = elim (split (ltb n z.f)) [
    | inl p ↦
        let q = ltb-true n z.f p in
        rw p (filled n 480 _ h (omega arith) (join-part z.f 480 (λ i. take 480 (drop 16 (block_at image i))) filter-row n q)
        (ap all_zero (drop_of_length-le (take 480 (drop 16 (block_at image n))) {i = 480} (omega (arith, filter-row n q))) ∙ zeros-zero 0))
    | inr p ↦
        let m = n - z.f in
        let q = ltb-false n z.f p in
        let e : z.f + m ≡ n = omega arith in
        let w = l.cells * l.cell in
        rw p (filled n w _ h lays.payload-fits
        (join-part (z.k * z.q) w (λ i. take w (drop 16 (block_at image (z.f + i)))) cell_row m (omega arith)
        ∙ ap (λ i. take w (drop 16 (block_at image i))) e)
        (rw e at (formed-parts l (take 480 (drop 16 (block_at image (z.f + m)))) (cells-formed m (omega arith))).1))
  ]

  block_written : (n : ℕ) → n < blocks z → block_at image n ≡ image_block l z salt slot (filter_in z image) (cells_in l z image) n
  block_written n h =
      let b = block_at image n in
      let p = a.each n h in
      let f = form n h in
      block-only b (bytes_take 512 (drop (n * 512) image) (bytes_drop (n * 512) image bytes)) (long n h) p.check f.five f.zeros
      ∙ same_block f.kind f.sizes f.number p.salts p.slots (payload-only n h)

  pub image-written : image ≡ image_of l z salt slot (filter_in z image) (cells_in l z image)
  image-written =
      sym (join-whole (blocks z) 512 image a.whole)
      ∙ join-same (blocks z) (block_at image) (image_block l z salt slot (filter_in z image) (cells_in l z image)) block_written
      ∙ sym (image-blocks l z salt slot (filter_in z image) (cells_in l z image))

  pub was-sealable : Sealable l z (filter_in z image) (cells_in l z image)
  unfolding filter_in cells_in filter_bytes
  was-sealable =
      record {
        sizes = a.sizes;
        filter-length = length-join z.f 480 (λ n. take 480 (drop 16 (block_at image n))) filter-row ∙ omega arith;
        cells-length =
            length-join (z.k * z.q) (l.cells * l.cell) (λ n. take (l.cells * l.cell) (drop 16 (block_at image (z.f + n)))) cell_row
            ∙ sym (cells-fill l z);
        zeros =
            zero-blocks l lays z (λ n. take (l.cells * l.cell) (drop 16 (block_at image (z.f + n)))) cell_row
            ∙ all_yes (z.k * z.q) _ (λ n h.
            let s = drop 16 (block_at image (z.f + n)) in
            ap (zero_bytes l l.cells) (sym (take-take (l.cells * l.cell) 480 s lays.payload-fits))
            ∙ zero-take l lays (take 480 s) ∙ (formed-parts l (take 480 s) (cells-formed n h)).0);
      }
