-- What the copying loops leave: the payloads of the filter blocks, and the cells of the cell blocks, one after the other.
use mathlib.Core.Path.{◌≡◌, sym, ap, ◌∙◌}
use mathlib.Core.List.{List, ◌++◌, append-nil}
use Prim.Native.Nat.{ℕ, zero, suc, ◌+◌, ◌-◌, ◌*◌, ◌≤◌, ◌<◌}
use native.Mathlib.Nat.{add-zero, mul-le-mul}
use native.Mathlib.Numerals.{add-one}
use native.Mathlib.Omega.{arith}
use lib.ListN.{length, set, take, drop, drop_of_length-le}
use lib.Seq.{sets}
use Rattle.laws.specs.BigEndian.{number_of}
use Rattle.laws.specs.Upto.{each_upto, join_upto, list_upto}
use Rattle.laws.proofs.Lists.{length_part, lent-sets, part-inside}
use Rattle.laws.proofs.Rows.{row_next, row_within, row_put, join-part, join-turn, length-join}
use Rattle.laws.proofs.Upto.{each_more, element-put}
use Rattle.layout.specs.declared.Layout.{Layout}
use Rattle.layout.specs.declared.Sizes.{Sizes}
use Rattle.layout.specs.Sizes.{Lays, table_cells, cell_bytes, filter_bytes, blocks}
use Rattle.fields.specs.Field.{field}
use Rattle.cell.specs.Cell.{flow_count_place, packet_count_place, flow_xor_at, flow_count_at, packet_count_at}
use Rattle.block.specs.Block.{block_at}
use Rattle.reading.specs.Read.{filter_in, cells_in}
use Rattle.block.proofs.Cells.{used-long, byte-place, table-rows, cells-fill}
use Rattle.opening.specs.Blocks.{Fields, fields, copied_cell, copied_block}
use Rattle.opening.specs.Open.{xors_in, flows_in, packets_in}

-- ---- the filter
-- the used bytes of a payload, as the code lends them
payload-is : (image : List ℕ) (n w : ℕ) → w ≤ 480 → take w (drop 16 (block_at image n)) ≡ take w (drop (n * 512 + 16) image)
payload-is image n w h = part-inside image (n * 512) 512 16 w (omega arith)

-- the payloads of the first n blocks, and behind them what stood there
abbrev pub filter_to : List ℕ → List ℕ → ℕ → List ℕ
filter_to image s n = join_upto n (λ i. take 480 (drop 16 (block_at image i))) ++ drop (n * 480) s

module _ (z : Sizes) (image : List ℕ) (whole : length image ≡ blocks z * 512) where
  length-payloads : (n : ℕ) → n ≤ z.f → length (join_upto n (λ i. take 480 (drop 16 (block_at image i)))) ≡ n * 480
  unfolding blocks
  length-payloads n h =
      length-join n 480 (λ i. take 480 (drop 16 (block_at image i))) (λ i q. used-long z image whole i 480 (omega arith) (omega arith))

  pub length-filter : length (filter_in z image) ≡ filter_bytes z
  unfolding filter_in filter_bytes
  length-filter = length-payloads z.f (omega arith) ∙ omega arith

  module _ (s : List ℕ) where
    pub filter-turn : (n : ℕ) {filter part : List ℕ} → n < z.f → filter ≡ filter_to image s n
        → part ≡ take (n * 512 + 16 + 480 - (n * 512 + 16)) (drop (n * 512 + 16) image)
        → take (n * 480) filter ++ (part ++ drop (n * 480 + 480 - n * 480) (drop (n * 480) filter)) ≡ filter_to image s (n + 1)
    filter-turn n h e f =
        let k : n * 512 + 16 + 480 - (n * 512 + 16) ≡ 480 = omega arith in
        let m : n * 480 + 480 - n * 480 ≡ 480 = omega arith in
        rw (e, f, k, m, ← payload-is image n 480 (omega arith))
        (join-turn n 480 (λ i. take 480 (drop 16 (block_at image i))) s (length-payloads n (omega arith)))

    pub filter-all : (n : ℕ) → n ≡ z.f → length s ≡ filter_bytes z → filter_to image s n ≡ filter_in z image
    unfolding filter_in filter_bytes
    filter-all n e h =
        rw (e, drop_of_length-le s {i = z.f * 480} (omega arith)) (append-nil (join_upto z.f (λ i. take 480 (drop 16 (block_at image i)))))

-- ---- a cell
-- what the code's stores leave
pub cell-copied : (l : Layout) (payload : List ℕ) (first d : ℕ) (f : Fields) {xor : List ℕ} {flow packet : ℕ}
    → d * l.cell + l.key ≤ length payload → (first + d) * l.key + l.key ≤ length f.xors
    → xor ≡ take (d * l.cell + l.key - d * l.cell) (drop (d * l.cell) payload)
    → flow ≡ flow_count_at l payload d → packet ≡ packet_count_at l payload d
    → fields (take ((first + d) * l.key) f.xors
    ++ (xor ++ drop ((first + d) * l.key + l.key - (first + d) * l.key) (drop ((first + d) * l.key) f.xors)))
    (set f.flows (first + d) flow) (set f.packets (first + d) packet)
    ≡ copied_cell l payload first d f
unfolding copied_cell flow_xor_at
cell-copied l payload first d f h q x y z =
    let k : d * l.cell + l.key - d * l.cell ≡ l.key = omega arith in
    let m : (first + d) * l.key + l.key - (first + d) * l.key ≡ l.key = omega arith in
    rw (x, y, z, k, m)
    (ap (λ s. fields s (set f.flows (first + d) (flow_count_at l payload d)) (set f.packets (first + d) (packet_count_at l payload d)))
    (lent-sets (take l.key (drop (d * l.cell) payload)) f.xors ((first + d) * l.key) l.key
    (length_part payload (d * l.cell) l.key h) q))

-- ---- a block
pub block-turn : (l : Layout) (payload : List ℕ) (first d : ℕ) (f : Fields) {g h : Fields} → g ≡ each_upto d (copied_cell l payload first) f
    → h ≡ copied_cell l payload first d g → h ≡ each_upto (d + 1) (copied_cell l payload first) f
block-turn l payload first d f e g = g ∙ ap (copied_cell l payload first d) e ∙ sym (each_more d (copied_cell l payload first) f)

-- ---- all cells of a table
-- the first c cells, and behind them what stood there
abbrev pub written_to : Layout → List ℕ → Fields → ℕ → Fields
written_to l cells f c = fields
    (join_upto c (flow_xor_at l cells) ++ drop (c * l.key) f.xors)
    (list_upto c (flow_count_at l cells) ++ drop c f.flows)
    (list_upto c (packet_count_at l cells) ++ drop c f.packets)

pub written_none : (l : Layout) (cells : List ℕ) (f : Fields) → f ≡ written_to l cells f (0 * l.cells)
unfolding join_upto list_upto
written_none l cells f =
    let e : 0 * l.cells ≡ 0 = omega arith in
    let k : 0 * l.key ≡ 0 = omega arith in
    rw (e, k)

-- cell d of one list of cells is cell c of another
pub record SameCell (l : Layout) (payload : List ℕ) (d : ℕ) (cells : List ℕ) (c : ℕ) : Type 0 where
  pub xor_same : flow_xor_at l payload d ≡ flow_xor_at l cells c
  pub flow-same : flow_count_at l payload d ≡ flow_count_at l cells c
  pub packet-same : packet_count_at l payload d ≡ packet_count_at l cells c

pub xor-long : (l : Layout) → Lays l → (n : ℕ) (cells : List ℕ) → length cells ≡ n * l.cell → (c : ℕ) → c < n → length (flow_xor_at l cells c) ≡ l.key
unfolding flow_xor_at
xor-long l lays n cells long c h = length_part cells (c * l.cell) l.key (omega (arith, row_within c n l.cell h, lays.key_fits))

-- n cells, and slices for them
module _ (l : Layout) (lays : Lays l) (n : ℕ) (cells : List ℕ) (long : length cells ≡ n * l.cell) (f : Fields)
    (xors-fit : length f.xors ≡ n * l.key) (flows-fit : length f.flows ≡ n) (packets-fit : length f.packets ≡ n) where
  written-more : (c : ℕ) → c < n
      → fields (sets (written_to l cells f c).xors (c * l.key) (flow_xor_at l cells c)) (set (written_to l cells f c).flows c (flow_count_at l cells c))
      (set (written_to l cells f c).packets c (packet_count_at l cells c))
      ≡ written_to l cells f (c + 1)
  written-more c h =
      rw (
        row_put c l.key (flow_xor_at l cells) f.xors
            (length-join c l.key (flow_xor_at l cells) (λ i q. xor-long l lays n cells long i (omega arith)))
            (xor-long l lays n cells long c h) (omega (arith, row_within c n l.key h)),
        element-put c (flow_count_at l cells) f.flows (omega arith),
        element-put c (packet_count_at l cells) f.packets (omega arith),
      )

  copied-upto : (payload : List ℕ) (first d : ℕ) → first + d ≤ n → ((i : ℕ) → i < d → SameCell l payload i cells (first + i))
      → each_upto d (copied_cell l payload first) (written_to l cells f first) ≡ written_to l cells f (first + d)
  unfolding each_upto copied_cell
  copied-upto payload first zero h same = rw (add-zero first)
  copied-upto payload first (suc d) h same =
      let e : first + suc d ≡ first + d + 1 = omega arith in
      let s = same d (omega arith) in
      rw (copied-upto payload first d (omega arith) (λ i q. same i (omega arith)), s.xor_same, s.flow-same, s.packet-same, e)
      (written-more (first + d) (omega arith))

  written_all : written_to l cells f n
      ≡ fields (join_upto n (flow_xor_at l cells)) (list_upto n (flow_count_at l cells)) (list_upto n (packet_count_at l cells))
  written_all = rw (
    drop_of_length-le f.xors {i = n * l.key} (omega arith),
    drop_of_length-le f.flows {i = n} (omega arith),
    drop_of_length-le f.packets {i = n} (omega arith),
    append-nil (join_upto n (flow_xor_at l cells)),
    append-nil (list_upto n (flow_count_at l cells)),
    append-nil (list_upto n (packet_count_at l cells)),
  )

-- ---- the cells of an image
-- block n and its cells lie in image and table
pub block_within : (l : Layout) (z : Sizes) (n : ℕ) → n < z.k * z.q
    → (z.f + n < blocks z) × (n * l.cells + l.cells ≤ table_cells l z) × ((n * l.cells + l.cells) * l.key ≤ table_cells l z * l.key)
unfolding blocks
block_within l z n h =
    let p : n * l.cells + l.cells ≤ table_cells l z = omega (arith, table-rows l z, row_within n (z.k * z.q) l.cells h) in
    (omega arith, p, mul-le-mul p (omega arith))

module _ (l : Layout) (lays : Lays l) (z : Sizes) (image : List ℕ) (whole : length image ≡ blocks z * 512) where
  row_is : (n : ℕ) → n < z.k * z.q → length (take (l.cells * l.cell) (drop 16 (block_at image (z.f + n)))) ≡ l.cells * l.cell
  unfolding blocks
  row_is n h = used-long z image whole (z.f + n) (l.cells * l.cell) (omega arith) lays.payload-fits

  pub length-cells : length (cells_in l z image) ≡ table_cells l z * l.cell
  unfolding cells_in cell_bytes
  length-cells =
      length-join (z.k * z.q) (l.cells * l.cell) (λ i. take (l.cells * l.cell) (drop 16 (block_at image (z.f + i)))) row_is
      ∙ sym (cells-fill l z)

  pub length-xors : length (xors_in l z image) ≡ table_cells l z * l.key
  unfolding xors_in
  length-xors =
      length-join (table_cells l z) l.key (flow_xor_at l (cells_in l z image)) (xor-long l lays (table_cells l z) (cells_in l z image) length-cells)

  -- a part of cell d of payload n is that part of cell n × cells + d
  part-of-cell : {n d : ℕ} → n < z.k * z.q → d < l.cells → (j m a b : ℕ) → j + m ≤ l.cell → a ≡ d * l.cell + j
      → b ≡ (n * l.cells + d) * l.cell + j
      → take m (drop a (take 480 (drop ((z.f + n) * 512 + 16) image))) ≡ take m (drop b (cells_in l z image))
  unfolding cells_in
  part-of-cell {n} {d} h q j m a b r e f =
      let w = l.cells * l.cell in
      let i = d * l.cell + j in
      let at = (z.f + n) * 512 + 16 in
      let rows : ℕ → List ℕ = λ k. take w (drop 16 (block_at image (z.f + k))) in
      let inside : i + m ≤ w = omega (arith, row_within d l.cells l.cell q) in
      rw (e, f ∙ byte-place l n d j)
      (part-inside image at 480 i m (omega (arith, lays.payload-fits))
      ∙ sym (part-inside image at w i m inside)
      ∙ ap (λ s. take m (drop i s)) (sym (payload-is image (z.f + n) w lays.payload-fits) ∙ sym (join-part (z.k * z.q) w rows row_is n h))
      ∙ part-inside (join_upto (z.k * z.q) rows) (n * w) w i m inside)

  cell_same : (n d : ℕ) → n < z.k * z.q → d < l.cells
      → SameCell l (take 480 (drop ((z.f + n) * 512 + 16) image)) d (cells_in l z image) (n * l.cells + d)
  unfolding flow_xor_at flow_count_at packet_count_at field
  cell_same n d h q =
      let c = n * l.cells + d in
      let k = lays.key_fits in
      record {
        xor_same = part-of-cell h q 0 l.key (d * l.cell) (c * l.cell) (omega arith) (omega arith) (omega arith);
        flow-same = ap number_of (part-of-cell h q (l.key + 1) 2 (flow_count_place l d) (flow_count_place l c) (omega arith) (omega arith) (omega arith));
        packet-same = ap number_of
            (part-of-cell h q (l.key + 3) 4 (packet_count_place l d) (packet_count_place l c) (omega arith) (omega arith) (omega arith));
      }

  module _ (f : Fields) (xors-fit : length f.xors ≡ table_cells l z * l.key) (flows-fit : length f.flows ≡ table_cells l z)
      (packets-fit : length f.packets ≡ table_cells l z) where
    pub cells-turn : (n : ℕ) {g h : Fields} → n < z.k * z.q → g ≡ written_to l (cells_in l z image) f (n * l.cells)
        → h ≡ copied_block l (take ((z.f + n) * 512 + 16 + 480 - ((z.f + n) * 512 + 16)) (drop ((z.f + n) * 512 + 16) image)) (n * l.cells) g
        → h ≡ written_to l (cells_in l z image) f ((n + 1) * l.cells)
    unfolding copied_block
    cells-turn n p e q =
        let k : (z.f + n) * 512 + 16 + 480 - ((z.f + n) * 512 + 16) ≡ 480 = omega arith in
        let next : (n + 1) * l.cells ≡ n * l.cells + l.cells = rw add-one (row_next n l.cells) in
        q ∙ rw (k, e, next)
        (copied-upto l lays (table_cells l z) (cells_in l z image) length-cells f xors-fit flows-fit packets-fit
        (take 480 (drop ((z.f + n) * 512 + 16) image)) (n * l.cells) l.cells
        (block_within l z n p).1 (λ d r. cell_same n d p r))

    pub cells-all : (n : ℕ) → n ≡ z.k * z.q
        → written_to l (cells_in l z image) f (n * l.cells) ≡ fields (xors_in l z image) (flows_in l z image) (packets_in l z image)
    unfolding xors_in flows_in packets_in
    cells-all n e =
        ap (written_to l (cells_in l z image) f) (ap (λ m. m * l.cells) e ∙ sym (table-rows l z))
        ∙ written_all l lays (table_cells l z) (cells_in l z image) length-cells f xors-fit flows-fit packets-fit
