-- 01 'Printing program': an empty flowset, of any sizes, prints its slot and salt, three zeros and `whole`.
use mathlib.Core.Path.{◌≡◌, refl, sym, ap, ap₂, ◌∙◌}
use mathlib.Core.Bool.{Bool, true, false}
use mathlib.Core.List.{List, [], ◌∷◌, ◌++◌, append-nil}
use Prim.Native.Nat.{ℕ, zero, suc, ◌+◌, ◌-◌, ◌*◌, ◌/◌, ◌%◌, ◌^◌, ◌<◌}
use native.Mathlib.Omega.{arith}
use borrow.Author.Tests.{eq-eqb, le-ltb}
use Rattle.std.specs.Prelude.{Ok}
use lib.Bits.{bit_and}
use lib.Dec.{ltb}
use lib.ListN.{length, get_or, set, replicate, length-replicate}
use lib.Seq.{set-get_or}
use Rattle.laws.specs.BigEndian.{bytes_of, number_of}
use Rattle.laws.specs.Upto.{join_upto, number_upto}
use Rattle.laws.specs.Zeros.{all_zero}
use Rattle.laws.proofs.BigEndian.{number-zeros}
use Rattle.laws.proofs.Lists.{zero-at, part-zeros}
use Rattle.laws.proofs.Lowest.{number-none}
use Rattle.laws.proofs.Rows.{row_within, length-join, join-part}
use Rattle.laws.proofs.Upto.{each_keeps, all_yes, list_at, length-list}
use Rattle.laws.proofs.Zeros.{zero-rows, zeros-zero}
use Rattle.layout.specs.declared.Layout.{Layout}
use Rattle.layout.specs.declared.Sizes.{Sizes}
use Rattle.layout.specs.Sizes.{Ranged, ipv4_layout, table_cells, cell_bytes, filter_bytes}
use Rattle.layout.proofs.Ranges.{lays-ipv4, range-test}
use Rattle.fields.specs.Field.{field}
use Rattle.cell.specs.Cell.{flow_xor_at, flow_count_at, packet_count_at}
use Rattle.block.specs.Block.{image_of, zero_bytes}
use Rattle.sealing.specs.Seal.{Sealable}
use Rattle.reading.specs.Read.{image_with, read_of, filter_in, cells_in}
use Rattle.reading.proofs.Accepts.{accepted}
use Rattle.image.proofs.Back.{read_back}
use Rattle.list.specs.Records.{Records}
use Rattle.marks.specs.Marks.{words_for, put_mark, first_mark}
use Rattle.table.specs.Table.{Tab, open_in}
use Rattle.peeling.specs.Peel.{peeled, peel_of, ended, after_peel, peels_upto, peels_of}
use Rattle.table.proofs.Parts.{pure-no}
use Rattle.counting.specs.Count.{counts_upto, counts_of}
use Rattle.settling.specs.Settle as settling
use Rattle.settling.specs.Settle.{after_counts, then_counts}
use Rattle.room.specs.declared.Session.{Session}
use Rattle.room.specs.Memory.{Memory}
use Rattle.room.proofs.Laws.{rooms-asked}
use Rattle.opening.specs.Open.{xors_in, flows_in, packets_in, marks_of, opened_memory}
use Rattle.opening.proofs.Answers.{opened-rooms, opened-session}
use Rattle.summary.specs.declared.Report.{Report}
use Rattle.summary.specs.declared.State.TheVariants.{Whole}
use Rattle.summary.specs.Report.{counted_in, nothing_left, report_of}
use Rattle.session.specs.Calls.{Settling, settling_to, settle_leaves, settle_of, report_in, index_of}
use Rattle.session.proofs.Answers.{Passes}
use Rattle.session.proofs.Laws.{settle-passes}
use Rattle.lines.specs.Text.{head_line}
use Rattle.lines.proofs.Example.{example}
use Rattle.printing.specs.Print.{listed_lines, settled_lines, session_lines, read_lines, image_lines, printed}
use Rattle.printing.proofs.Input.{slot-image}

abbrev zeros : ℕ → List ℕ
zeros n = replicate n 0

-- ---- no cell is marked
put-zeros : (k c : ℕ) → put_mark (zeros k) c false ≡ zeros k
unfolding put_mark
put-zeros k c =
    let i = c / 64 in
    let e = zero-at k i in
    ap (λ (x : ℕ). set (zeros k) i (bit_and x (2 ^ 64 - 1 - 2 ^ (c % 64)))) e ∙ ap (set (zeros k) i) (sym e) ∙ set-get_or (zeros k) i 0

module _ (l : Layout) (z : Sizes) (salt : ℕ) (xors flows : List ℕ) (none : (c : ℕ) → c < table_cells l z → get_or flows c 0 ≡ 0) where
  marks-none : marks_of l z salt xors flows ≡ zeros (words_for (table_cells l z))
  unfolding marks_of
  marks-none =
      let k = words_for (table_cells l z) in
      each_keeps (λ (s : List ℕ). s ≡ zeros k) (table_cells l z) _ (zeros k) refl
      (λ c s h e. ap₂ (λ (x : List ℕ) (b : Bool). put_mark x c b) e (sym (pure-no l z salt xors flows c (λ q. omega (arith, none c h))))
      ∙ put-zeros k c)

first-zeros : (k : ℕ) → first_mark (zeros k) ≡ 64 * k
unfolding first_mark
first-zeros zero = refl
first-zeros (suc k) = rw (first-zeros k) (omega arith)

-- ---- settling finds nothing to do
module _ (l : Layout) (z : Sizes) (salt : ℕ) (t : Tab) (packets : List ℕ) (rs : Records) (seen : List ℕ)
    (quiet : t.marks ≡ zeros (words_for (table_cells l z))) where
  peel-none : peel_of l z salt 0 t rs seen ≡ peeled (Ok false) t rs seen
  unfolding peel_of
  peel-none =
      let e = ap first_mark quiet ∙ first-zeros (words_for (table_cells l z)) in
      rw (le-ltb (first_mark t.marks) (table_cells l z) (omega arith))

  peels-none : peels_of l z salt 0 t rs seen ≡ ended (Ok 0) t rs seen
  unfolding peels_of peels_upto after_peel
  peels-none = rw peel-none

  settle-none : settling.settle_of l z salt 0 t packets rs seen ≡ settling.settled (Ok 0) t packets rs seen
  unfolding settling.settle_of then_counts after_counts counts_of counts_upto
  settle-none = rw peels-none

-- ---- nothing is listed, nothing is open and nothing is left
abbrev empty_report : Report
empty_report = record { listed = 0; counted = 0; opens = 0; state = Whole }

empty-report : (xors flows packets flags : List ℕ) → all_zero xors ≡ true → ((c : ℕ) → c < length flows → get_or flows c 0 ≡ 0)
    → all_zero packets ≡ true → report_of 0 xors flows packets flags ≡ empty_report
unfolding report_of counted_in open_in number_upto nothing_left
empty-report xors flows packets flags e h f =
    rw (e, f, number-none (length flows) (λ c. ltb 0 (get_or flows c 0)) (λ c q. le-ltb 0 (get_or flows c 0) (omega (arith, h c q))))

-- ---- an image of cleared memory
module _ (z : Sizes) (r : Ranged z) where
  abbrev cells : List ℕ
  cells = zeros (cell_bytes ipv4_layout z)

  sealable : Sealable ipv4_layout z (zeros (filter_bytes z)) cells
  unfolding zero_bytes
  sealable = record {
    sizes = r;
    filter-length = length-replicate (filter_bytes z) 0;
    cells-length = length-replicate (cell_bytes ipv4_layout z) 0;
    zeros = all_yes (table_cells ipv4_layout z) _ (λ c h. eq-eqb _ 0 (zero-at (cell_bytes ipv4_layout z) (c * 20 + 13)));
  }

  -- every FlowCount is 0
  count-zero : (c : ℕ) → c < table_cells ipv4_layout z → flow_count_at ipv4_layout cells c ≡ 0
  unfolding flow_count_at field cell_bytes
  count-zero c h =
      ap number_of (part-zeros (table_cells ipv4_layout z * 20) (c * 20 + 13 + 1) 2 (omega (arith, row_within c (table_cells ipv4_layout z) 20 h)))
      ∙ number-zeros 2

  -- and so are every FlowXOR and PacketCount
  xor-zero : (c : ℕ) → c < table_cells ipv4_layout z → flow_xor_at ipv4_layout cells c ≡ zeros 13
  unfolding flow_xor_at cell_bytes
  xor-zero c h = part-zeros (table_cells ipv4_layout z * 20) (c * 20) 13 (omega (arith, row_within c (table_cells ipv4_layout z) 20 h))

  packets-zero : (c : ℕ) → c < table_cells ipv4_layout z → packet_count_at ipv4_layout cells c ≡ 0
  unfolding packet_count_at field cell_bytes
  packets-zero c h =
      ap number_of (part-zeros (table_cells ipv4_layout z * 20) (c * 20 + 13 + 3) 4 (omega (arith, row_within c (table_cells ipv4_layout z) 20 h)))
      ∙ number-zeros 4

  module _ (salt slot : ℕ) (p : salt < 2 ^ 32) (q : slot < 2 ^ 32) where
    abbrev image : List ℕ
    image = image_of ipv4_layout z salt slot (zeros (filter_bytes z)) cells

    abbrev opened : Memory
    opened = opened_memory ipv4_layout z salt image

    abbrev start : Session
    start = record { sizes = z; salt = salt; slot = slot; listed = 0 }

    back : (read_of ipv4_layout image slot ≡ image_with z salt) × (filter_in z image ≡ zeros (filter_bytes z)) × (cells_in ipv4_layout z image ≡ cells)
    back = read_back ipv4_layout lays-ipv4 z (zeros (filter_bytes z)) cells sealable salt slot p q

    flows-zero : (c : ℕ) → c < table_cells ipv4_layout z → get_or (flows_in ipv4_layout z image) c 0 ≡ 0
    unfolding flows_in
    flows-zero c h =
        list_at (table_cells ipv4_layout z) (flow_count_at ipv4_layout (cells_in ipv4_layout z image)) 0 c h
        ∙ ap (λ (s : List ℕ). flow_count_at ipv4_layout s c) back.2 ∙ count-zero c h

    flows_long : length (flows_in ipv4_layout z image) ≡ table_cells ipv4_layout z
    unfolding flows_in
    flows_long = length-list (table_cells ipv4_layout z) (flow_count_at ipv4_layout (cells_in ipv4_layout z image))

    xors-left : all_zero (xors_in ipv4_layout z image) ≡ true
    unfolding xors_in
    xors-left =
        let n = table_cells ipv4_layout z in
        let f : ℕ → List ℕ = flow_xor_at ipv4_layout (cells_in ipv4_layout z image) in
        let is : (c : ℕ) → c < n → f c ≡ zeros 13 = λ c h. ap (λ (s : List ℕ). flow_xor_at ipv4_layout s c) back.2 ∙ xor-zero c h in
        let long : (c : ℕ) → c < n → length (f c) ≡ 13 = λ c h. ap length (is c h) in
        zero-rows n 13 (join_upto n f) (length-join n 13 f long)
        ∙ all_yes n _ (λ c h. ap all_zero (join-part n 13 f long c h ∙ is c h) ∙ zeros-zero 13)

    packets-left : all_zero (packets_in ipv4_layout z image) ≡ true
    unfolding packets_in all_zero
    packets-left =
        let n = table_cells ipv4_layout z in
        let f : ℕ → ℕ = packet_count_at ipv4_layout (cells_in ipv4_layout z image) in
        all_yes _ _ (λ c h. eq-eqb _ 0 (list_at n f 0 c (omega (arith, length-list n f))
        ∙ ap (λ (s : List ℕ). packet_count_at ipv4_layout s c) back.2 ∙ packets-zero c (omega (arith, length-list n f))))

    passes : Passes ipv4_layout start opened
    passes =
        let a = accepted ipv4_layout z salt slot image back.0 in
        record {
          sizes = range-test z r;
          room = rooms-asked ipv4_layout z lays-ipv4 r opened (opened-rooms ipv4_layout z salt image lays-ipv4 r a.whole);
          rest = opened-session ipv4_layout z salt image;
        }

    -- settling changes nothing
    still : settle_of ipv4_layout start opened ≡ settling_to (Ok 0) opened
    unfolding opened_memory
    still =
        settle-passes ipv4_layout start opened passes
        ∙ ap (settle_leaves opened)
        (settle-none ipv4_layout z salt opened.table opened.packets opened.list (index_of ipv4_layout start opened)
        (marks-none ipv4_layout z salt (xors_in ipv4_layout z image) (flows_in ipv4_layout z image) flows-zero))

    lines : session_lines start opened ≡ head_line slot salt empty_report
    unfolding session_lines settled_lines listed_lines join_upto opened_memory
    lines =
        ap (λ (x : Settling). settled_lines slot salt x.room x.answer) still
        ∙ append-nil (head_line slot salt (report_in 0 opened))
        ∙ ap (head_line slot salt) (empty-report opened.table.xors opened.table.flows opened.packets opened.list.flags
        xors-left (λ c h. flows-zero c (omega (arith, flows_long))) packets-left)

    pub empty-prints : printed (bytes_of 4 slot ++ image) ≡ head_line slot salt empty_report
    unfolding image_lines read_lines
    empty-prints = slot-image slot image q ∙ rw back.0 lines

-- slot 7, salt 9: `7 9 0 0 0 whole` and a line feed
pub empty-example : (z : Sizes) → Ranged z
    → printed (bytes_of 4 7 ++ image_of ipv4_layout z 9 7 (zeros (filter_bytes z)) (zeros (cell_bytes ipv4_layout z)))
    ≡ 55 ∷ 32 ∷ 57 ∷ 32 ∷ 48 ∷ 32 ∷ 48 ∷ 32 ∷ 48 ∷ 32 ∷ 119 ∷ 104 ∷ 111 ∷ 108 ∷ 101 ∷ 10 ∷ []
empty-example z r = empty-prints z r 9 7 (omega arith) (omega arith) ∙ example
