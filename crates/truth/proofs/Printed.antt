-- Theorem: what the printing program prints of a flowset is true.
use mathlib.Core.Path.{◌≡◌, refl, sym, ap, ap₂, subst, ◌∙◌}
use mathlib.Core.Bool.{Bool, true, not, cond}
use mathlib.Core.List.{List, [], ◌∷◌, ◌++◌}
use mathlib.Core.Logic.{inl, inr}
use Prim.Native.Nat.{ℕ, ◌-◌, ◌*◌, ◌^◌, ◌<◌}
use native.Mathlib.Omega.{arith}
use lib.Dec.{ltb}
use lib.ListN.{length, replicate, length-replicate}
use Rattle.std.specs.Prelude.{Result, Ok, Err}
use Rattle.laws.specs.BigEndian.{bytes_of}
use Rattle.laws.proofs.Bools.{split, clash}
use Rattle.laws.proofs.Lowest.{number_same, number-zero}
use Rattle.laws.proofs.Upto.{any_some}
use Rattle.layout.specs.declared.Layout.{Layout}
use Rattle.layout.specs.declared.Sizes.{Sizes}
use Rattle.layout.specs.Sizes.{ipv4_layout, table_cells, blocks}
use Rattle.layout.proofs.Ranges.{lays-ipv4}
use Rattle.hash.specs.Places.{has_cell}
use Rattle.block.specs.Block.{image_of}
use Rattle.sealing.specs.Seal.{Sealable, Sealing, seal_of, sealing}
use Rattle.sealing.proofs.Answers.{seal-done}
use Rattle.image.proofs.Back.{read_back}
use Rattle.image.proofs.Blocks.{length-image}
use Rattle.opening.specs.Open.{opened_memory}
use Rattle.opening.proofs.Answers.{opened-rooms}
use Rattle.room.specs.declared.Session.{Session}
use Rattle.room.specs.Memory.{Memory}
use Rattle.summary.specs.declared.Report.{Report}
use Rattle.summary.specs.declared.State.TheVariants.{Stray}
use Rattle.summary.specs.Report.{state_of, nothing_left, counted_in, report_of}
use Rattle.session.specs.declared.SettleError.{SettleError}
use Rattle.session.specs.declared.SessionError.TheVariants.{NotSession, BadRoom}
use Rattle.session.specs.declared.SettleError.TheVariants as settled
use Rattle.session.specs.Calls.{settle_of, settle_number, report_in}
use Rattle.lines.specs.Text.{head_line}
use Rattle.printing.specs.Print.{listed_lines, room_lines, settled_lines, session_lines, read_lines, image_lines, printed}
use Rattle.printing.proofs.Input.{slot-image}
use Rattle.meaning.specs.Meaning as encoder
use Rattle.meaning.proofs.Ipv4.{start-clears}
use Rattle.meaning.proofs.Meaning.{packets-mean}
use Rattle.meaning.proofs.Session.{cells-placed}
use Rattle.theory.specs.Encode.{Key, same_key, among, Distinct, sum_over, count, Taken, flows_of, packets_of, NeverMistaken, encode_cell}
use Rattle.theory.specs.Session as theory
use Rattle.theory.specs.Session.{Record, keys_of, keys_where, unknowns_of, open_cells, Stop, stop_number}
use Rattle.theory.specs.HandOver.{settling, settle_at}
use Rattle.theory.specs.Report as theory-report
use Rattle.theory.specs.Demands.{keep}
use Rattle.theory.proofs.Alone.{alone-known}
use Rattle.theory.proofs.Flow.{same-eq, among_none}
use Rattle.theory.proofs.Records.{keys_length}
use Rattle.theory.proofs.Stray.{never-stray}
use Rattle.demands.specs.Calls.{Live, after_settle, call_on, calls_on, accepted, KeysFit, viewed, Passing}
use Rattle.demands.specs.Demands.{state_as, Received, Demand2At}
use Rattle.demands.proofs.Received.{opened_live, goes_through, received-passing, received-viewed, received-switch}
use Rattle.demands.proofs.Steps.{settle-follows, settle-number}
use Rattle.demands.proofs.Reported.{report-counts}
use Rattle.demands.proofs.Demands.{demand-2}
use Rattle.truth.specs.Printed.{start_leaves, taken_since, Written, flow_lines, opens_left, report_alone, Prints}
use Rattle.truth.specs.Page.{lines_of}
use Rattle.truth.proofs.Lines.{lines-of, counts-right, right-lines}

-- answer 0 lists flows
settled-listed : (slot salt : ℕ) (numbers : Session) (m : Memory) (a : Result ℕ SettleError) → settle_number a ≡ 0
    → settled_lines slot salt m a ≡ room_lines slot salt (after_settle numbers a).listed m
unfolding settled_lines
settled-listed slot salt numbers m (Ok n) e = refl
settled-listed slot salt numbers m (Err (settled.Damaged d)) e = absurd (omega arith)
settled-listed slot salt numbers m (Err (settled.Session NotSession)) e = absurd (omega arith)
settled-listed slot salt numbers m (Err (settled.Session BadRoom)) e = absurd (omega arith)

pub same-sizes : (numbers : Session) (a : Result ℕ SettleError) → (after_settle numbers a).sizes ≡ numbers.sizes
same-sizes numbers (Ok n) = refl
same-sizes numbers (Err (settled.Damaged d)) = refl
same-sizes numbers (Err (settled.Session NotSession)) = refl
same-sizes numbers (Err (settled.Session BadRoom)) = refl

stop-0 : (a : Stop) → stop_number a ≡ 0 → a ≡ theory.settled
stop-0 theory.settled e = refl
stop-0 (theory.damage c) e = absurd (omega arith)

-- where no count is unknown, all are known
known-all : (rs : List Record) → unknowns_of rs ≡ [] → length (keys_where (λ r. r.known) rs) ≡ length rs
unfolding keys_where
known-all [] e = refl
known-all (r ∷ rs) e = elim (split r.known) [
  | inl k ↦ rw k (omega (arith, known-all rs (rw k at e)))
  | inr k ↦ absurd (let q = ap length (rw k at e) in omega arith)
]

-- where none is counted, no kept key passes
keep-none : (P Q : Key → Bool) (F : List Key) → count P (keep Q F) ≡ 0 → (k : Key) → among k F ≡ true → P k ≡ true → Q k ≡ true → ⊥
unfolding sum_over keep among
keep-none P Q [] e k m p q = clash m refl
keep-none P Q (x ∷ F) e k m p q = elim (split (same_key k x)) [
  | inl s ↦ (let w = same-eq k x s in omega (arith, rw (rw w at q, rw w at p) at e))
  | inr s ↦ keep-none P Q F (fewer (Q x) e) k (rw s at m) p q
]
  where
    fewer : (a : Bool) → count P (cond a (x ∷ keep Q F) (keep Q F)) ≡ 0 → count P (keep Q F) ≡ 0
    fewer a h = elim (split a) [
      | inl u ↦ elim (split (P x)) [ inl t ↦ omega (arith, rw (u, t) at h) | inr t ↦ rw (u, t) at h ]
      | inr u ↦ rw u at h
    ]

-- where nothing is unknown and the state is not stray, it is the one where nothing is left
not-stray : (opens : ℕ) (nothing : Bool) → (state_of opens 0 nothing ≡ Stray → ⊥) → state_of opens 0 nothing ≡ state_of opens 0 true
not-stray opens nothing never = elim (split (ltb 0 opens)) [
  | inl a ↦ rw a
  | inr a ↦ elim (split nothing) [ inl b ↦ rw b | inr b ↦ absurd (never (rw (a, b))) ]
]

report-path : {a b : Report} → a.listed ≡ b.listed → a.counted ≡ b.counted → a.opens ≡ b.opens → a.state ≡ b.state → a ≡ b
report-path p q r t = λ i. record { listed = p i; counted = q i; opens = r i; state = t i }

module _ (z : Sizes) (salt slot : ℕ) (salt-fits : salt < 2 ^ 32) (slot-fits : slot < 2 ^ 32) (packets : List (List ℕ)) (image_room image : List ℕ)
    (seals : let m = encoder.packets_run z salt packets in seal_of ipv4_layout z salt slot m.filter m.cells image_room ≡ sealing (Ok tt) image)
    (clean : NeverMistaken (encoder.taken_in z salt packets)) where
  abbrev l : Layout
  l = ipv4_layout

  abbrev m : encoder.Memory
  m = encoder.packets_run z salt packets

  abbrev taken : List Taken
  taken = encoder.taken_in z salt packets

  abbrev written : List ℕ
  written = image_of l z salt slot m.filter m.cells

  abbrev sealable : Sealable l z m.filter m.cells
  sealable = (seal-done l z salt slot m.filter m.cells image_room (ap (λ (s : Sealing). s.answer) seals)).0

  image-is : image ≡ written
  image-is = sym (ap (λ (s : Sealing). s.image) seals)
      ∙ (seal-done l z salt slot m.filter m.cells image_room (ap (λ (s : Sealing). s.answer) seals)).1

  -- ---- opened and settled
  abbrev v : Live
  v = opened_live l z salt slot written

  received : Received l z salt slot m v
  received = goes_through l lays-ipv4 z sealable.sizes salt slot salt-fits slot-fits m taken (packets-mean z salt packets)
      (replicate (blocks z * 512) 0) (length-replicate (blocks z * 512) 0) (opened_memory l z salt written)
      (opened-rooms l z salt written lays-ipv4 sealable.sizes (length-image l z salt slot m.filter m.cells lays-ipv4))

  passing : Passing l v
  passing = received-passing l lays-ipv4 z salt slot m v received

  demand : Demand2At l z salt taken v
  unfolding calls_on KeysFit accepted
  demand = demand-2 z salt slot packets v received [] tt (record {
    clean = clean;
    accepted-counted = λ k h. among_none k h;
  })

  abbrev u : Live
  u = call_on l settling v

  abbrev s : theory.Session
  s = viewed l u

  abbrev flows : List Key
  flows = keys_of s.list

  pub settled-passing : Passing l u
  settled-passing = (settle-follows l v passing).passing

  once : Distinct flows
  once = demand.truthful-settled.listed-once

  -- without hand-overs no count is unknown
  all_known : unknowns_of s.list ≡ []
  all_known =
      let seen = ap₂ (λ w t. settle_at w t) (received-switch l lays-ipv4 z salt slot m v received) (received-viewed l lays-ipv4 z salt slot m v received) in
      let zero = sym (settle-number l v passing ∙ ap (λ e. stop_number e.stop) seen) ∙ demand.answers-0 in
      ap (λ (t : theory.Session). unknowns_of t.list) ((settle-follows l v passing).seen_as ∙ ap (λ e. e.state) seen)
      ∙ alone-known (table_cells l z) (has_cell l z salt) _ (stop-0 _ zero)

  -- ---- the report and the lines
  abbrev n : ℕ
  n = u.numbers.listed

  abbrev F : List Key
  F = flows_of taken

  opens : open_cells (table_cells l z) s.cells ≡ opens_left z salt F flows
  unfolding open_cells opens_left encode_cell
  opens = number_same (table_cells l z) _ _ (λ c h. ap (λ cell. ltb 0 cell.flow_count) (demand.truthful-settled.cells_left c))

  reported : report_in n u.room ≡ report_alone (length flows) (opens_left z salt F flows)
  unfolding call_on report_of theory-report.report
  reported =
      let said = (report-counts l u settled-passing).1 in
      let is : n ≡ length flows = ap (λ r. r.listed) said ∙ sym (keys_length s.list) in
      let known : counted_in n u.room.list.flags ≡ length flows =
      ap (λ r. r.counted) said ∙ known-all s.list all_known ∙ sym (keys_length s.list) in
      let open_is = ap (λ r. r.opens) said ∙ ap (λ y. open_cells (table_cells l y) s.cells) (same-sizes v.numbers (settle_of l v.numbers v.room).answer) ∙ opens in
      let none : n - counted_in n u.room.list.flags ≡ 0 = omega (arith, is, known) in
      let left : Bool = nothing_left u.room.table.xors u.room.packets in
      let state : state_of (report_in n u.room).opens (n - counted_in n u.room.list.flags) left ≡ state_of (opens_left z salt F flows) 0 left
      = ap₂ (λ a b. state_of a b left) open_is none in
      report-path is known open_is (state ∙ not-stray (opens_left z salt F flows) left
      (λ e. never-stray l.key (has_cell l z salt) F (packets_of taken) (table_cells l u.numbers.sizes) s demand.truthful-settled
      (sym (ap (λ r. r.state) said) ∙ ap state_as (state ∙ e))))

  lines_are : lines_of s.list ≡ flow_lines (packets_of taken) flows
  lines_are = right-lines (packets_of taken) s.list all_known (counts-right (packets_of taken) s.list once demand.truthful-settled.counts-true)

  session-is : session_lines v.numbers v.room ≡ room_lines slot salt n u.room
  unfolding session_lines call_on
  session-is = let e = settle_of l v.numbers v.room in settled-listed slot salt v.numbers e.room e.answer demand.answers-0

  image-lines : image_lines slot written ≡ session_lines v.numbers v.room
  unfolding image_lines read_lines
  image-lines = rw (read_back l lays-ipv4 z m.filter m.cells sealable salt slot salt-fits slot-fits).0

  -- what is printed are the lines of the settled session
  pub shows : printed (bytes_of 4 slot ++ image) ≡ room_lines slot salt n u.room
  shows = slot-image slot image slot-fits ∙ ap (image_lines slot) image-is ∙ image-lines ∙ session-is

  text : printed (bytes_of 4 slot ++ image) ≡ head_line slot salt (report_alone (length flows) (opens_left z salt F flows)) ++ flow_lines (packets_of taken) flows
  unfolding listed_lines
  text = shows
      ∙ ap₂ (λ (r : Report) (t : List ℕ). head_line slot salt r ++ t) reported (lines-of u.room.list n ∙ lines_are)

  -- every flow has a cell, and where it is not listed that cell is open
  whole : opens_left z salt F flows ≡ 0 → (k : Key) → among k F ≡ true → among k flows ≡ true
  unfolding opens_left
  whole none k member =
      let c = any_some (table_cells l z) (has_cell l z salt k) ((cells-placed l z lays-ipv4 sealable.sizes salt).somewhere k) in
      let left : ℕ → ℕ = λ a. count (λ x. has_cell l z salt x a) (keep (λ x. not (among x flows)) F) in
      elim (split (among k flows)) [
        | inl h ↦ h
        | inr h ↦ absurd (keep-none (λ x. has_cell l z salt x c.0) (λ x. not (among x flows)) F
            (number-zero (table_cells l z) left none c.0 c.1) k member c.2 (ap not h))
      ]

  prints-run : Prints z salt slot taken (printed (bytes_of 4 slot ++ image))
  prints-run = record {
    flows = flows;
    once = once;
    counted-here = demand.truthful-settled.listed-counted;
    at-end = demand.at-end.none-unlisted;
    lines = text;
    whole = whole;
  }

-- Theorem: from a start, any packets and sealing, where the filter never took a new flow for an old one, the program prints the truth
pub prints-truth : (z : Sizes) (salt slot : ℕ) (filter cells : List ℕ) (packets : List (List ℕ)) (image : List ℕ)
    → Written z salt slot filter cells packets image → NeverMistaken (taken_since z salt (start_leaves z filter cells) packets)
    → Prints z salt slot (taken_since z salt (start_leaves z filter cells) packets) (printed (bytes_of 4 slot ++ image))
prints-truth z salt slot filter cells packets image made =
    let clears = start-clears ipv4_layout z filter cells made.starts in
    let fresh : start_leaves z filter cells ≡ encoder.cleared ipv4_layout z = ap₂ (λ f c. record { filter = f; cells = c }) clears.0 clears.1 in
    subst (λ (x : encoder.Memory). (let m = encoder.offer_all (encoder.packet_call z salt) packets x in
    seal_of ipv4_layout z salt slot m.filter m.cells made.image_room ≡ sealing (Ok tt) image)
    → NeverMistaken (taken_since z salt x packets) → Prints z salt slot (taken_since z salt x packets) (printed (bytes_of 4 slot ++ image)))
    (sym fresh)
    (prints-run z salt slot made.salt-fits made.slot-fits packets made.image_room image) made.seals
