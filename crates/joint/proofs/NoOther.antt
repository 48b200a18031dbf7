-- Request m of document 02: where the report says whole, no other flows than the listed ones, and no other counts, encode to the cells that the image holds.
use mathlib.Core.Path.{◌≡◌, refl, sym, ap, ap₂, subst, ◌∙◌}
use mathlib.Core.Bool.{true}
use mathlib.Core.List.{List, []}
use Prim.Native.Nat.{ℕ, ◌*◌, ◌^◌, ◌<◌}
use native.Mathlib.Omega.{arith}
use borrow.Author.Tests.{lt-ltb, le-ltb}
use lib.ListN.{length, replicate, length-replicate}
use Rattle.std.specs.Prelude.{Result, Ok}
use Rattle.laws.specs.BigEndian.{Bytes}
use Rattle.laws.specs.Upto.{list_upto}
use Rattle.layout.specs.declared.Layout.{Layout}
use Rattle.layout.specs.declared.Sizes.{Sizes}
use Rattle.layout.specs.Sizes.{Lays, Ranged, ipv4_layout, table_cells, cell_bytes, blocks}
use Rattle.layout.proofs.Ranges.{lays-ipv4}
use Rattle.image.proofs.Written.{image-bytes}
use Rattle.reading.specs.Read.{filter_in, cells_in}
use Rattle.room.specs.Memory.{Memory, Rooms}
use Rattle.summary.specs.declared.Report.{Report}
use Rattle.summary.specs.declared.State.{State}
use Rattle.summary.specs.declared.State.TheVariants.{Stuck, Short, Stray, Whole}
use Rattle.session.specs.Calls.{report_in}
use Rattle.session.specs.declared.SessionError.{SessionError}
use Rattle.meaning.specs.Meaning as encoder
use Rattle.meaning.specs.View.{cell_at, table_of, placement_of, switch_of}
use Rattle.meaning.proofs.Meaning.{packets-mean}
use Rattle.meaning.proofs.Session.{cells-placed}
use Rattle.theory.specs.Encode.{Key, among, flows_after, flows_of, packets_of, EachTaken, NeverMistaken, Table}
use Rattle.theory.specs.Session.{keys_of, keys_where, handed_of, handed_over, counted, opened}
use Rattle.theory.specs.HandOver.{Switch, Call, calls}
use Rattle.theory.specs.Report as theory
use Rattle.theory.specs.Demands.{Premises}
use Rattle.theory.specs.NoOther.{IsTable, Since, ExactlyListed, NoOther, stated_in, ListedEncodes}
use Rattle.theory.proofs.Flow.{among_none}
use Rattle.theory.proofs.Records.{where-listed}
use Rattle.theory.proofs.Stray.{counted-whole}
use Rattle.theory.proofs.NoOther.{whole-no-other, whole-encodes}
use Rattle.demands.specs.Calls.{Live, viewed, switch_at, Passing}
use Rattle.demands.specs.Demands.{Received, state_as}
use Rattle.demands.proofs.Images.{sealable, image-passing, image-viewed, image-switch}
use Rattle.opening.proofs.Copies.{xor-long}
use Rattle.demands.proofs.Received.{opened_live, opened-live, sealed_image, goes_through, image-is, received-ranged, received-passing, received-viewed, received-switch}
use Rattle.demands.proofs.Demands as demands
use Rattle.demands.proofs.Reported.{report-counts}
use Rattle.demands.proofs.Steps.{Follows, viewed-sized}
use Rattle.joint.specs.History as history
use Rattle.joint.specs.History.{History}
use Rattle.joint.specs.NoOther.{SaysWhole, ReportsWhole, EncodesToImage}
use Rattle.joint.proofs.History.{history-follows, history-at}

whole-as : (a : State) → state_as a ≡ theory.whole → a ≡ Whole
whole-as Whole e = refl
whole-as Stuck e = absurd (let q : ◌≡◌ {A = ℕ} 0 1 = cc in omega arith)
whole-as Short e = absurd (let q : ◌≡◌ {A = ℕ} 0 1 = cc in omega arith)
whole-as Stray e = absurd (let q : ◌≡◌ {A = ℕ} 0 1 = cc in omega arith)

told-report : {a b : Report} → ◌≡◌ {A = Result Report SessionError} (Ok a) (Ok b) → a ≡ b
told-report e = cc

-- cells of the right length as the theory's table
cells-table : (l : Layout) → Lays l → (z : Sizes) (cells : List ℕ) → length cells ≡ cell_bytes l z → IsTable (table_cells l z) l.key (table_of l z cells)
unfolding table_of cell_at cell_bytes
cells-table l lays z cells fits = record {
  sized = λ c h. rw (lt-ltb c (table_cells l z) h) (xor-long l lays (table_cells l z) cells fits c h);
  past = λ c h. rw (le-ltb c (table_cells l z) h);
}

-- ---- a session opened on these cells, with this filter
record OpenedOn (l : Layout) (z : Sizes) (salt : ℕ) (filter cells : List ℕ) (v : Live) : Type 0 where
  pub ranged : Ranged z
  pub cells_fit : length cells ≡ cell_bytes l z
  pub passing : Passing l v
  pub seen_as : viewed l v ≡ opened (table_of l z cells)
  pub switch-is : switch_at l v ≡ switch_of l z salt filter

module _ (l : Layout) (lays : Lays l) (z : Sizes) (salt : ℕ) (filter cells : List ℕ) (v : Live) (o : OpenedOn l z salt filter cells v)
    (u : Live) (h : History l v u) (s : SaysWhole l u) where
  abbrev w : Switch
  w = switch_of l z salt filter

  abbrev t : Table
  t = table_of l z cells

  abbrev later : List Call
  later = (history-follows l v o.passing h).0

  abbrev left : Follows l v (calls (switch_at l v) later (viewed l v)) u
  left = (history-follows l v o.passing h).1

  -- what stands is what these calls leave of the cells
  seen : viewed l u ≡ calls w later (opened t)
  seen = left.seen_as ∙ ap₂ (λ a q. calls a later q) o.switch-is o.seen_as

  since : Since l.key w t later
  since = record {
    placed = cells-placed l z lays o.ranged salt;
    table = cells-table l lays z cells o.cells_fit;
    handed = λ k m. viewed-sized l u left.passing k
        (where-listed (λ r. r.handed) (viewed l u).list k (subst (λ q. handed_over q k ≡ true) (sym seen) m));
  }

  -- the report counts what stands
  says : (theory.report w.size (calls w later (opened t))).state ≡ theory.whole
  says =
      let counts = report-counts l u left.passing in
      let same : report_in u.numbers.listed u.room ≡ s.report = told-report (sym counts.0 ∙ s.told) in
      ap₂ (λ (a : Switch) q. (theory.report a.size q).state) (sym (left.same_switch ∙ o.switch-is)) (sym seen)
      ∙ sym (ap (λ (r : theory.Report). r.state) counts.1) ∙ ap (λ (r : Report). state_as r.state) same ∙ ap state_as s.state-is

  no_other : NoOther (table_cells l z) l.key (placement_of l z salt) t (viewed l u)
  no_other F packets e = subst (ExactlyListed F packets) (sym seen) (whole-no-other l.key w t later since says F packets e)

  listed-encodes : ListedEncodes (table_cells l z) l.key (placement_of l z salt) t (viewed l u)
  listed-encodes = subst (ListedEncodes (table_cells l z) l.key (placement_of l z salt) t) (sym seen) (whole-encodes l.key w t later since says)

-- ---- an image, clean, damaged or made up
module _ (l : Layout) (lays : Lays l) (image : List ℕ) (slot : ℕ) (v u : Live) (x : ReportsWhole l image slot v u) where
  abbrev sizes : Sizes
  sizes = v.numbers.sizes

  abbrev salt_there : ℕ
  salt_there = v.numbers.salt

  opened-on : OpenedOn l sizes salt_there (filter_in sizes image) (cells_in l sizes image) v
  opened-on =
      let o = opened-live l image slot x.room v x.opened in
      let q = sealable l lays image x.bytes slot sizes salt_there o.0 in
      record {
        ranged = q.sizes;
        cells_fit = q.cells-length;
        passing = subst (Passing l) (sym o.1) (image-passing l lays image x.bytes slot sizes salt_there o.0);
        seen_as = ap (viewed l) o.1 ∙ image-viewed l lays image x.bytes slot sizes salt_there o.0;
        switch-is = ap (switch_at l) o.1 ∙ image-switch l lays image x.bytes slot sizes salt_there o.0;
      }

  -- Theorem (02 m): any collection of distinct flows with positive counts that encodes to the image's cells is exactly the listed one, with its counts
  pub no-other-reading : (F : List Key) (packets : Key → ℕ) → EncodesToImage l sizes salt_there image F packets → ExactlyListed F packets (viewed l u)
  no-other-reading = no_other l lays sizes salt_there (filter_in sizes image) (cells_in l sizes image) v opened-on u x.since x.says

  -- Theorem: and the listed one does encode to them
  pub listed-reading : let list = (viewed l u).list in EncodesToImage l sizes salt_there image (keys_of list) (stated_in list)
  listed-reading = listed-encodes l lays sizes salt_there (filter_in sizes image) (cells_in l sizes image) v opened-on u x.since x.says

-- ---- packets of IPv4, as the switch takes them from a start
module _ (z : Sizes) (salt slot : ℕ) (packets : List (List ℕ)) (v : Live) (rc : Received ipv4_layout z salt slot (encoder.packets_run z salt packets) v) where
  abbrev m : encoder.Memory
  m = encoder.packets_run z salt packets

  abbrev means : encoder.Means ipv4_layout z salt m (encoder.taken_in z salt packets)
  means = packets-mean z salt packets

  received-on : OpenedOn ipv4_layout z salt m.filter m.cells v
  received-on = record {
    ranged = received-ranged ipv4_layout lays-ipv4 z salt slot m v rc;
    cells_fit = means.lent.cells-length;
    passing = received-passing ipv4_layout lays-ipv4 z salt slot m v rc;
    seen_as = received-viewed ipv4_layout lays-ipv4 z salt slot m v rc;
    switch-is = received-switch ipv4_layout lays-ipv4 z salt slot m v rc;
  }

  -- such a session of a flowset that was sealed is one of an image
  pub taken-reports : (u : Live) → History ipv4_layout v u → SaysWhole ipv4_layout u → ReportsWhole ipv4_layout rc.image slot v u
  taken-reports u h s = record {
    bytes = subst Bytes (sym (image-is ipv4_layout lays-ipv4 z salt slot m v rc))
        (image-bytes z (received-ranged ipv4_layout lays-ipv4 z salt slot m v rc) salt slot ipv4_layout (omega arith) (omega arith)
        m.filter m.cells means.lent.filter-bytes means.lent.cells-bytes);
    room = rc.room;
    opened = rc.opened;
    since = h;
    says = s;
  }

  -- Theorem: where the filter never took a new flow for an old one, a whole report lists exactly the flows taken, each with its packets, whatever
  -- flows were accepted from neighbours
  pub whole-taken : NeverMistaken (encoder.taken_in z salt packets) → (u : Live) → History ipv4_layout v u → SaysWhole ipv4_layout u
      → let taken = encoder.taken_in z salt packets in ExactlyListed (flows_of taken) (packets_of taken) (viewed ipv4_layout u)
  whole-taken clean u h s =
      let taken = encoder.taken_in z salt packets in
      no_other ipv4_layout lays-ipv4 z salt m.filter m.cells v received-on u h s (flows_of taken) (packets_of taken)
      (record { flowset = means.flowset; cells = λ c _. ap (λ (q : Table). q c) (sym (means.clean-memory clean)) })

  -- Theorem: under demand 2's premises, where every flow taken is listed with its count, the report says whole
  pub taken-whole : (u : Live) → History ipv4_layout v u
      → let taken = encoder.taken_in z salt packets in Premises taken (handed_of (viewed ipv4_layout u).list)
      → ((k : Key) → among k (flows_of taken) ≡ true → counted (viewed ipv4_layout u) k ≡ true) → SaysWhole ipv4_layout u
  taken-whole u h premises all =
      let taken = encoder.taken_in z salt packets in
      let switch = demands.w ipv4_layout lays-ipv4 z salt slot m taken means v rc in
      let flows = demands.F ipv4_layout lays-ipv4 z salt slot m taken means v rc in
      let at = history-at ipv4_layout lays-ipv4 z salt slot m taken means v rc u h premises in
      let counts = report-counts ipv4_layout u at.passing in
      record {
        report = report_in u.numbers.listed u.room;
        told = counts.0;
        state-is = whole-as (report_in u.numbers.listed u.room).state (ap (λ (r : theory.Report). r.state) counts.1
            ∙ ap (λ (a : Switch). (theory.report a.size (viewed ipv4_layout u)).state) at.switch-is
            ∙ counted-whole switch flows (viewed ipv4_layout u) at.stands all);
      }

-- Theorem: an image of no packets, of any sizes in range, any salt and any slot, is opened and reports whole: what is asked above can be had
pub none-taken-whole : (z : Sizes) → Ranged z → (salt slot : ℕ) → salt < 2 ^ 32 → slot < 2 ^ 32 → (room : Memory) → Rooms ipv4_layout z room
    → (image : List ℕ) × (v : Live) × ReportsWhole ipv4_layout image slot v v
unfolding EachTaken encoder.taken_of keys_where list_upto flows_after
none-taken-whole z r salt slot p q room f =
    let v = opened_live ipv4_layout z salt slot (sealed_image ipv4_layout lays-ipv4 z r salt slot p q _ _ (packets-mean z salt [])) in
    let rc = goes_through ipv4_layout lays-ipv4 z r salt slot p q (encoder.packets_run z salt []) (encoder.taken_in z salt []) (packets-mean z salt [])
    (replicate (blocks z * 512) 0) (length-replicate (blocks z * 512) 0) room f in
    let none : Premises (encoder.taken_in z salt []) [] = record { clean = tt; accepted-counted = λ k h. among_none k h } in
    (rc.image, v, taken-reports z salt slot [] v rc v history.opened (taken-whole z salt slot [] v rc v history.opened none (λ k h. among_none k h)))
