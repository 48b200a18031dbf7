-- Demand 1 as a table: for each call and each refusal, in 01's order, the premises under which it is given, what it returns by 01's table of numbers
-- (number, block, cell), and that all lent memory is kept. A name is the call's and 01's number; each entry's premises begin with what the entries
-- before it did not find.
use mathlib.Core.Path.{◌≡◌, refl, ap, ap₂, ◌∙◌}
use mathlib.Core.Bool.{true, false, ◌&&◌}
use mathlib.Core.List.{List}
use Prim.Native.Nat.{ℕ, ◌*◌, ◌<◌}
use native.Mathlib.Omega.{arith}
use lib.Dec.{eqb, leb}
use Rattle.std.specs.Prelude.{None, Some, Result, Ok, Err}
use lib.ListN.{length}
use Rattle.layout.specs.declared.Layout.{Layout}
use Rattle.layout.specs.declared.Sizes.{Sizes}
use Rattle.layout.specs.Sizes.{in_range, ipv4_layout, table_cells, blocks}
use Rattle.layout.specs.Numbers.{Returned, only, with_block, with_cell}
use Rattle.fields.specs.Field.{field}
use Rattle.filter.specs.Filter.{is_new}
use Rattle.packet.specs.declared.Key.{Key}
use Rattle.packet.specs.Packet.{key_of}
use Rattle.packet.specs.Key.{key_bytes}
use Rattle.encoder.specs.Encoder.{rooms_fit, is_full, start_of, start_returns, packet_of, take_returns, offer, offer_key}
use Rattle.sealing.specs.Seal.{seal_rooms, seal_of, seal_returns}
use Rattle.block.specs.Block.{zero_bytes, block_at}
use Rattle.form.specs.Form.{sizes_in, formed}
use Rattle.reading.specs.Read.{bad_length, checks, read_of, read_returns, read_number, read_block}
use Rattle.reading.specs.First.{FirstBad}
use Rattle.reading.proofs.First.{first-bad-named}
use Rattle.reading.specs.declared.ReadError.{ReadError}
use Rattle.reading.specs.declared.Image.{Image}
use Rattle.reading.specs.declared.ReadError.TheVariants.{Length, Check, Form, Mixed, Stale}
use Rattle.list.specs.Records.{is_listed, handed_in}
use Rattle.table.specs.Table.{has_empty}
use Rattle.peeling.specs.Peel.{Stop}
use Rattle.test8.specs.Test8.{is_session}
use Rattle.room.specs.declared.Session.{Session}
use Rattle.room.specs.Memory.{Memory, room_fits}
use Rattle.room.specs.Test.{tested}
use Rattle.opening.specs.Open.{open_of, open_read, open_returns}
use Rattle.settling.specs.Settle as settling
use Rattle.handing.specs.Hand.{hand_of, answer_of, after_answer}
use Rattle.session.specs.Calls.{index_of, hand_over, hand_over_returns, settle_of, settle_answer, settle_returns, report_on, report_returns}
use Rattle.session.proofs.Laws.{settle-passes}
use Rattle.theory.specs.Session as theory
use Rattle.theory.specs.HandOver.{settle_at}
use Rattle.link.specs.Answers.{stop_of}
use Rattle.demands.specs.Calls.{Live, viewed, switch_at, Passing}
use Rattle.demands.proofs.Lists.{settle-stops}
use Rattle.demands.proofs.Steps.{tests-pass}
use Rattle.reading.specs.Read.{image_with}

-- ---- start: 3, 16
module _ (l : Layout) (z : Sizes) (filter cells : List ℕ) where
  -- this is returned; working memory is kept
  abbrev pub StartRefused : Returned → Type 0
  StartRefused r = let x = start_of l z filter cells in (start_returns x.answer ≡ r) × ((x.filter ≡ filter) × (x.cells ≡ cells))

  pub start-3 : in_range z ≡ false → StartRefused (only 3)
  unfolding start_of
  start-3 e = rw e (refl, (refl, refl))

  pub start-16 : in_range z ≡ true → rooms_fit l z (length filter) (length cells) ≡ false → StartRefused (only 16)
  unfolding start_of
  start-16 e f = rw (e, f) (refl, (refl, refl))

-- ---- packet: 3, 16, 6, 7
module _ (z : Sizes) (salt : ℕ) (packet filter cells : List ℕ) where
  -- this is returned; working memory is kept
  abbrev pub PacketRefused : Returned → Type 0
  PacketRefused r =
      let x = packet_of z salt packet filter cells in (take_returns x.answer ≡ r) × ((x.filter ≡ filter) × (x.cells ≡ cells))

  pub packet-3 : in_range z ≡ false → PacketRefused (only 3)
  unfolding packet_of
  packet-3 e = rw e (refl, (refl, refl))

  module _ (sizes : in_range z ≡ true) where
    pub packet-16 : rooms_fit ipv4_layout z (length filter) (length cells) ≡ false → PacketRefused (only 16)
    unfolding packet_of
    packet-16 e = rw (sizes, e) (refl, (refl, refl))

    module _ (room : rooms_fit ipv4_layout z (length filter) (length cells) ≡ true) where
      pub packet-6 : key_of packet ≡ None → PacketRefused (only 6)
      unfolding packet_of offer
      packet-6 e = rw (sizes, room, e) (refl, (refl, refl))

      pub packet-7 : (key : Key) → key_of packet ≡ Some key → is_full ipv4_layout z salt (is_new z salt filter (key_bytes key)) (key_bytes key) cells ≡ true
          → PacketRefused (only 7)
      unfolding packet_of offer offer_key
      packet-7 key e f = rw (sizes, room, e, f) (refl, (refl, refl))

-- ---- seal: 3, 16, 3 for a zero byte
module _ (l : Layout) (z : Sizes) (salt slot : ℕ) (filter cells image : List ℕ) where
  -- this is returned; nothing is written
  abbrev pub SealRefused : Returned → Type 0
  SealRefused r = let x = seal_of l z salt slot filter cells image in (seal_returns x.answer ≡ r) × (x.image ≡ image)

  pub seal-3 : in_range z ≡ false → SealRefused (only 3)
  unfolding seal_of
  seal-3 e = rw e (refl, refl)

  pub seal-16 : in_range z ≡ true → seal_rooms l z (length filter) (length cells) (length image) ≡ false → SealRefused (only 16)
  unfolding seal_of
  seal-16 e f = rw (e, f) (refl, refl)

  pub seal-3-zero : in_range z ≡ true → seal_rooms l z (length filter) (length cells) (length image) ≡ true
      → zero_bytes l (table_cells l z) cells ≡ false → SealRefused (only 3)
  unfolding seal_of
  seal-3-zero e f g = rw (e, f, g) (refl, refl)

-- ---- read: 1; block 0: 2, 3, 1, 5; each later block: 2, 3, 4. It writes nothing
-- what reading returns is its number and block
block-told : (a : Result Image ReadError) → read_returns a ≡ with_block (read_number a) (read_block a)
block-told (Ok i) = refl
block-told (Err Length) = refl
block-told (Err (Check n)) = refl
block-told (Err (Form n)) = refl
block-told (Err (Mixed n)) = refl
block-told (Err Stale) = refl

module _ (l : Layout) (image : List ℕ) (wanted : ℕ) where
  abbrev b : List ℕ
  b = block_at image 0

  pub read-1 : bad_length (length image) ≡ true → read_returns (read_of l image wanted) ≡ only 1
  unfolding read_of
  read-1 e = rw e

  module _ (long : bad_length (length image) ≡ false) where
    pub read-2 : checks b ≡ false → read_returns (read_of l image wanted) ≡ with_block 2 0
    unfolding read_of
    read-2 e = rw (long, e)

    module _ (checked : checks b ≡ true) where
      pub read-3 : (in_range (sizes_in b) && formed l (sizes_in b) 0 b) ≡ false → read_returns (read_of l image wanted) ≡ with_block 3 0
      unfolding read_of
      read-3 e = rw (long, checked, e)

      module _ (form : (in_range (sizes_in b) && formed l (sizes_in b) 0 b) ≡ true) where
        pub read-1-sizes : eqb (length image) (blocks (sizes_in b) * 512) ≡ false → read_returns (read_of l image wanted) ≡ only 1
        unfolding read_of
        read-1-sizes e = rw (long, checked, form, e)

        module _ (sizes : eqb (length image) (blocks (sizes_in b) * 512) ≡ true) where
          pub read-5 : eqb (field 4 b 12) wanted ≡ false → read_returns (read_of l image wanted) ≡ only 5
          unfolding read_of
          read-5 e = rw (long, checked, form, sizes, e)

  -- block n is the first later one that does not pass, and r the number of the first test that it fails: 2, 3 or 4
  pub later-2-to-4 : (n r : ℕ) → FirstBad l image wanted n r → read_returns (read_of l image wanted) ≡ with_block r n
  later-2-to-4 n r bad =
      let named = first-bad-named l image wanted n r bad in
      block-told (read_of l image wanted) ∙ ap₂ with_block named.0 named.1

-- ---- open: reading's 1 to 5, with reading's block; then 16
module _ (l : Layout) (image : List ℕ) (slot : ℕ) (m : Memory) where
  -- this is returned; the lent room is kept
  abbrev pub OpenRefused : Returned → Type 0
  OpenRefused r = let x = open_of l image slot m in (open_returns x.answer ≡ r) × (x.room ≡ m)

  pub open-1-to-5 : 0 < (read_returns (read_of l image slot)).number → OpenRefused (read_returns (read_of l image slot))
  unfolding open_of open_read
  open-1-to-5 = go (read_of l image slot)
    where
      go : (a : Result Image ReadError) → 0 < (read_returns a).number → let x = open_read l slot image m a in (open_returns x.answer ≡ read_returns a) × (x.room ≡ m)
      go (Ok i) h = absurd (omega arith)
      go (Err Length) h = (refl, refl)
      go (Err (Check n)) h = (refl, refl)
      go (Err (Form n)) h = (refl, refl)
      go (Err (Mixed n)) h = (refl, refl)
      go (Err Stale) h = (refl, refl)

  pub open-16 : (z : Sizes) (salt : ℕ) → read_of l image slot ≡ image_with z salt → room_fits l z m ≡ false → OpenRefused (only 16)
  unfolding open_of open_read
  open-16 z salt e f = rw (e, f) (refl, refl)

-- ---- hand-over: 8 sizes, 16, 8 the rest, 9, 10, 11, 12; settle and report: 8 sizes, 16, 8 the rest
module _ (l : Layout) (s : Session) (m : Memory) where
  -- this is returned; all memory is kept
  abbrev pub HandRefused : List ℕ → Returned → Type 0
  HandRefused key r = let x = hand_over l s key m in (hand_over_returns x.answer ≡ r) × (x.room ≡ m)

  abbrev pub SettleRefused : Returned → Type 0
  SettleRefused r = let x = settle_of l s m in (settle_returns x.answer ≡ r) × (x.room ≡ m)

  pub settle-8-sizes : in_range s.sizes ≡ false → SettleRefused (only 8)
  unfolding settle_of tested
  settle-8-sizes e = rw e (refl, refl)

  pub report-8-sizes : in_range s.sizes ≡ false → report_returns (report_on l s m) ≡ only 8
  unfolding report_on tested
  report-8-sizes e = rw e

  pub hand-8-sizes : (key : List ℕ) → in_range s.sizes ≡ false → HandRefused key (only 8)
  unfolding hand_over tested
  hand-8-sizes key e = rw e (refl, refl)

  module _ (sizes : in_range s.sizes ≡ true) where
    pub settle-16 : room_fits l s.sizes m ≡ false → SettleRefused (only 16)
    unfolding settle_of tested
    settle-16 e = rw (sizes, e) (refl, refl)

    pub report-16 : room_fits l s.sizes m ≡ false → report_returns (report_on l s m) ≡ only 16
    unfolding report_on tested
    report-16 e = rw (sizes, e)

    pub hand-16 : (key : List ℕ) → room_fits l s.sizes m ≡ false → HandRefused key (only 16)
    unfolding hand_over tested
    hand-16 key e = rw (sizes, e) (refl, refl)

    module _ (room : room_fits l s.sizes m ≡ true) where
      pub settle-8 : is_session l s.sizes s.salt s.listed m.table m.list ≡ false → SettleRefused (only 8)
      unfolding settle_of tested
      settle-8 e = rw (sizes, room, e) (refl, refl)

      pub report-8 : is_session l s.sizes s.salt s.listed m.table m.list ≡ false → report_returns (report_on l s m) ≡ only 8
      unfolding report_on tested
      report-8 e = rw (sizes, room, e)

      pub hand-8 : (key : List ℕ) → is_session l s.sizes s.salt s.listed m.table m.list ≡ false → HandRefused key (only 8)
      unfolding hand_over tested
      hand-8 key e = rw (sizes, room, e) (refl, refl)

      module _ (key : List ℕ) (session : is_session l s.sizes s.salt s.listed m.table m.list ≡ true) where
        pub hand-9 : is_new s.sizes s.salt m.filter key ≡ true → HandRefused key (only 9)
        unfolding hand_over tested hand_of answer_of after_answer
        hand-9 e = rw (sizes, room, session, e) (refl, refl)

        module _ (inside : is_new s.sizes s.salt m.filter key ≡ false) where
          pub hand-10 : is_listed l s.listed m.list.keys key ≡ true → HandRefused key (only 10)
          unfolding hand_over tested hand_of answer_of after_answer
          hand-10 e = rw (sizes, room, session, inside, e) (refl, refl)

          module _ (unlisted : is_listed l s.listed m.list.keys key ≡ false) where
            pub hand-11 : has_empty l s.sizes s.salt m.table.flows key ≡ true → HandRefused key (only 11)
            unfolding hand_over tested hand_of answer_of after_answer
            hand-11 e = rw (sizes, room, session, inside, unlisted, e) (refl, refl)

            pub hand-12 : has_empty l s.sizes s.salt m.table.flows key ≡ false
                → leb (table_cells l s.sizes) (handed_in s.listed m.list) ≡ true → HandRefused key (only 12)
            unfolding hand_over tested hand_of answer_of after_answer
            hand-12 e f = rw (sizes, room, session, inside, unlisted, e, f) (refl, refl)

-- ---- settle: 14, on a session that passes the test: number and cell are those at which the theory's settling stops
abbrev pub stop_returns : theory.Stop → Returned
stop_returns theory.settled = only 0
stop_returns (theory.damage c) = with_cell 14 c

module _ (l : Layout) (v : Live) (p : Passing l v) where
  stop_is : (a : Stop) → settle_returns (settle_answer a) ≡ stop_returns (stop_of a)
  stop_is (Ok n) = refl
  stop_is (Err d) = refl

  pub settle-returns : settle_returns (settle_of l v.numbers v.room).answer ≡ stop_returns (settle_at (switch_at l v) (viewed l v)).stop
  settle-returns =
      let s = v.numbers in
      let m = v.room in
      rw (settle-passes l s m (tests-pass l v p))
      (stop_is (settling.settle_of l s.sizes s.salt s.listed m.table m.packets m.list (index_of l s m)).answer
      ∙ ap stop_returns (settle-stops l s.sizes s.salt m.filter s.listed m.table m.packets m.list p.lent p.passes (index_of l s m)))
