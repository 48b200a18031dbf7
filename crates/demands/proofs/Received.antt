-- A flowset that was sealed, read and opened: it stands there as the encoder left it, and the calls find nothing to refuse.
use mathlib.Core.Path.{◌≡◌, sym, ap, ap₂, subst, ◌∙◌}
use mathlib.Core.List.{List}
use Prim.Native.Nat.{ℕ, ◌*◌, ◌^◌, ◌<◌}
use native.Mathlib.Omega.{arith}
use borrow.Author.Tests.{eq-eqb}
use lib.ListN.{length, replicate}
use Rattle.std.specs.Prelude.{Result, Ok, Err}
use Rattle.laws.proofs.Lists.{zero-at}
use Rattle.laws.proofs.Upto.{each_keeps}
use Rattle.layout.specs.declared.Layout.{Layout}
use Rattle.layout.specs.declared.Sizes.{Sizes}
use Rattle.layout.specs.Sizes.{Lays, Ranged, table_cells, cell_bytes, filter_bytes, blocks}
use Rattle.layout.proofs.Ranges.{range-test}
use Rattle.marks.specs.Marks.{Words, put_mark, words_for}
use Rattle.marks.proofs.Laws.{words-put}
use Rattle.table.specs.Table.{pure_at}
use Rattle.block.specs.Block.{image_of, zero_bytes}
use Rattle.reading.specs.Read.{read_of, cells_in, filter_in}
use Rattle.sealing.specs.Seal.{Sealable, sealing, seal_of, seal_rooms}
use Rattle.reading.specs.declared.ReadError.{ReadError}
use Rattle.reading.specs.declared.Image.{Image}
use Rattle.sealing.proofs.Answers.{seal-done}
use Rattle.image.proofs.Back.{read_back}
use Rattle.image.proofs.Blocks.{length-image}
use Rattle.opening.specs.Open.{marks_of, opened_memory, opening, open_of}
use Rattle.opening.proofs.Answers.{opened-rooms, opened-session, open_done, open-read}
use Rattle.room.specs.declared.Session.{Session}
use Rattle.room.specs.Memory.{Memory, Rooms}
use Rattle.room.proofs.Laws.{rooms-asked}
use Rattle.meaning.specs.Meaning as encoder
use Rattle.meaning.specs.View.{table_of, switch_of}
use Rattle.theory.specs.Encode.{Taken}
use Rattle.theory.specs.Session.{opened}
use Rattle.demands.specs.Calls.{Live, live, viewed, switch_at, Passing}
use Rattle.demands.specs.Demands.{Received}
use Rattle.demands.proofs.Opened.{opened-viewed, opened-switch}
use Rattle.reading.specs.Read.{image_with}

-- a session of these numbers that was just opened on an image
abbrev pub opened_live : Layout → Sizes → ℕ → ℕ → List ℕ → Live
opened_live l z salt slot image = live (record { sizes = z; salt = salt; slot = slot; listed = 0 }) (opened_memory l z salt image)

-- the marks are words of 64 bits
marks-words : (l : Layout) (z : Sizes) (salt : ℕ) (xors flows : List ℕ) → Words (marks_of l z salt xors flows)
unfolding marks_of
marks-words l z salt xors flows = each_keeps Words (table_cells l z) (λ c s. put_mark s c (pure_at l z salt xors flows c))
    (replicate (words_for (table_cells l z)) 0) (λ i. rw (zero-at (words_for (table_cells l z)) i) (omega arith))
    (λ c s h w. words-put s c (pure_at l z salt xors flows c) w)

-- Theorem: what any image that is read leaves after opening passes the test
pub opened-passing : (l : Layout) (z : Sizes) → Lays l → Ranged z → (salt slot : ℕ) (image : List ℕ) → length image ≡ blocks z * 512
    → Passing l (opened_live l z salt slot image)
unfolding opened_memory
opened-passing l z lays r salt slot image e =
    let rooms = opened-rooms l z salt image lays r e in
    record {
      lent = record { table = rooms.table; packets-fit = rooms.packets-fit; room = rooms.room; words = marks-words l z salt _ _ };
      filter-fits = rooms.filter-fits;
      passes = opened-session l z salt image;
    }

sizes_read : Sizes → Result Image ReadError → Sizes
sizes_read d (Ok i) = i.sizes
sizes_read d (Err e) = d

salt_read : Result Image ReadError → ℕ
salt_read (Ok i) = i.salt
salt_read (Err e) = 0

same_numbers : {s : Session} {slot : ℕ} → s.slot ≡ slot → s.listed ≡ 0 → s ≡ record { sizes = s.sizes; salt = s.salt; slot = slot; listed = 0 }
same_numbers {s = s} c d = λ i. record { sizes = s.sizes; salt = s.salt; slot = c i; listed = d i }

-- Theorem: opening with answer 0 reads the image, and leaves a session of its sizes and salt just opened on it
pub opened-live : (l : Layout) (image : List ℕ) (slot : ℕ) (room : Memory) (v : Live) → open_of l image slot room ≡ opening (Ok v.numbers) v.room
    → (read_of l image slot ≡ image_with v.numbers.sizes v.numbers.salt) × (v ≡ opened_live l v.numbers.sizes v.numbers.salt slot image)
opened-live l image slot room v e =
    let d = open_done l image slot room v.numbers (ap (λ o. o.answer) e) in
    (d.read_is, ap₂ live (same_numbers d.slot_is d.none-listed) (sym (ap (λ o. o.room) e) ∙ d.room-is))

module _ (l : Layout) (lays : Lays l) (z : Sizes) (salt slot : ℕ) (m : encoder.Memory) (v : Live) (rc : Received l z salt slot m v) where
  abbrev written : List ℕ
  written = image_of l z salt slot m.filter m.cells

  abbrev sealable : Sealable l z m.filter m.cells
  sealable = (seal-done l z salt slot m.filter m.cells rc.image_room (ap (λ s. s.answer) rc.sealed)).0

  pub image-is : rc.image ≡ written
  image-is = sym (ap (λ s. s.image) rc.sealed)
      ∙ (seal-done l z salt slot m.filter m.cells rc.image_room (ap (λ s. s.answer) rc.sealed)).1

  abbrev back : (read_of l written slot ≡ image_with z salt) × (filter_in z written ≡ m.filter) × (cells_in l z written ≡ m.cells)
  back = read_back l lays z m.filter m.cells sealable salt slot rc.salt-fits rc.slot-fits

  -- what was opened is what was sealed
  live-is : v ≡ opened_live l z salt slot written
  unfolding sizes_read salt_read
  live-is =
      let o = opened-live l rc.image slot rc.room v rc.opened in
      let e = sym o.0 ∙ ap (λ s. read_of l s slot) image-is ∙ back.0 in
      let sizes : v.numbers.sizes ≡ z = ap (sizes_read z) e in
      let salts : v.numbers.salt ≡ salt = ap salt_read e in
      o.1 ∙ rw (sizes, salts, image-is)

  pub received-ranged : Ranged z
  received-ranged = sealable.sizes

  pub received-passing : Passing l v
  received-passing = subst (Passing l) (sym live-is)
      (opened-passing l z lays sealable.sizes salt slot written (length-image l z salt slot m.filter m.cells lays))

  -- Theorem: the session opened is that of the encoder's cells
  pub received-viewed : viewed l v ≡ opened (table_of l z m.cells)
  received-viewed = ap (viewed l) live-is
      ∙ opened-viewed l z lays written (ap length back.2 ∙ sealable.cells-length) salt slot ∙ ap (λ s. opened (table_of l z s)) back.2

  pub received-switch : switch_at l v ≡ switch_of l z salt m.filter
  received-switch = ap (switch_at l) live-is
      ∙ opened-switch l z lays written (ap length back.2 ∙ sealable.cells-length) salt slot ∙ ap (switch_of l z salt) back.1

-- ---- that it always goes so
module _ (l : Layout) (lays : Lays l) (z : Sizes) (r : Ranged z) (salt slot : ℕ) (p : salt < 2 ^ 32) (q : slot < 2 ^ 32)
    (m : encoder.Memory) (taken : List Taken) (means : encoder.Means l z salt m taken) where
  abbrev pub sealed_image : List ℕ
  sealed_image = image_of l z salt slot m.filter m.cells

  pub seals : (image_room : List ℕ) → length image_room ≡ blocks z * 512 → seal_of l z salt slot m.filter m.cells image_room ≡ sealing (Ok tt) sealed_image
  unfolding seal_of seal_rooms zero_bytes
  seals image_room e = rw (
    range-test z r,
    eq-eqb (length m.filter) (filter_bytes z) means.lent.filter-length,
    eq-eqb (length m.cells) (cell_bytes l z) means.lent.cells-length,
    eq-eqb (length image_room) (blocks z * 512) e,
    means.zero-bytes,
  )

  pub opens : (room : Memory) → Rooms l z room → let v = opened_live l z salt slot sealed_image in
      open_of l sealed_image slot room ≡ opening (Ok v.numbers) v.room
  unfolding zero_bytes
  opens room f =
      let s : Sealable l z m.filter m.cells =
      record { sizes = r; filter-length = means.lent.filter-length; cells-length = means.lent.cells-length; zeros = means.zero-bytes } in
      open-read l sealed_image slot room z salt (read_back l lays z m.filter m.cells s salt slot p q).0 (rooms-asked l z lays r room f)

  -- Theorem: every flowset taken since a start, in any sizes that are in range, is sealed, read and opened in room of the right lengths
  pub goes_through : (image_room : List ℕ) → length image_room ≡ blocks z * 512 → (room : Memory) → Rooms l z room
      → Received l z salt slot m (opened_live l z salt slot sealed_image)
  goes_through image_room e room f = record {
    salt-fits = p;
    slot-fits = q;
    image_room = image_room;
    image = sealed_image;
    room = room;
    sealed = seals image_room e;
    opened = opens room f;
  }
