-- What callers learn of opening: the memory it leaves has the right lengths and passes the test of 8; what each answer says.
use mathlib.Core.Path.{◌≡◌, refl, sym, ap, ◌∙◌}
use mathlib.Core.Bool.{true}
use mathlib.Core.List.{List}
use mathlib.Core.Logic.{inl, inr}
use Prim.Native.Nat.{ℕ, ◌*◌, ◌<◌}
use native.Mathlib.Omega.{arith}
use lib.ListN.{length, length-replicate}
use Rattle.laws.proofs.Bools.{split}
use Rattle.laws.proofs.Upto.{length-list}
use Rattle.layout.specs.declared.Layout.{Layout}
use Rattle.layout.specs.declared.Sizes.{Sizes}
use Rattle.layout.specs.Sizes.{Lays, Ranged, table_cells, blocks}
use Rattle.reading.specs.declared.Image.{Image}
use Rattle.reading.specs.declared.ReadError.{ReadError}
use Rattle.reading.specs.Read.{read_of, image_with}
use Rattle.std.proofs.Common.{Result, Ok, Err}
use Rattle.room.specs.declared.Session.{Session}
use Rattle.room.specs.Memory.{Memory, Rooms, room_fits}
use Rattle.test8.specs.Test8.{is_session}
use Rattle.test8.proofs.Passed.{opened-passes}
use Rattle.opening.specs.Open.{xors_in, flows_in, packets_in, marks_of, opened_memory, opened_session, opening, open_read, open_of, open_number}
use Rattle.opening.proofs.Copies.{length-filter, length-xors}
use Rattle.opening.proofs.Pure.{length-marks, marks-right, marks-end}
use Rattle.opening.proofs.Returns.{open-filled}

module _ (l : Layout) (z : Sizes) (salt : ℕ) (image : List ℕ) where
  -- the lengths are those that layout and sizes ask for
  pub opened-rooms : Lays l → Ranged z → length image ≡ blocks z * 512 → Rooms l z (opened_memory l z salt image)
  unfolding opened_memory flows_in packets_in
  opened-rooms lays r whole =
      let n = table_cells l z in
      record {
        filter-fits = length-filter z image whole;
        packets-fit = length-list n _;
        table = record {
          lays = lays;
          ranged = r;
          xors-fit = length-xors l lays z image whole;
          flows-fit = length-list n _;
          unknowns-fit = length-replicate n 0;
          positions-fit = length-replicate n 0;
          marks-fit = length-marks l z salt (xors_in l z image) (flows_in l z image);
        };
        room = record {
          keys-fit = length-replicate (2 * n * l.key) 0;
          counts-fit = length-replicate (2 * n) 0;
          flags-fit = length-replicate (2 * n) 0;
        };
      }

  -- nothing is listed, and what is left passes the test of 8
  pub opened-session : is_session l z salt 0 (opened_memory l z salt image).table (opened_memory l z salt image).list ≡ true
  unfolding opened_memory
  opened-session =
      let xors = xors_in l z image in
      let flows = flows_in l z image in
      opened-passes l z salt xors flows (marks_of l z salt xors flows) (table_cells l z) _
      (marks-right l z salt xors flows) (marks-end l z salt xors flows)

-- ---- what the answers say
-- the session that opening answers with
pub record OpenDone (l : Layout) (image : List ℕ) (slot : ℕ) (m : Memory) (s : Session) : Type 0 where
  pub read_is : read_of l image slot ≡ image_with s.sizes s.salt
  pub slot_is : s.slot ≡ slot
  pub none-listed : s.listed ≡ 0
  pub fitted : room_fits l s.sizes m ≡ true
  pub room-is : (open_of l image slot m).room ≡ opened_memory l s.sizes s.salt image

module _ (l : Layout) (image : List ℕ) (slot : ℕ) (m : Memory) where
  -- an image that is read, into room that fits, is opened
  pub open-read : (z : Sizes) (salt : ℕ) → read_of l image slot ≡ image_with z salt → room_fits l z m ≡ true
      → open_of l image slot m ≡ opening (Ok (opened_session z salt slot)) (opened_memory l z salt image)
  open-read z salt e h = sym (open-filled l image slot m (sym e) h refl)

  done-read : (s : Session) (r : Result Image ReadError) → (open_read l slot image m r).answer ≡ Ok s
      → (r ≡ image_with s.sizes s.salt) × (s.slot ≡ slot) × (s.listed ≡ 0) × (room_fits l s.sizes m ≡ true)
      × ((open_read l slot image m r).room ≡ opened_memory l s.sizes s.salt image)
  unfolding open_read
  done-read s (Ok i) e = elim (split (room_fits l i.sizes m)) [
    | inl h ↦
        let o : Session = opened_session i.sizes i.salt slot in
        let f : Ok o ≡ Ok s = rw h at e in
        let q : o ≡ s = cc in (
          ap (λ (x : Session). image_with x.sizes x.salt) q,
          ap (λ (x : Session). x.slot) (sym q),
          ap (λ (x : Session). x.listed) (sym q),
          ap (λ (x : Session). room_fits l x.sizes m) (sym q) ∙ h,
          rw h (ap (λ (x : Session). opened_memory l x.sizes x.salt image) q),
        )
    | inr h ↦ let f = ap open_number (rw h at e) in absurd (omega arith)
  ]
  done-read s (Err x) e = cc

  pub open_done : (s : Session) → (open_of l image slot m).answer ≡ Ok s → OpenDone l image slot m s
  unfolding open_of
  open_done s e =
      let d = done-read s (read_of l image slot) e in
      record { read_is = d.0; slot_is = d.1; none-listed = d.2; fitted = d.3; room-is = d.4 }

  kept_read : (r : Result Image ReadError) → 0 < open_number (open_read l slot image m r).answer → (open_read l slot image m r).room ≡ m
  unfolding open_read
  kept_read (Ok i) h = elim (split (room_fits l i.sizes m)) [
    | inl e ↦ let f = rw e at h in absurd (omega arith)
    | inr e ↦ rw e
  ]
  kept_read (Err x) h = refl

  -- any other answer leaves the room as it was
  pub open_kept : 0 < open_number (open_of l image slot m).answer → (open_of l image slot m).room ≡ m
  unfolding open_of
  open_kept h = kept_read (read_of l image slot) h
