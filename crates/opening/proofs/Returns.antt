-- What filling leaves, and each way out of opening, over plain values.
use mathlib.Core.Path.{◌≡◌, ap}
use mathlib.Core.Bool.{true, false}
use mathlib.Core.List.{List}
use Prim.Native.Nat.{ℕ}
use lib.ListN.{length, replicate}
use Rattle.layout.specs.declared.Layout.{Layout}
use Rattle.layout.specs.declared.Sizes.{Sizes}
use Rattle.reading.specs.declared.ReadError.{ReadError}
use Rattle.reading.specs.Read.{read_of, filter_in, image_with}
use Rattle.std.proofs.Common.{Ok, Err}
use Rattle.list.specs.declared.Found.{Found}
use Rattle.list.specs.Found.{list_of}
use Rattle.list.specs.Records.{records}
use Rattle.table.specs.declared.Table.{Table}
use Rattle.table.specs.Table.{Tab, tab, tab_of}
use Rattle.room.specs.Memory.{Memory, memory, Rooms, room_fits}
use Rattle.opening.specs.declared.OpenError.TheVariants.{Read, BadRoom}
use Rattle.opening.specs.Blocks.{Fields, fields}
use Rattle.opening.specs.Open.{xors_in, flows_in, packets_in, marks_of, opened_memory, opened_session, opening, open_read, open_of}

-- ---- filling
pub filled : (l : Layout) (z : Sizes) (salt : ℕ) (image : List ℕ) (m : Memory) → Rooms l z m
    → {filter xors flows packets unknowns positions keys counts flags : List ℕ} {t : Tab}
    → filter ≡ filter_in z image → fields xors flows packets ≡ fields (xors_in l z image) (flows_in l z image) (packets_in l z image)
    → unknowns ≡ replicate (length m.table.unknowns) 0 → positions ≡ replicate (length m.table.positions) 0
    → keys ≡ replicate (length m.list.keys) 0 → counts ≡ replicate (length m.list.counts) 0 → flags ≡ replicate (length m.list.flags) 0
    → t ≡ tab xors flows unknowns positions (marks_of l z salt xors flows)
    → memory filter t packets (records keys counts flags) ≡ opened_memory l z salt image
unfolding opened_memory
filled l z salt image m r e f g h k₁ k₂ k₃ q =
    let x = ap (λ (s : Fields). s.xors) f in
    let y = ap (λ (s : Fields). s.flows) f in
    let p = ap (λ (s : Fields). s.packets) f in
    rw (q, e, k₁, k₂, k₃, g, h, x, y, p, r.table.unknowns-fit, r.table.positions-fit, r.room.keys-fit, r.room.counts-fit, r.room.flags-fit)

-- ---- opening
module _ (l : Layout) (image : List ℕ) (slot : ℕ) (m : Memory) where
  -- no image is read
  pub open-refused : {e : ReadError} → Err e ≡ read_of l image slot → opening (Err (Read e)) m ≡ open_of l image slot m
  unfolding open_of open_read
  open-refused {e} f = rw (← f)

  module _ {z : Sizes} {salt : ℕ} (f : image_with z salt ≡ read_of l image slot) where
    pub open-no-room : room_fits l z m ≡ false → opening (Err BadRoom) m ≡ open_of l image slot m
    unfolding open_of open_read
    open-no-room h = rw (← f, h)

    pub open-filled : room_fits l z m ≡ true → {m' : Memory} → m' ≡ opened_memory l z salt image
        → opening (Ok (opened_session z salt slot)) m' ≡ open_of l image slot m
    unfolding open_of open_read
    open-filled h g = rw (← f, h, g)

-- the room as one value and as the slices that were lent
pub lent-room : {filter xors flows packets unknowns positions marks keys counts flags : List ℕ} (t : Table) (f : Found) {w : Memory}
    → memory filter (tab_of t) packets (list_of f) ≡ w → xors ≡ t.xors.now → flows ≡ t.flows.now → unknowns ≡ t.unknowns.now
    → positions ≡ t.positions.now → marks ≡ t.marks.now → keys ≡ f.keys.now → counts ≡ f.counts.now → flags ≡ f.flags.now
    → memory filter (tab xors flows unknowns positions marks) packets (records keys counts flags) ≡ w
lent-room t f e a b c d g h j k = rw (a, b, c, d, g, h, j, k) e
