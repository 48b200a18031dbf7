-- A list that no sizes ask for is refused by every call, whatever else it is, and all memory is kept: 01's table of numbers, 8 and 16.
use mathlib.Core.Path.{◌≡◌, refl, sym, ap, ◌∙◌}
use mathlib.Core.Bool.{false, not, cond}
use mathlib.Core.List.{List}
use mathlib.Core.Logic.{◌⊎◌, inl, inr}
use Prim.Native.Nat.{ℕ, ◌*◌, ◌<◌}
use native.Mathlib.Omega.{arith}
use lib.ListN.{length}
use Rattle.std.specs.Prelude.{Result, Ok, Err}
use Rattle.laws.proofs.Bools.{split, refuted}
use Rattle.layout.specs.declared.Sizes.{Sizes}
use Rattle.layout.specs.Sizes.{Ranged, in_range, ipv4_layout, table_cells}
use Rattle.layout.proofs.Ranges.{ranged, lays-ipv4, table-low, table-high}
use Rattle.list.specs.Records.{Records}
use Rattle.packet.specs.declared.Key.{Key}
use Rattle.reading.specs.declared.ReadError.{ReadError}
use Rattle.reading.specs.declared.Image.{Image}
use Rattle.reading.specs.Read.{read_of, image_with}
use Rattle.reading.proofs.Accepts.{accepted}
use Rattle.room.specs.declared.Session.{Session}
use Rattle.room.specs.Memory.{Memory, room_fits}
use Rattle.room.specs.Test.{tested}
use Rattle.room.proofs.Laws.{rooms-told}
use Rattle.opening.specs.Open as opens
use Rattle.session.specs.declared.SessionError.TheVariants.{NotSession, BadRoom}
use Rattle.session.specs.declared.HandOverError.TheVariants as over
use Rattle.session.specs.declared.SettleError.TheVariants as settled
use Rattle.session.specs.Calls.{Settling, settle_of, Handing, hand_over, report_on}
use Rattle.calls.specs.Calls.{ran, settling, handing, opening, reporting}

-- no records, or more than so many
abbrev pub Misfit : ℕ → Records → Type 0
Misfit most rs = (length rs.counts ≡ 0) ⊎ (most < length rs.counts)

-- 2 N is from 1 to 3,072
pub wrong-number : (rs : Records) (z : Sizes) → Ranged z → Misfit 3072 rs → length rs.counts ≡ 2 * table_cells ipv4_layout z → ⊥
wrong-number rs z r (inl h) e = omega (arith, table-low ipv4_layout z lays-ipv4 r)
wrong-number rs z r (inr h) e = omega (arith, table-high ipv4_layout z lays-ipv4 r)

room-misfit : (z : Sizes) (m : Memory) → Ranged z → Misfit 3072 m.list → room_fits ipv4_layout z m ≡ false
room-misfit z m r h = sym (refuted (λ p. wrong-number m.list z r h (rooms-told ipv4_layout z lays-ipv4 r m p).room.counts-fit))

-- ---- the calls on a session
-- sizes first (8), then lengths (16)
abbrev pub refusal : {A : Type 0} → Session → A → A → A
refusal s notSession badRoom = cond (not (in_range s.sizes)) notSession badRoom

misfit-refused : {A : Type 0} (s : Session) (m : Memory) (notSession badRoom passed : A) → Misfit 3072 m.list
    → tested ipv4_layout s m notSession badRoom passed ≡ refusal s notSession badRoom
unfolding tested
misfit-refused s m notSession badRoom passed h = elim (split (in_range s.sizes)) [
  | inl p ↦ rw (p, room-misfit s.sizes m (ranged s.sizes p) h)
  | inr p ↦ rw p
]

pub settle-misfit : (s : Session) (m : Memory) → Misfit 3072 m.list → settling s m ≡ ran (refusal s (Err (settled.Session NotSession)) (Err (settled.Session BadRoom))) m
unfolding settle_of
settle-misfit s m h =
    ap (λ (e : Settling). ran e.answer e.room) (misfit-refused s m _ _ _ h) ∙ elim (split (in_range s.sizes)) [ inl p ↦ rw p | inr p ↦ rw p ]

pub hand-misfit : (s : Session) (key : Key) (m : Memory) → Misfit 3072 m.list → handing s key m ≡ ran (refusal s (Err (over.Session NotSession)) (Err (over.Session BadRoom))) m
unfolding hand_over
hand-misfit s key m h =
    ap (λ (e : Handing). ran e.answer e.room) (misfit-refused s m _ _ _ h) ∙ elim (split (in_range s.sizes)) [ inl p ↦ rw p | inr p ↦ rw p ]

pub report-misfit : (s : Session) (m : Memory) → Misfit 3072 m.list → reporting s m ≡ ran (refusal s (Err NotSession) (Err BadRoom)) m
unfolding report_on
report-misfit s m h = ap (λ e. ran e m) (misfit-refused s m _ _ _ h)

-- ---- opening
misfit-read : (image : List ℕ) (slot : ℕ) (m : Memory) (r : Result Image ReadError) → ((z : Sizes) (salt : ℕ) → r ≡ image_with z salt → Ranged z) → Misfit 3072 m.list
    → opens.open_read ipv4_layout slot image m r ≡ opens.opening (opens.refused r) m
unfolding opens.open_read
misfit-read image slot m (Ok i) q h = rw (room-misfit i.sizes m (q i.sizes i.salt refl) h)
misfit-read image slot m (Err e) q h = refl

pub open-misfit : (image : List ℕ) (slot : ℕ) (m : Memory) → Misfit 3072 m.list
    → opening image slot m ≡ ran (opens.refused (read_of ipv4_layout image slot)) m
unfolding opens.open_of
open-misfit image slot m h =
    ap (λ (e : opens.Opening). ran e.answer e.room)
    (misfit-read image slot m (read_of ipv4_layout image slot) (λ z salt e. (accepted ipv4_layout z salt slot image e).sizes) h)
