-- Opening's answer and the lines: an image that is read is opened in room of its size, and any other is refused with its number.
use mathlib.Core.Path.{◌≡◌, refl, sym, ap, ap₂, ◌∙◌}
use mathlib.Core.List.{List}
use Prim.Native.Nat.{ℕ, ◌<◌}
use native.Mathlib.Omega.{arith}
use Rattle.std.specs.Prelude.{Result, Ok, Err}
use Rattle.layout.specs.Sizes.{Ranged, ipv4_layout}
use Rattle.layout.proofs.Ranges.{lays-ipv4}
use Rattle.reading.specs.declared.ReadError.{ReadError}
use Rattle.reading.specs.declared.Image.{Image}
use Rattle.reading.specs.Read.{read_of, read_number}
use Rattle.reading.proofs.Accepts.{accepted}
use Rattle.room.specs.declared.Session.{Session}
use Rattle.room.specs.Memory.{Memory, Rooms}
use Rattle.room.proofs.Laws.{rooms-asked}
use Rattle.opening.specs.declared.OpenError.{OpenError}
use Rattle.opening.specs.Open.{Opening, opening, open_read, open_of, open_number}
use Rattle.opening.proofs.Answers.{open_done, open-read}
use Rattle.lines.specs.Text.{refused_line}
use Rattle.printing.specs.Print.{session_lines, read_lines, image_lines, least_sizes, sizes_read}
use Rattle.reading.specs.declared.ReadError.TheVariants.{Length, Check, Form, Mixed, Stale}

-- the sizes that room is made by are in their ranges
pub sizes-ranged : (image : List ℕ) (slot : ℕ) → Ranged (sizes_read (read_of ipv4_layout image slot))
sizes-ranged image slot = go (read_of ipv4_layout image slot) refl
  where
    least : Ranged least_sizes
    least = record {
      kf-low = omega arith;
      kf-high = omega arith;
      f-low = omega arith;
      f-high = omega arith;
      k-low = omega arith;
      k-high = omega arith;
      q-low = omega arith;
      q-high = omega arith;
    }

    go : (r : Result Image ReadError) → read_of ipv4_layout image slot ≡ r → Ranged (sizes_read r)
    go (Ok i) e = (accepted ipv4_layout i.sizes i.salt slot image e).sizes
    go (Err x) e = least

-- a refusal has a number
number-pos : (x : ReadError) → 0 < read_number (Err x)
number-pos Length = omega arith
number-pos (Check n) = omega arith
number-pos (Form n) = omega arith
number-pos (Mixed n) = omega arith
number-pos Stale = omega arith

-- an image's number is the one that opening it gives
refused-are : (slot : ℕ) (image : List ℕ) (m : Memory) (r : Result Image ReadError) → 0 < read_number r
    → refused_line (open_number (open_read ipv4_layout slot image m r).answer) ≡ read_lines slot image r
unfolding open_read read_lines
refused-are slot image m (Ok i) h = absurd (omega arith)
refused-are slot image m (Err e) h = refl

-- a session is no refusal
abbrev opened : Session → Result Session OpenError
opened s = Ok s

not-refused : {A : Type 0} (s : Session) → ((x : Session) → opened s ≡ opened x → ⊥) → A
not-refused s h = absurd (h s refl)

module _ (image : List ℕ) (slot : ℕ) (m : Memory) {o : Result Session OpenError} {m' : Memory} (q : opening o m' ≡ open_of ipv4_layout image slot m) where
  -- a session's lines are the image's
  pub image-opened : {s : Session} → o ≡ Ok s → session_lines s m' ≡ image_lines slot image
  unfolding image_lines read_lines
  image-opened {s} e =
      let d = open_done ipv4_layout image slot m s (ap (λ (x : Opening). x.answer) (sym q) ∙ e) in
      let same : (a n : ℕ) → Session = λ a n. record { sizes = s.sizes; salt = s.salt; slot = a; listed = n } in
      ap₂ session_lines (ap₂ same d.slot_is d.none-listed) (ap (λ (x : Opening). x.room) q ∙ d.room-is)
      ∙ ap (read_lines slot image) (sym d.read_is)

  -- the lines by what reading answers
  other : (r : Result Image ReadError) → read_of ipv4_layout image slot ≡ r → 0 < read_number r → refused_line (open_number o) ≡ read_lines slot image r
  unfolding open_of
  other r e h =
      ap refused_line
      (ap (λ (x : Opening). open_number x.answer) q ∙ ap (λ (x : Result Image ReadError). open_number (open_read ipv4_layout slot image m x).answer) e)
      ∙ refused-are slot image m r h

  by-reading : (r : Result Image ReadError) → read_of ipv4_layout image slot ≡ r → Rooms ipv4_layout (sizes_read r) m
      → ((x : Session) → o ≡ Ok x → ⊥)
      → refused_line (open_number o) ≡ read_lines slot image r
  by-reading (Ok i) e f h =
      let fits = rooms-asked ipv4_layout i.sizes lays-ipv4 (accepted ipv4_layout i.sizes i.salt slot image e).sizes m f in
      let s : Session = record { sizes = i.sizes; salt = i.salt; slot = slot; listed = 0 } in
      let is = ap (λ (x : Opening). x.answer) (q ∙ open-read ipv4_layout image slot m i.sizes i.salt e fits) in
      not-refused s (rw is at h)
  by-reading (Err x) e f h = other (Err x) e (number-pos x)

  -- in room of the image's size, a refusal is the image's
  pub image-refused : {n : ℕ} {x : OpenError} → Rooms ipv4_layout (sizes_read (read_of ipv4_layout image slot)) m → o ≡ Err x → n ≡ open_number (Err x)
      → refused_line n ≡ image_lines slot image
  unfolding image_lines
  image-refused f d i =
      ap refused_line (i ∙ ap open_number (sym d)) ∙ by-reading (read_of ipv4_layout image slot) refl f (λ s e. cc)
