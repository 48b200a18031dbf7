-- What opening over records leaves is what opening over numbers leaves, and its FlowXOR are bytes where the image is.
use mathlib.Core.Path.{◌≡◌, sym, ap, subst, ◌∙◌}
use mathlib.Core.List.{List}
use Prim.Native.Nat.{ℕ, zero, suc, ◌+◌, ◌*◌}
use native.Mathlib.Omega.{arith}
use lib.ListN.{drop, take}
use Rattle.std.specs.Prelude.{Result, Ok}
use Rattle.laws.specs.BigEndian.{Bytes}
use Rattle.laws.specs.Upto.{join_upto}
use Rattle.laws.proofs.BigEndian.{bytes-append, bytes_take, bytes_drop}
use Rattle.layout.specs.declared.Sizes.{Sizes}
use Rattle.layout.specs.Sizes.{ipv4_layout, table_cells}
use Rattle.cell.specs.Cell.{flow_xor_at}
use Rattle.block.specs.Block.{block_at}
use Rattle.reading.specs.Read.{cells_in}
use Rattle.room.specs.Memory.{Memory}
use Rattle.opening.specs.declared.OpenError.{OpenError}
use Rattle.room.specs.declared.Session.{Session}
use Rattle.opening.specs.Open.{xors_in, opened_memory, opening, open_of}
use Rattle.opening.proofs.Answers.{open_done}
use Rattle.calls.specs.Calls.{Lent, Called, called, as_numbers, open_records, over_records}
use Rattle.follows.proofs.Kept.{open-follows}

join-bytes : (n : ℕ) (f : ℕ → List ℕ) → ((i : ℕ) → Bytes (f i)) → Bytes (join_upto n f)
unfolding join_upto
join-bytes zero f h = λ i. omega arith
join-bytes (suc n) f h = bytes-append (join_upto n f) (f n) (join-bytes n f h) (h n)

part_bytes : (n i : ℕ) (s : List ℕ) → Bytes s → Bytes (take n (drop i s))
part_bytes n i s h = bytes_take n (drop i s) (bytes_drop i s h)

xors-bytes : (z : Sizes) (image : List ℕ) → Bytes image → Bytes (xors_in ipv4_layout z image)
unfolding xors_in flow_xor_at cells_in
xors-bytes z image h =
    join-bytes (table_cells ipv4_layout z) (flow_xor_at ipv4_layout (cells_in ipv4_layout z image)) (λ c. part_bytes 13 (c * 20) (cells_in ipv4_layout z image)
    (join-bytes (z.k * z.q) (λ n. take 480 (drop 16 (block_at image (z.f + n)))) (λ n. part_bytes 480 16 (block_at image (z.f + n)) (part_bytes 512 ((z.f + n) * 512) image h))))

module _ (image : List ℕ) (slot : ℕ) (m room : Lent) (s : Session) (e : open_records image slot m ≡ called (Ok s) room) where
  answered : (open_of ipv4_layout image slot (as_numbers m)).answer ≡ Ok s
  unfolding over_records
  answered = ap (λ (x : Called (Result Session OpenError)). x.answer) e

  -- a session opened over records is opened over numbers
  pub opened : open_of ipv4_layout image slot (as_numbers m) ≡ opening (Ok s) (as_numbers room)
  opened =
      let left : (open_of ipv4_layout image slot (as_numbers m)).room ≡ as_numbers room
      = sym (open-follows m image slot) ∙ ap (λ (x : Called (Result Session OpenError)). as_numbers x.room) e in
      λ j. opening (answered j) (left j)

  pub opened-bytes : Bytes image → Bytes room.table.xors
  unfolding opened_memory
  opened-bytes h =
      let d = open_done ipv4_layout image slot (as_numbers m) s answered in
      let is : room.table.xors ≡ xors_in ipv4_layout s.sizes image
      = ap (λ (x : Memory). x.table.xors) (sym (ap (λ o. o.room) opened) ∙ d.room-is) in
      subst Bytes (sym is) (xors-bytes s.sizes image h)
