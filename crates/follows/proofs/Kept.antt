-- Calls over records follow each other as calls over numbers do: the list that a call puts together, taken apart again, is what the call over numbers left.
use mathlib.Core.Path.{◌≡◌, ap, ◌∙◌}
use mathlib.Core.Bool.{true, false}
use mathlib.Core.Logic.{inl, inr}
use mathlib.Core.List.{List}
use Prim.Native.Nat.{ℕ, zero, suc, ◌+◌, ◌*◌, ◌<◌}
use native.Mathlib.Decide.{ℕ_discrete}
use native.Mathlib.Omega.{arith}
use lib.Bits.{bit_or, or_lt}
use lib.Dec.{ltb}
use lib.ListN.{length, get_or, set, drop, length-set, length-replicate}
use lib.Seq.{length-sets, get_or-set_same, get_or-set_other}
use Rattle.std.specs.Prelude.{Result, Ok, Err}
use Rattle.laws.specs.BigEndian.{Bytes}
use Rattle.laws.specs.Xor.{xor_bytes}
use Rattle.laws.proofs.Bools.{split}
use Rattle.laws.proofs.BigEndian.{bytes_take, bytes_drop, bytes-sets, bytes-xor}
use Rattle.laws.proofs.Lists.{zero-at}
use Rattle.laws.proofs.Upto.{each_keeps}
use Rattle.layout.specs.declared.Sizes.{Sizes}
use Rattle.layout.specs.Sizes.{ipv4_layout, in_range, table_cells}
use Rattle.hash.specs.Places.{cell_of}
use Rattle.list.specs.Records.{Records, key_at, appended, known_at, with_count}
use Rattle.marks.specs.Marks.{first_mark}
use Rattle.packet.specs.declared.Key.{Key}
use Rattle.packet.specs.Key.{key_bytes}
use Rattle.packet.proofs.KeyBytes.{key-are-bytes}
use Rattle.table.specs.Table.{Tab, mixed, taken_at, taken_out}
use Rattle.peeling.specs.Peel as peeling
use Rattle.counting.specs.Book.{Book}
use Rattle.counting.specs.Count as counting
use Rattle.settling.specs.Settle as settling
use Rattle.handing.specs.declared.HandError.{HandError}
use Rattle.handing.specs.Hand as handing
use Rattle.reading.specs.declared.ReadError.{ReadError}
use Rattle.reading.specs.declared.Image.{Image}
use Rattle.reading.specs.Read.{read_of}
use Rattle.room.specs.declared.Session.{Session}
use Rattle.room.specs.Memory.{Memory, memory, room_fits}
use Rattle.room.specs.Test.{tested}
use Rattle.test8.specs.Test8.{is_session}
use Rattle.opening.specs.Open as opens
use Rattle.session.specs.Calls as session
use Rattle.records.specs.Record.{AllFit, apart}
use Rattle.records.proofs.Trip.{Sound, apart-sound, apart-together, together-apart}
use Rattle.calls.specs.Calls as calls

-- ---- steps on the list
small-set : (m : ℕ) (s : List ℕ) (i v : ℕ) → length s ≡ m → v < 4 → ((j : ℕ) → j < m → get_or s j 0 < 4) → (j : ℕ) → j < m → get_or (set s i v) j 0 < 4
small-set m s i v e small h j l = elim (ℕ_discrete j i) [
  | yes q ↦ rw (q, get_or-set_same s i v 0 (omega arith)) small
  | no q ↦ rw (get_or-set_other s i j v 0 q) (h j l)
]

sound-appended : (m n : ℕ) (key : List ℕ) (flag : ℕ) (rs : Records) → Bytes key → flag < 4 → Sound m rs → Sound m (appended ipv4_layout n key flag rs)
unfolding appended
sound-appended m n key flag rs bytes small s = record {
  room = record {
    keys-fit = length-sets rs.keys (n * 13) key ∙ s.room.keys-fit;
    counts-fit = length-set rs.counts n 0 ∙ s.room.counts-fit;
    flags-fit = length-set rs.flags n flag ∙ s.room.flags-fit;
  };
  bytes = bytes-sets key rs.keys (n * 13) s.bytes bytes;
  two-bits = small-set m rs.flags n flag s.room.flags-fit small s.two-bits;
}

sound-counted : (m i v : ℕ) (rs : Records) → Sound m rs → Sound m (with_count i v rs)
unfolding known_at
sound-counted m i v rs s = record {
  room = record {
    keys-fit = s.room.keys-fit;
    counts-fit = length-set rs.counts i v ∙ s.room.counts-fit;
    flags-fit = length-set rs.flags i (bit_or (get_or rs.flags i 0) 1) ∙ s.room.flags-fit;
  };
  bytes = s.bytes;
  two-bits = known;
}
  where
    known : (j : ℕ) → j < m → get_or (set rs.flags i (bit_or (get_or rs.flags i 0) 1)) j 0 < 4
    known j l = elim (ℕ_discrete j i) [
      | yes q ↦
          let inside : i < m = omega arith in
          rw (q, get_or-set_same rs.flags i (bit_or (get_or rs.flags i 0) 1) 0 (omega (arith, s.room.flags-fit))) (or_lt 2 (get_or rs.flags i 0) 1 (s.two-bits i inside) (omega arith))
      | no q ↦ rw (get_or-set_other rs.flags i j (bit_or (get_or rs.flags i 0) 1) 0 q) (s.two-bits j l)
    ]

-- ---- FlowXOR stays bytes where a key is taken out
pub xor-bytes : (xors : List ℕ) (c : ℕ) → Bytes xors → Bytes (key_at ipv4_layout xors c)
unfolding key_at
xor-bytes xors c h = bytes_take 13 (drop (c * 13) xors) (bytes_drop (c * 13) xors h)

taken-bytes : (z : Sizes) (salt : ℕ) (key : List ℕ) (n : ℕ) (t : Tab) → Bytes key → Bytes t.xors → Bytes (taken_out ipv4_layout z salt key n t).xors
unfolding taken_out taken_at mixed
taken-bytes z salt key n t k h =
    each_keeps (λ (y : Tab). Bytes y.xors) z.k (λ i. taken_at ipv4_layout z salt key n (cell_of ipv4_layout z salt key i)) t h
    (λ i y l q. let c = cell_of ipv4_layout z salt key i in
    bytes-sets (xor_bytes (key_at ipv4_layout y.xors c) key) y.xors (c * 13) q (bytes-xor (key_at ipv4_layout y.xors c) key (xor-bytes y.xors c q) k))

-- FlowXOR are bytes, and the list is what m records can be
abbrev pub Keep : ℕ → Tab → Records → Type 0
Keep m t rs = Bytes t.xors × Sound m rs

-- ---- settling
module _ (m : ℕ) (z : Sizes) (salt : ℕ) where
  abbrev Keeps : Tab → Records → Type 0
  Keeps = Keep m

  peel-keeps : (n : ℕ) (t : Tab) (rs : Records) (seen : List ℕ) → Keeps t rs
      → Keeps (peeling.peel_of ipv4_layout z salt n t rs seen).table (peeling.peel_of ipv4_layout z salt n t rs seen).list
  unfolding peeling.peel_of peeling.peel_at peeling.peel_taken
  peel-keeps n t rs seen h =
      let c = first_mark t.marks in
      let key = key_at ipv4_layout t.xors c in
      let bytes = xor-bytes t.xors c h.0 in
      elim (split (ltb c (table_cells ipv4_layout z))) [
        | inl p ↦ elim (split (peeling.peel_damaged ipv4_layout z salt n t.flows rs.keys key)) [
          | inl d ↦ rw (p, d) h
          | inr d ↦ rw (p, d) (taken-bytes z salt key n t bytes h.0, sound-appended m n key 0 rs bytes (omega arith) h.1)
        ]
        | inr p ↦ rw p h
      ]

  after-keeps : (n : ℕ) (more : Tab → Records → List ℕ → peeling.Ended) (s : peeling.Step) (t : Tab) (rs : Records) (seen : List ℕ)
      → ((t : Tab) (rs : Records) (seen : List ℕ) → Keeps t rs → Keeps (more t rs seen).table (more t rs seen).list) → Keeps t rs
      → Keeps (peeling.after_peel more n s t rs seen).table (peeling.after_peel more n s t rs seen).list
  unfolding peeling.after_peel
  after-keeps n more (Ok true) t rs seen k h = k t rs seen h
  after-keeps n more (Ok false) t rs seen k h = h
  after-keeps n more (Err c) t rs seen k h = h

  peels-keep : (k n : ℕ) (t : Tab) (rs : Records) (seen : List ℕ) → Keeps t rs
      → Keeps (peeling.peels_upto k ipv4_layout z salt n t rs seen).table (peeling.peels_upto k ipv4_layout z salt n t rs seen).list
  unfolding peeling.peels_upto
  peels-keep zero n t rs seen h = h
  peels-keep (suc k) n t rs seen h =
      after-keeps n (peeling.peels_upto k ipv4_layout z salt (n + 1)) _ _ _ _ (λ t rs seen q. peels-keep k (n + 1) t rs seen q) (peel-keeps n t rs seen h)

  count-keeps : (n : ℕ) (flows : List ℕ) (b : Book) (rs : Records) → Sound m rs → Sound m (counting.count_of ipv4_layout z salt n flows b rs).list
  unfolding counting.count_of counting.count_at
  count-keeps n flows b rs h =
      let c = first_mark b.ready in
      let position = get_or b.positions c 0 in
      let v = get_or b.packets c 0 in
      elim (split (ltb c (table_cells ipv4_layout z))) [
        | inl p ↦ elim (split (counting.count_damaged ipv4_layout z salt n b.packets rs.keys position v)) [
          | inl d ↦ rw (p, d) h
          | inr d ↦ rw (p, d) (sound-counted m position v rs h)
        ]
        | inr p ↦ rw p h
      ]

  after-counts : (more : Book → Records → counting.Ended) (s : counting.Step) (b : Book) (rs : Records)
      → ((b : Book) (rs : Records) → Sound m rs → Sound m (more b rs).list) → Sound m rs → Sound m (counting.after_count more s b rs).list
  unfolding counting.after_count
  after-counts more (Ok true) b rs k h = k b rs h
  after-counts more (Ok false) b rs k h = h
  after-counts more (Err c) b rs k h = h

  counts-keep : (k n : ℕ) (flows : List ℕ) (b : Book) (rs : Records) → Sound m rs → Sound m (counting.counts_upto k ipv4_layout z salt n flows b rs).list
  unfolding counting.counts_upto
  counts-keep zero n flows b rs h = h
  counts-keep (suc k) n flows b rs h =
      after-counts (counting.counts_upto k ipv4_layout z salt n flows) _ _ _ (λ b rs q. counts-keep k n flows b rs q) (count-keeps n flows b rs h)

  then_keeps : (packets : List ℕ) (t : Tab) (rs : Records) (seen : List ℕ) (s : peeling.Stop) → Keeps t rs
      → Keeps (settling.then_counts ipv4_layout z salt packets t rs seen s).table (settling.then_counts ipv4_layout z salt packets t rs seen s).list
  unfolding settling.then_counts settling.after_counts counting.counts_of
  then_keeps packets t rs seen (Ok n) h = (h.0, counts-keep n n t.flows _ rs h.1)
  then_keeps packets t rs seen (Err d) h = h

  pub settled-keeps : (n : ℕ) (t : Tab) (packets : List ℕ) (rs : Records) (seen : List ℕ) → Keeps t rs
      → Keeps (settling.settle_of ipv4_layout z salt n t packets rs seen).table (settling.settle_of ipv4_layout z salt n t packets rs seen).list
  unfolding settling.settle_of peeling.peels_of
  settled-keeps n t packets rs seen h = then_keeps packets _ _ _ _ (peels-keep _ n t rs seen h)

  -- ---- hand-over
  answer_keeps : (n : ℕ) (key : List ℕ) (t : Tab) (rs : Records) (seen : List ℕ) (a : Result (Unit {0}) HandError) → Bytes key → Keeps t rs
      → Keeps (handing.after_answer ipv4_layout z salt n key t rs seen a).table (handing.after_answer ipv4_layout z salt n key t rs seen a).list
  unfolding handing.after_answer
  answer_keeps n key t rs seen (Ok x) k h = (taken-bytes z salt key n t k h.0, sound-appended m n key 2 rs k (omega arith) h.1)
  answer_keeps n key t rs seen (Err e) k h = h

  pub handed-keeps : (n : ℕ) (key filter : List ℕ) (t : Tab) (rs : Records) (seen : List ℕ) → Bytes key → Keeps t rs
      → Keeps (handing.hand_of ipv4_layout z salt n key filter t rs seen).table (handing.hand_of ipv4_layout z salt n key filter t rs seen).list
  unfolding handing.hand_of
  handed-keeps n key filter t rs seen k h = answer_keeps n key t rs seen _ k h

-- ---- what each call leaves is what a list can be
module _ (m : Memory) (n : ℕ) (sound : Sound n m.list) where
  tested-sound : {A : Type 0} (P : A → Type 0) (s : Session) (a b c : A) → P a → P b → P c → P (tested ipv4_layout s m a b c)
  unfolding tested
  tested-sound P s a b c p q r = elim (split (in_range s.sizes)) [
    | inl x ↦ elim (split (room_fits ipv4_layout s.sizes m)) [
      | inl y ↦ elim (split (is_session ipv4_layout s.sizes s.salt s.listed m.table m.list)) [
        | inl w ↦ rw (x, y, w) r
        | inr w ↦ rw (x, y, w) p
      ]
      | inr y ↦ rw (x, y) q
    ]
    | inr x ↦ rw x p
  ]

  abbrev Kept : Memory → Type 0
  Kept out = Keep n out.table out.list

  settle-keeps : (s : Session) → Bytes m.table.xors → Kept (session.settle_of ipv4_layout s m).room
  unfolding session.settle_of
  settle-keeps s h =
      tested-sound (λ (x : session.Settling). Kept x.room) s _ _ _ (h, sound) (h, sound)
      (settled-keeps n s.sizes s.salt s.listed m.table m.packets m.list _ (h, sound))

  hand-keeps : (s : Session) (key : Key) → Bytes m.table.xors → Kept (session.hand_over ipv4_layout s (key_bytes key) m).room
  unfolding session.hand_over
  hand-keeps s key h =
      tested-sound (λ (x : session.Handing). Kept x.room) s _ _ _ (h, sound) (h, sound)
      (handed-keeps n s.sizes s.salt s.listed (key_bytes key) m.filter m.table m.list _ (key-are-bytes key) (h, sound))

  -- the list that opening leaves: as it was, or cleared
  cleared : (z : Sizes) (salt : ℕ) (image : List ℕ) → Sound (2 * table_cells ipv4_layout z) (opens.opened_memory ipv4_layout z salt image).list
  unfolding opens.opened_memory
  cleared z salt image = record {
    room = record { keys-fit = length-replicate {A = ℕ} _ 0; counts-fit = length-replicate {A = ℕ} _ 0; flags-fit = length-replicate {A = ℕ} _ 0 };
    bytes = λ i. rw (zero-at (2 * table_cells ipv4_layout z * 13) i) (omega arith);
    two-bits = λ i h. rw (zero-at (2 * table_cells ipv4_layout z) i) (omega arith);
  }

  abbrev Some : opens.Opening → Type 0
  Some x = (k : ℕ) × Sound k x.room.list

  read-sound : (image : List ℕ) (slot : ℕ) (r : Result Image ReadError) → Some (opens.open_read ipv4_layout slot image m r)
  unfolding opens.open_read
  read-sound image slot (Ok i) = elim (split (room_fits ipv4_layout i.sizes m)) [
    | inl p ↦ rw p (2 * table_cells ipv4_layout i.sizes, cleared i.sizes i.salt image)
    | inr p ↦ rw p (n, sound)
  ]
  read-sound image slot (Err x) = (n, sound)

  open-sound : (image : List ℕ) (slot : ℕ) → Some (opens.open_of ipv4_layout image slot m)
  unfolding opens.open_of
  open-sound image slot = read-sound image slot (read_of ipv4_layout image slot)

-- ---- so the next call over records sees what the call over numbers left
pub back : (k : ℕ) (out : Memory) → Sound k out.list → calls.as_numbers (calls.as_records out) ≡ out
back k out s = ap (λ rs. memory out.filter out.table out.packets rs) (apart-together k out.list s)

module _ (m : calls.Lent) where
  abbrev n : ℕ
  n = length m.list

  abbrev numbers : Memory
  numbers = calls.as_numbers m

  abbrev here : Sound n (apart m.list)
  here = apart-sound m.list

  module _ (bytes : Bytes m.table.xors) where
    pub settle-follows : (s : Session) → calls.as_numbers (calls.settle_records s m).room ≡ (session.settle_of ipv4_layout s numbers).room
    unfolding calls.over_records
    settle-follows s = back n (session.settle_of ipv4_layout s numbers).room (settle-keeps numbers n here s bytes).1

    pub hand-follows : (s : Session) (key : Key)
        → calls.as_numbers (calls.hand_records s key m).room ≡ (session.hand_over ipv4_layout s (key_bytes key) numbers).room
    unfolding calls.over_records
    hand-follows s key = back n (session.hand_over ipv4_layout s (key_bytes key) numbers).room (hand-keeps numbers n here s key bytes).1

    -- FlowXOR are bytes again
    pub settle-bytes : (s : Session) → Bytes (calls.settle_records s m).room.table.xors
    unfolding calls.over_records
    settle-bytes s = (settle-keeps numbers n here s bytes).0

    pub hand-bytes : (s : Session) (key : Key) → Bytes (calls.hand_records s key m).room.table.xors
    unfolding calls.over_records
    hand-bytes s key = (hand-keeps numbers n here s key bytes).0

  pub open-follows : (image : List ℕ) (slot : ℕ)
      → calls.as_numbers (calls.open_records image slot m).room ≡ (opens.open_of ipv4_layout image slot numbers).room
  unfolding calls.over_records
  open-follows image slot =
      let s = open-sound numbers n here image slot in back s.0 (opens.open_of ipv4_layout image slot numbers).room s.1

  -- and a call that keeps the numbers keeps the records
  pub kept : {A : Type 0} (call : Memory → calls.Ran A) → AllFit m.list → (call numbers).room ≡ numbers → (calls.over_records call m).room ≡ m
  unfolding calls.over_records
  kept call fit e =
      ap calls.as_records e ∙ ap (λ list. calls.lent m.filter m.table m.packets list) (together-apart m.list fit)
