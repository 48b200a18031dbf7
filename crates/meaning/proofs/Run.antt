-- Any calls that take packets by their keys, from a start: what the memory then holds, over any layout.
use mathlib.Core.Path.{◌≡◌, refl, sym, ap, subst, ◌∙◌, fun_ext}
use mathlib.Core.Bool.{Bool, true, false, ◌&&◌, ◌||◌}
use mathlib.Core.List.{List, [], ◌∷◌, ◌++◌}
use mathlib.Core.Logic.{inl, inr}
use Prim.Native.Nat.{ℕ, ◌+◌, ◌*◌, ◌/◌, ◌≤◌, ◌<◌}
use native.Mathlib.Omega.{arith}
use borrow.Author.Tests.{ltb-true}
use lib.Dec.{ltb}
use lib.ListN.{replicate, length-replicate}
use Rattle.laws.proofs.Bools.{split, or-f}
use Rattle.layout.specs.declared.Layout.{Layout}
use Rattle.layout.specs.declared.Sizes.{Sizes}
use Rattle.layout.specs.Sizes.{Lays, table_cells, cell_bytes, filter_bytes}
use Rattle.fields.specs.Field.{field}
use Rattle.filter.specs.Filter.{is_set, has_bit}
use Rattle.cell.specs.Cell.{flow_xor_at, flow_count_at, packet_count_at, flow_count_place, packet_count_place}
use Rattle.theory.specs.Encode.{Key, Taken, empty_table, take_packets, add_flow, flows_after, EachTaken, OldIsOld, HasLength}
use Rattle.theory.proofs.Encode.{cell-path}
use Rattle.meaning.specs.View.{cell_at, table_of, placement_of}
use Rattle.meaning.specs.Meaning.{Memory, Lent, cleared, Call, leaves, is_taken, offer_all, taken_by, taken_of, new_flow_bit, Sets, TakesKeys}
use Rattle.meaning.proofs.Packet.{cell-inside}
use Rattle.meaning.proofs.Kept.{Old, Next, offer-next}
use Rattle.laws.proofs.BigEndian.{bytes-zeros, number-zeros}
use Rattle.laws.proofs.Lists.{part-zeros, zero-at}

-- ---- a start
pub cleared-lent : (l : Layout) (z : Sizes) → Lent l z (cleared l z)
unfolding cleared
cleared-lent l z = record {
  filter-length = length-replicate (filter_bytes z) 0;
  cells-length = length-replicate (cell_bytes l z) 0;
  filter-bytes = bytes-zeros (filter_bytes z);
  cells-bytes = bytes-zeros (cell_bytes l z);
}

-- a field of zeros
field-zero : (n bytes i : ℕ) → i + n ≤ bytes → field n (replicate bytes 0) i ≡ 0
unfolding field
field-zero n bytes i h = rw (part-zeros bytes i n h) (number-zeros n)

cleared-cell : (l : Layout) (z : Sizes) → Lays l → (c : ℕ) → c < table_cells l z → cell_at l (cleared l z).cells c ≡ empty_table l.key c
unfolding cleared cell_at empty_table flow_xor_at flow_count_at packet_count_at
cleared-cell l z lays c h =
    let n = cell_bytes l z in
    let p = cell-inside l z c h in
    let q = lays.key_fits in
    cell-path _ _ (part-zeros n (c * l.cell) l.key (omega arith))
    (field-zero 2 n (flow_count_place l c) (omega arith)) (field-zero 4 n (packet_count_place l c) (omega arith))

pub cleared-table : (l : Layout) (z : Sizes) → Lays l → table_of l z (cleared l z).cells ≡ empty_table l.key
unfolding table_of
cleared-table l z lays = fun_ext (λ c. elim (split (ltb c (table_cells l z))) [
  | inl h ↦ rw h (cleared-cell l z lays c (ltb-true c (table_cells l z) h))
  | inr h ↦ rw h
])

pub cleared-bit : (l : Layout) (z : Sizes) (n : ℕ) → is_set (cleared l z).filter n ≡ false
unfolding cleared is_set
cleared-bit l z n = rw (zero-at (filter_bytes z) (n / 8))

-- ---- calls in order
-- no packet changes nothing, and one packet before others sets its flow's bits before them
module _ (l : Layout) (z : Sizes) (salt : ℕ) where
  pub sets-none : (m : Memory) → Sets l z salt m [] m
  unfolding new_flow_bit
  sets-none m = record { filter-bits = λ n. sym (or-f (is_set m.filter n)); zero-stays = λ c. refl }

  pub sets_then : (p : Taken) (ts : List Taken) (m next end : Memory) → Sets l z salt m (p ∷ []) next → Sets l z salt next ts end
      → Sets l z salt m (p ∷ ts) end
  unfolding new_flow_bit
  sets_then p ts m next end one later = record {
    filter-bits = λ n.
        let its = p.new && has_bit z salt p.key n in
        later.filter-bits n ∙ ap (λ b. b || new_flow_bit z salt ts n) (one.filter-bits n ∙ ap (λ b. is_set m.filter n || b) (or-f its))
        ∙ or-either (is_set m.filter n) its (new_flow_bit z salt ts n);
    zero-stays = λ c. later.zero-stays c ∙ one.zero-stays c;
  }
    where
      or-either : (a b c : Bool) → ((a || b) || c) ≡ (a || (b || c))
      or-either true b c = refl
      or-either false b c = refl

module _ (z : Sizes) (salt : ℕ) {A : Type 0} (call : Call A) (key_of : A → Key)
    (keeps : (a : A) (m : Memory) → is_taken (call a m) ≡ false → leaves (call a m) ≡ m)
    (Fits : Memory → Type 0) (still : (a : A) (m : Memory) → Fits m → is_taken (call a m) ≡ true → Fits (leaves (call a m))) where
  -- what holds of no packet, and of one taken before others where it holds of the others, holds of all
  pub run-ind : (P : Memory → Memory → List Taken → Type 0) → ((m : Memory) → Fits m → P m m [])
      → ((a : A) (m end : Memory) (ts : List Taken) → Fits m → is_taken (call a m) ≡ true
      → P (leaves (call a m)) end ts → P m end (taken_by z salt m (key_of a) ∷ ts))
      → (offers : List A) (m : Memory) → Fits m → P m (offer_all call offers m) (taken_of z salt call key_of offers m)
  unfolding offer_all taken_of
  run-ind P none one [] m fits = none m fits
  run-ind P none one (a ∷ later) m fits =
      let after = leaves (call a m) in
      elim (split (is_taken (call a m))) [
        | inl t ↦ rw t
            (one a m (offer_all call later after) (taken_of z salt call key_of later after) fits t (run-ind P none one later after (still a m fits t)))
        | inr t ↦ rw (t, keeps a m t) (run-ind P none one later m fits)
      ]

-- ---- calls that take packets by their keys
module _ (l : Layout) (z : Sizes) (lays : Lays l) (salt : ℕ) {A : Type 0} (call : Call A) (key_of : A → Key)
    (takes : TakesKeys l z salt call key_of) where
  -- one that is taken
  next : (a : A) (m : Memory) → Lent l z m → is_taken (call a m) ≡ true → Next l z salt (key_of a) m (leaves (call a m))
  next a m lent t =
      let e = sym (takes.offered a m t) in
      subst (λ x. Next l z salt (key_of a) m (leaves x)) e
      (offer-next l z lays (takes.in-range a m t) salt (key_of a) (takes.sized a m t) m lent.filter-length lent.cells-length
      (ap is_taken e ∙ t) (takes.are-bytes a m t) lent)

  -- all, from any memory of the right lengths
  abbrev run : List A → Memory → Memory
  run = offer_all call

  abbrev took : List A → Memory → List Taken
  took = taken_of z salt call key_of

  abbrev ind : (P : Memory → Memory → List Taken → Type 0) → ((m : Memory) → Lent l z m → P m m [])
      → ((a : A) (m end : Memory) (ts : List Taken) → Lent l z m → is_taken (call a m) ≡ true
      → P (leaves (call a m)) end ts → P m end (taken_by z salt m (key_of a) ∷ ts))
      → (offers : List A) (m : Memory) → Lent l z m → P m (run offers m) (took offers m)
  ind = run-ind z salt call key_of takes.keeps (Lent l z) (λ a m lent t. (next a m lent t).lent)

  pub run-table : (offers : List A) (m : Memory) → Lent l z m
      → table_of l z (run offers m).cells ≡ take_packets (placement_of l z salt) (took offers m) (table_of l z m.cells)
  run-table = ind (λ m end ts. table_of l z end.cells ≡ take_packets (placement_of l z salt) ts (table_of l z m.cells))
      (λ m lent. unfold take_packets in refl)
      (λ a m end ts lent t h. unfold take_packets in h ∙ ap (take_packets (placement_of l z salt) ts) (next a m lent t).table)

  pub run_lent : (offers : List A) (m : Memory) → Lent l z m → Lent l z (run offers m)
  run_lent = ind (λ m end ts. Lent l z end) (λ m lent. lent) (λ a m end ts lent t h. h)

  pub run-sets : (offers : List A) (m : Memory) → Lent l z m → Sets l z salt m (took offers m) (run offers m)
  run-sets = ind (λ m end ts. Sets l z salt m ts end) (λ m lent. sets-none l z salt m)
      (λ a m end ts lent t h. sets_then l z salt (taken_by z salt m (key_of a)) ts m (leaves (call a m)) end (next a m lent t).sets h)

  pub run-old : (offers : List A) (m : Memory) → Lent l z m → (F : List Key) → Old z salt F m.filter
      → Old z salt (flows_after F (took offers m)) (run offers m).filter
  run-old = ind (λ m end ts. (F : List Key) → Old z salt F m.filter → Old z salt (flows_after F ts) end.filter)
      (λ m lent F old. unfold flows_after in old)
      (λ a m end ts lent t h F old. unfold flows_after in h (add_flow F (key_of a)) ((next a m lent t).old F old))

  pub run-renewed : (offers : List A) (m : Memory) → Lent l z m → (F : List Key) → Old z salt F m.filter → EachTaken OldIsOld F (took offers m)
  run-renewed = ind (λ m end ts. (F : List Key) → Old z salt F m.filter → EachTaken OldIsOld F ts)
      (λ m lent F old. unfold EachTaken in tt)
      (λ a m end ts lent t h F old. unfold EachTaken in (old (key_of a), h (add_flow F (key_of a)) ((next a m lent t).old F old)))

  pub run-sized : (offers : List A) (m : Memory) → Lent l z m → (F : List Key) → EachTaken (HasLength l.key) F (took offers m)
  run-sized = ind (λ m end ts. (F : List Key) → EachTaken (HasLength l.key) F ts)
      (λ m lent F. unfold EachTaken in tt)
      (λ a m end ts lent t h F. unfold EachTaken in (takes.sized a m t, h (add_flow F (key_of a))))

-- ---- what is offered before, and later
module _ (z : Sizes) (salt : ℕ) {A : Type 0} (call : Call A) (key_of : A → Key) where
  pub append-memory : (before later : List A) (m : Memory) → offer_all call (before ++ later) m ≡ offer_all call later (offer_all call before m)
  unfolding offer_all
  append-memory [] later m = refl
  append-memory (a ∷ before) later m = append-memory before later (leaves (call a m))

  pub append-taken : (before later : List A) (m : Memory)
      → taken_of z salt call key_of (before ++ later) m ≡ taken_of z salt call key_of before m ++ taken_of z salt call key_of later (offer_all call before m)
  unfolding offer_all taken_of
  append-taken [] later m = refl
  append-taken (a ∷ before) later m =
      rw (append-taken before later (leaves (call a m)))
      (elim (split (is_taken (call a m))) [ inl t ↦ rw t | inr t ↦ rw t ])

  -- what is refused, and keeps the memory, may as well not be offered
  module _ (before : List A) (a : A) (later : List A) (m : Memory) (refused : is_taken (call a (offer_all call before m)) ≡ false)
      (keeps : leaves (call a (offer_all call before m)) ≡ offer_all call before m) where
    pub refused-memory : offer_all call (before ++ (a ∷ later)) m ≡ offer_all call (before ++ later) m
    unfolding offer_all
    refused-memory = rw (append-memory before (a ∷ later) m, append-memory before later m, keeps)

    pub refused-taken : taken_of z salt call key_of (before ++ (a ∷ later)) m ≡ taken_of z salt call key_of (before ++ later) m
    unfolding taken_of
    refused-taken = rw (append-taken before (a ∷ later) m, append-taken before later m, refused, keeps)
