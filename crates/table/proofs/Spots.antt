-- What is seen at each cell of a session, before and after a key is taken out: only the key's own cells change.
use Rattle.std.proofs.Common.{◌≡◌, ℕ, ◌+◌, ◌-◌, ◌*◌, ◌%◌, ◌^◌, ◌<◌, ◌≤◌, Bool, cond, ◌&&◌, eqb, List, length, get_or, ap, ◌∙◌, inl, inr, arith, get_or-set_other, get_or-set_same}
use native.Mathlib.Decide.{dec_lt}
use lib.Bits.{bit_xor}
use Rattle.laws.specs.Xor.{xor_bytes}
use Rattle.laws.specs.Upto.{any_upto}
use Rattle.laws.proofs.Bools.{iff, and_l, and_r, and_i}
use Rattle.laws.proofs.Lists.{part-sets-other}
use Rattle.laws.proofs.Rows.{row_within}
use Rattle.laws.proofs.Upto.{any-yes, any_some, each_keeps, each_at}
use Rattle.laws.proofs.Xor.{xor_bytes-length}
use Rattle.layout.specs.declared.Layout.{Layout}
use Rattle.layout.specs.declared.Sizes.{Sizes}
use Rattle.layout.specs.Sizes.{Lays, Ranged, table_cells}
use Rattle.hash.specs.Places.{cell_of, has_cell}
use Rattle.hash.proofs.Apart.{cell-within, cells-differ, has-own, has_some}
use Rattle.list.specs.Records.{key_at}
use Rattle.list.proofs.Laws.{length-key, key-appended}
use Rattle.marks.specs.Marks.{Words, words_for}
use Rattle.marks.proofs.Laws.{marked-same, marked_other, words-put}
use Rattle.table.specs.Table.{Tab, Fit, Spot, spot_at, pure_at, mixed, one_less, taken_at, taken_out}
use Rattle.table.proofs.Parts.{fit_at}

-- n bits have room in that many words
pub words-room : (n : ℕ) {m : ℕ} → m ≡ words_for n → n ≤ m * 64
words-room n e = omega arith

-- ---- what is seen at a cell
spot-path : {s r : Spot} → s.xor ≡ r.xor → s.flow ≡ r.flow → s.unknown ≡ r.unknown → s.position ≡ r.position → s.mark ≡ r.mark → s ≡ r
spot-path a b c d e = λ i. record { xor = a i; flow = b i; unknown = c i; position = d i; mark = e i }

-- a key XORed into FlowXOR changes that of no other cell
mixed-other : (l : Layout) (xors key : List ℕ) (c j : ℕ) → length (xor_bytes (key_at l xors c) key) ≡ l.key → (j ≡ c → ⊥)
    → key_at l (mixed l xors c key) j ≡ key_at l xors j
unfolding mixed key_at
mixed-other l xors key c j e d = part-sets-other (xor_bytes (key_at l xors c) key) xors (c * l.key) (j * l.key) l.key 0
    (elim (dec_lt j c) [
      | yes h ↦ inl (row_within j c l.key h)
      | no h ↦ inr (let q = row_within c j l.key (omega arith) in omega arith)
    ])

module _ (l : Layout) (z : Sizes) (salt : ℕ) (key : List ℕ) (lays : Lays l) (ranged : Ranged z) where
  -- 01 'A session': "one of its cells": a test of the k cells is a test of the table's cells that the key has
  pub any-cell : (p : ℕ → Bool) → any_upto z.k (λ i. p (cell_of l z salt key i)) ≡ any_upto (table_cells l z) (λ c. has_cell l z salt key c && p c)
  any-cell p = iff (any_upto z.k (λ i. p (cell_of l z salt key i))) (any_upto (table_cells l z) (λ c. has_cell l z salt key c && p c))
      (λ h.
      let s = any_some z.k (λ i. p (cell_of l z salt key i)) h in
      let c = cell_of l z salt key s.0 in
      any-yes (table_cells l z) (λ c. has_cell l z salt key c && p c) c (cell-within l z lays ranged salt key s.0 s.1)
      (and_i (has_cell l z salt key c) (p c) (has-own l z lays ranged salt key s.0 s.1) s.2))
      (λ h.
      let s = any_some (table_cells l z) (λ c. has_cell l z salt key c && p c) h in
      let i = has_some l z lays ranged salt key s.0 (and_l (has_cell l z salt key s.0) (p s.0) s.2) in
      any-yes z.k (λ i. p (cell_of l z salt key i)) i.0 i.1
      (ap p i.2 ∙ and_r (has_cell l z salt key s.0) (p s.0) s.2))

  -- ---- a key taken out
  module _ (position : ℕ) (e : length key ≡ l.key) where
    abbrev pub taken : ℕ → Spot → Spot
    taken c s = record {
      xor = xor_bytes s.xor key;
      flow = s.flow - 1;
      unknown = (s.unknown + 1) % 2 ^ 16;
      position = bit_xor s.position position;
      mark = eqb (s.flow - 1) 1 && has_cell l z salt (xor_bytes s.xor key) c;
    }

    mixed-length : (t : Tab) → Fit l z t → (c : ℕ) → c < table_cells l z → length (xor_bytes (key_at l t.xors c) key) ≡ l.key
    mixed-length t f c h = xor_bytes-length (key_at l t.xors c) key l.key
        (length-key l t.xors c (omega (arith, f.xors-fit, row_within c (table_cells l z) l.key h))) e

    taken_here : (t : Tab) → Fit l z t → (c : ℕ) → c < table_cells l z → spot_at l (taken_at l z salt key position c t) c ≡ taken c (spot_at l t c)
    unfolding taken_at mixed pure_at
    taken_here t f c h =
        let xor = key-appended l t.xors c (xor_bytes (key_at l t.xors c) key) (mixed-length t f c h)
        (omega (arith, f.xors-fit, row_within c (table_cells l z) l.key h)) in
        let flow = get_or-set_same t.flows c (get_or t.flows c 0 - 1) 0 (omega (arith, f.flows-fit)) in
        spot-path xor flow
        (get_or-set_same t.unknowns c ((get_or t.unknowns c 0 + 1) % 2 ^ 16) 0 (omega (arith, f.unknowns-fit)))
        (get_or-set_same t.positions c (bit_xor (get_or t.positions c 0) position) 0 (omega (arith, f.positions-fit)))
        (marked-same t.marks c _ (omega (arith, words-room (table_cells l z) f.marks-fit))
        ∙ rw (xor, flow))

    taken-there : (t : Tab) → Fit l z t → (c : ℕ) → c < table_cells l z → (j : ℕ) → (j ≡ c → ⊥)
        → spot_at l (taken_at l z salt key position c t) j ≡ spot_at l t j
    unfolding taken_at
    taken-there t f c h j d = spot-path
        (mixed-other l t.xors key c j (mixed-length t f c h) d)
        (get_or-set_other t.flows c j (get_or t.flows c 0 - 1) 0 d)
        (get_or-set_other t.unknowns c j ((get_or t.unknowns c 0 + 1) % 2 ^ 16) 0 d)
        (get_or-set_other t.positions c j (bit_xor (get_or t.positions c 0) position) 0 d)
        (marked_other t.marks c (pure_at l z salt (mixed l t.xors c key) (one_less t.flows c) c) j d)

    -- 01 'A session': "Taking out a key XORs it into FlowXOR and takes 1 from FlowCount in its k cells", and leaves all other cells
    pub taken-spots : (t : Tab) → Fit l z t → (c : ℕ)
        → spot_at l (taken_out l z salt key position t) c ≡ cond (has_cell l z salt key c) (taken c (spot_at l t c)) (spot_at l t c)
    unfolding taken_out has_cell
    taken-spots t f = each_at (Fit l z) (spot_at l) taken (cell_of l z salt key) (λ i. taken_at l z salt key position (cell_of l z salt key i)) z.k
        (cells-differ l z lays ranged salt key)
        (λ i a h g. fit_at l z salt key position (cell_of l z salt key i) a g)
        (λ i a h g. taken_here a g (cell_of l z salt key i) (cell-within l z lays ranged salt key i h))
        (λ i a c h g d. taken-there a g (cell_of l z salt key i) (cell-within l z lays ranged salt key i h) c d)
        t f

    -- the words of marks stay words
    pub taken-words : (t : Tab) → Words t.marks → Words (taken_out l z salt key position t).marks
    unfolding taken_out taken_at
    taken-words t w = each_keeps (λ a. Words a.marks) z.k (λ i. taken_at l z salt key position (cell_of l z salt key i)) t w
        (λ i a h g. words-put a.marks (cell_of l z salt key i) _ g)
