-- Ready cells and a count told, as the code goes, and the lengths that each step keeps.
use mathlib.Core.Path.{◌≡◌, refl, sym, ap, ◌∙◌}
use mathlib.Core.Bool.{Bool, true, false, cond}
use mathlib.Core.List.{List}
use Prim.Native.Nat.{ℕ, ◌+◌, ◌-◌, ◌<◌}
use mathlib.Core.Logic.{inl, inr}
use native.Mathlib.Omega.{arith}
use borrow.Author.Tests.{ltb-true}
use Rattle.std.specs.Prelude.{Some, None}
use Rattle.laws.proofs.Bools.{split}
use lib.Bits.{bit_xor}
use lib.Dec.{ltb}
use lib.ListN.{length, get_or, set, length-set, replicate}
use Rattle.laws.specs.Upto.{list_upto}
use Rattle.laws.proofs.Upto.{each_more, each_keeps, any_at, steps-at}
use Rattle.layout.specs.declared.Layout.{Layout}
use Rattle.layout.specs.declared.Sizes.{Sizes}
use Rattle.layout.specs.Sizes.{Ranged}
use Rattle.hash.specs.Places.{cell_of}
use Rattle.marks.specs.Marks.{put_mark, first_mark}
use Rattle.marks.proofs.Laws.{length-put}
use Rattle.counting.specs.Book.{Book, book, Spans, ready_at, with_ready, ready_upto, lowest_ready, any_less, exceeds, told_at, told_each, told_out}

-- ---- ready cells
pub length-ready : (flows unknowns : List ℕ) (c : ℕ) (ready : List ℕ) → length (with_ready flows unknowns c ready) ≡ length ready
unfolding with_ready
length-ready flows unknowns c ready = go (ready_at flows unknowns c)
  where
    go : (b : Bool) → length (cond b (put_mark ready c true) ready) ≡ length ready
    go true = length-put ready c true
    go false = refl

pub length-upto : (flows unknowns : List ℕ) (n : ℕ) → length (ready_upto flows unknowns n) ≡ 24
unfolding ready_upto
length-upto flows unknowns n =
    each_keeps (λ (x : List ℕ). length x ≡ 24) n (with_ready flows unknowns) (replicate 24 0) refl (λ c w h e. length-ready flows unknowns c w ∙ e)

-- one cell more, where the code has the per-cell numbers in a list of its own
module _ (flows unknowns : List ℕ) (c : ℕ) {own u : List ℕ} {t : Bool} (n : own ≡ unknowns) (e : u ≡ ready_upto flows unknowns c)
    (s : t ≡ ready_at flows own c) where
  ready-turn : {v : List ℕ} → v ≡ with_ready flows unknowns c u → v ≡ ready_upto flows unknowns (c + 1)
  unfolding ready_upto
  ready-turn f = f ∙ ap (with_ready flows unknowns c) e ∙ sym (each_more c (with_ready flows unknowns) (replicate 24 0))

  pub ready-on : {v : List ℕ} → t ≡ true → v ≡ put_mark u c true → v ≡ ready_upto flows unknowns (c + 1)
  unfolding with_ready
  ready-on h f = ready-turn (rw (← n, ← s, h) f)

  pub ready-off : t ≡ false → u ≡ ready_upto flows unknowns (c + 1)
  unfolding with_ready
  ready-off h = ready-turn (rw (← n, ← s, h) refl)

-- the lowest one, where there is one, and that there is none
module _ (cells : ℕ) (ready : List ℕ) where
  pub ready_some : {c : ℕ} → lowest_ready cells ready ≡ Some c → (c ≡ first_mark ready) × (c < cells)
  unfolding lowest_ready
  ready_some {c} e = elim (split (ltb (first_mark ready) cells)) [
    | inl p ↦ let q = (rw p at e) in let same : first_mark ready ≡ c = cc in (sym same, omega (arith, ltb-true (first_mark ready) cells p))
    | inr p ↦ let q = (rw p at e) in absurd (cc)
  ]

  pub ready_none : lowest_ready cells ready ≡ None → ltb (first_mark ready) cells ≡ false
  unfolding lowest_ready
  ready_none e = elim (split (ltb (first_mark ready) cells)) [
    | inl p ↦ let q = (rw p at e) in absurd (cc)
    | inr p ↦ p
  ]

-- ---- a flow's cells
pub less-is : (l : Layout) (z : Sizes) (r : Ranged z) (salt : ℕ) (key packets : List ℕ) (v : ℕ) {at : List ℕ} → at ≡ list_upto 4 (cell_of l z salt key)
    → any_less at z.k packets v ≡ exceeds l z salt packets v key
unfolding any_less exceeds
less-is l z r salt key packets v e = any_at z.k (cell_of l z salt key) (λ c. ltb (get_or packets c 0) v) r.k-high e

pub told-is-out : (l : Layout) (z : Sizes) (r : Ranged z) (salt : ℕ) (key : List ℕ) (v position : ℕ) (flows : List ℕ) (b : Book) {at : List ℕ}
    → at ≡ list_upto 4 (cell_of l z salt key) → told_each v position flows at z.k b ≡ told_out l z salt key v position flows b
unfolding told_each told_out
told-is-out l z r salt key v position flows b e = steps-at z.k (cell_of l z salt key) (told_at v position flows) b r.k-high e

-- ---- a count told
module _ (v position : ℕ) (flows : List ℕ) where
  -- what the code's stores leave is that
  pub told_is : (c : ℕ) (b : Book) {x y : ℕ} {on : Bool} {ready : List ℕ} → x ≡ get_or b.packets c 0 - v → y ≡ get_or b.unknowns c 0 - 1
      → on ≡ ready_at flows (set b.unknowns c y) c → ready ≡ put_mark b.ready c on
      → book (set b.packets c x) (set b.unknowns c y) (set b.positions c (bit_xor (get_or b.positions c 0) position)) ready
      ≡ told_at v position flows c b
  unfolding told_at
  told_is c b e₁ e₂ e₃ e₄ = cc

  pub spans-at : {n : ℕ} (c : ℕ) (b : Book) → Spans n flows b → Spans n flows (told_at v position flows c b)
  unfolding told_at
  spans-at c b s = record {
    few = s.few;
    flows-fit = s.flows-fit;
    packets-fit = length-set b.packets c (get_or b.packets c 0 - v) ∙ s.packets-fit;
    unknowns-fit = length-set b.unknowns c (get_or b.unknowns c 0 - 1) ∙ s.unknowns-fit;
    positions-fit = length-set b.positions c (bit_xor (get_or b.positions c 0) position) ∙ s.positions-fit;
    ready-fit = length-put b.ready c (ready_at flows (set b.unknowns c (get_or b.unknowns c 0 - 1)) c) ∙ s.ready-fit;
  }

  pub spans-next : {n : ℕ} (c : ℕ) {u w : Book} → w ≡ told_at v position flows c u → Spans n flows u → Spans n flows w
  spans-next c {u} e s = rw e (spans-at c u s)

  pub told-turn : (at : List ℕ) (i : ℕ) (b : Book) {u w : Book} → u ≡ told_each v position flows at i b → w ≡ told_at v position flows (get_or at i 0) u
      → w ≡ told_each v position flows at (i + 1) b
  unfolding told_each
  told-turn at i b e f =
      f ∙ ap (told_at v position flows (get_or at i 0)) e ∙ sym (each_more i (λ j. told_at v position flows (get_or at j 0)) b)

  pub spans-out : {n : ℕ} (l : Layout) (z : Sizes) (salt : ℕ) (key : List ℕ) (b : Book) → Spans n flows b → Spans n flows
      (told_out l z salt key v position flows b)
  unfolding told_out
  spans-out {n} l z salt key b s =
      each_keeps (Spans n flows) z.k (λ i. told_at v position flows (cell_of l z salt key i)) b s (λ i u h g. spans-at (cell_of l z salt key i) u g)
