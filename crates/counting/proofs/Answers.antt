-- What the code finds on each way through a count step is what the definition says, and what the step keeps.
use mathlib.Core.Path.{◌≡◌, ap, ap₂, ◌∙◌}
use mathlib.Core.Bool.{Bool, true, false}
use Rattle.std.specs.Prelude.{Ok, Err, Some, None}
use mathlib.Core.List.{List}
use mathlib.Core.Logic.{inl, inr}
use Prim.Native.Nat.{ℕ, ◌*◌, ◌<◌, ◌≤◌}
use native.Mathlib.Omega.{arith}
use borrow.Author.Tests.{lt-ltb, le-leb, lt-leb, ne_eqb}
use lib.Dec.{ltb}
use lib.ListN.{get_or}
use Rattle.laws.specs.Upto.{list_upto}
use Rattle.laws.proofs.Bools.{split}
use Rattle.layout.specs.declared.Layout.{Layout}
use Rattle.layout.specs.declared.Sizes.{Sizes}
use Rattle.layout.specs.Sizes.{table_cells}
use Rattle.hash.specs.Places.{cell_of}
use Rattle.list.specs.Records.{Records, key_at, with_count}
use Rattle.list.proofs.Laws.{room-told}
use Rattle.marks.specs.Marks.{first_mark}
use Rattle.counting.specs.Book.{Book, lowest_ready, any_less, exceeds, told_each, told_out}
use Rattle.counting.specs.Count.{Fits, counted, count_damaged, count_at, count_of}
use Rattle.counting.proofs.Book.{ready_none, ready_some, less-is, told-is-out, spans-out}

module _ (l : Layout) (z : Sizes) (salt n : ℕ) (flows : List ℕ) (b : Book) (rs : Records) (f : Fits l z n flows b rs) where
  pub count-quiet : lowest_ready (table_cells l z) b.ready ≡ None → counted (Ok false) b rs ≡ count_of l z salt n flows b rs
  unfolding count_of
  count-quiet e = rw (ready_none (table_cells l z) b.ready e)

  -- a ready cell, whose one unknown flow stands at i
  module _ {c : ℕ} (d : lowest_ready (table_cells l z) b.ready ≡ Some c) where
    pub ready-inside : c < table_cells l z
    ready-inside = (ready_some (table_cells l z) b.ready d).1

    module _ {i : ℕ} (p : i ≡ get_or b.positions c 0) where
      from-ready : count_at l z salt n flows b rs c i (get_or b.packets c 0) ≡ count_of l z salt n flows b rs
      unfolding count_of
      from-ready =
          let q = ready_some (table_cells l z) b.ready d in
          rw (p, q.0, lt-ltb (first_mark b.ready) (table_cells l z) (omega arith))

      pub count-far : n ≤ i → counted (Err c) b rs ≡ count_of l z salt n flows b rs
      unfolding count_at count_damaged
      count-far g = (rw (le-leb n i g) at from-ready)

      pub count_none : i < n → get_or b.packets c 0 ≡ 0 → counted (Err c) b rs ≡ count_of l z salt n flows b rs
      unfolding count_at count_damaged
      count_none g e = (rw (lt-leb n i g, e) at from-ready)

      module _ (g : i < n) (e : get_or b.packets c 0 ≡ 0 → ⊥) {key at : List ℕ} (k : key ≡ key_at l rs.keys i)
          (a : at ≡ list_upto 4 (cell_of l z salt key)) {t : Bool}
          (q : t ≡ any_less at z.k b.packets (get_or b.packets c 0)) where
        less-here : t ≡ exceeds l z salt b.packets (get_or b.packets c 0) (key_at l rs.keys i)
        less-here =
            q ∙ less-is l z f.ranged salt key b.packets (get_or b.packets c 0) a
            ∙ ap (exceeds l z salt b.packets (get_or b.packets c 0)) k

        pub count_less : t ≡ true → counted (Err c) b rs ≡ count_of l z salt n flows b rs
        unfolding count_at count_damaged
        count_less r = (rw (lt-leb n i g, ne_eqb (get_or b.packets c 0) 0 e, ← less-here, r) at from-ready)

        pub count-told : {b' : Book} {rs' : Records} → t ≡ false → b' ≡ told_each (get_or b.packets c 0) i flows at z.k b
            → rs' ≡ with_count i (get_or b.packets c 0) rs → counted (Ok true) b' rs' ≡ count_of l z salt n flows b rs
        unfolding count_at count_damaged
        count-told r x y =
            ap₂ (counted (Ok true))
            (x ∙ told-is-out l z f.ranged salt key (get_or b.packets c 0) i flows b a
            ∙ ap (λ m. told_out l z salt m (get_or b.packets c 0) i flows b) k) y
            ∙ (rw (lt-leb n i g, ne_eqb (get_or b.packets c 0) 0 e, ← less-here, r) at from-ready)

  -- whatever the step does, all fits again
  pub fits-step : let p = count_of l z salt n flows b rs in Fits l z n flows p.cells p.list
  unfolding count_of count_at
  fits-step =
      let c = first_mark b.ready in
      let i = get_or b.positions c 0 in
      let v = get_or b.packets c 0 in
      elim (split (ltb c (table_cells l z))) [
        | inr p ↦ rw p f
        | inl p ↦ elim (split (count_damaged l z salt n b.packets rs.keys i v)) [
          | inl q ↦ rw (p, q) f
          | inr q ↦ rw (p, q) (record {
            lays = f.lays;
            ranged = f.ranged;
            listed = f.listed;
            cells = spans-out v i flows l z salt (key_at l rs.keys i) b f.cells;
            room = room-told l (2 * table_cells l z) i v rs f.room;
          })
        ]
      ]
