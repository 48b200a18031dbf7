-- What the code finds on each way through a peel is what the definition says, and what a peel keeps.
use mathlib.Core.Path.{◌≡◌, refl, ap, ap₂, ◌∙◌}
use mathlib.Core.Bool.{Bool, true, false, ◌||◌}
use mathlib.Core.List.{List}
use mathlib.Core.Logic.{inl, inr}
use Prim.Native.Nat.{ℕ, ◌+◌, ◌*◌, ◌<◌, ◌≤◌}
use native.Mathlib.Omega.{arith}
use borrow.Author.Tests.{le-ltb, lt-ltb, ltb-true}
use lib.Dec.{ltb}
use lib.ListN.{length}
use Rattle.hash.proofs.Apart.{places-within}
use Rattle.laws.specs.Upto.{list_upto}
use Rattle.laws.proofs.Bools.{split}
use Rattle.layout.specs.declared.Layout.{Layout}
use Rattle.layout.specs.declared.Sizes.{Sizes}
use Rattle.layout.specs.Sizes.{table_cells}
use Rattle.layout.proofs.Ranges.{table-high}
use Rattle.hash.specs.Places.{cell_of, Within}
use Rattle.list.specs.Records.{Records, Room, key_at, is_listed, appended}
use Rattle.list.proofs.Laws.{length-key, key-inside, key-appended, room-appended}
use Rattle.index.specs.Index.{linked}
use Rattle.marks.specs.Marks.{first_mark, first_found}
use Rattle.marks.proofs.Laws.{found_some, found_none}
use Rattle.table.proofs.Spots.{words-room}
use Rattle.std.proofs.Common.{Some, None, Ok, Err}
use Rattle.table.specs.Table.{Tab, Fit, InBytes, any_empty, has_empty, taken_out, Bounded}
use Rattle.found.specs.Seen.{bucket, bucket_of, LeadsTo}
use Rattle.peeling.specs.Peel.{Fits, PeelRoom, Step, peeled, peel_damaged, peel_taken, peel_at, peel_of}
use Rattle.table.proofs.Parts.{empty-is, fit-out}
use Rattle.table.proofs.Bounds.{peel-room, bounded-peeled}
use Rattle.found.proofs.Seen.{leads, covers_more}
use Rattle.laws.proofs.Rows.{row_within}

-- ---- where keys lie
pub xor-inside : {l : Layout} {z : Sizes} {t : Tab} (c : ℕ) → Fit l z t → c < table_cells l z → InBytes l (length t.xors) c
xor-inside {l} {z} c f h = omega (arith, f.xors-fit, row_within c (table_cells l z) l.key h)

-- the key just appended is read back
pub key_back : (l : Layout) {m : ℕ} (n : ℕ) (key : List ℕ) (flag : ℕ) (rs : Records) {rs' : Records} → Room l m rs → n < m → length key ≡ l.key
    → rs' ≡ appended l n key flag rs → key_at l rs'.keys n ≡ key
unfolding appended
key_back l n key flag rs r h e q = ap (λ (x : Records). key_at l x.keys n) q ∙ key-appended l rs.keys n key e (key-inside n r h)

-- and lies where it was put
pub back_inside : (l : Layout) {m : ℕ} (n : ℕ) (key : List ℕ) (flag : ℕ) (rs : Records) {rs' : Records} → Room l m rs → n < m
    → rs' ≡ appended l n key flag rs
    → n * l.key + l.key ≤ length rs'.keys
back_inside l {m} n key flag rs r h q = rw q (key-inside n (room-appended l m n key flag rs r) h)

-- how many flows are listed after a step
abbrev pub listed_after : ℕ → Step → ℕ
listed_after n (Ok true) = n + 1
listed_after n (Ok false) = n
listed_after n (Err c) = n

module _ (l : Layout) (z : Sizes) (salt n : ℕ) (t : Tab) (rs : Records) (seen : List ℕ) (f : Fits l z salt n t rs seen) where
  -- what the test of damage asks of a key's places
  pub first_two : (key : List ℕ) {at : List ℕ} → at ≡ list_upto 4 (cell_of l z salt key) → Within at 2 1536
  first_two key e i h =
      omega (
        arith,
        places-within l z f.table.lays f.table.ranged salt key e i (omega (arith, f.table.ranged.k-low)),
        table-high l z f.table.lays f.table.ranged,
      )

  pub all-places : (key : List ℕ) {at : List ℕ} → at ≡ list_upto 4 (cell_of l z salt key) → Within at z.k (length t.flows)
  all-places key e i h = omega (arith, places-within l z f.table.lays f.table.ranged salt key e i h, f.table.flows-fit)

  pub listed-few : n ≤ 3072
  listed-few = omega (arith, f.listed, table-high l z f.table.lays f.table.ranged)

  pub leads-to : (key : List ℕ) {at : List ℕ} → at ≡ list_upto 4 (cell_of l z salt key) → LeadsTo l n rs.keys key (bucket at) seen
  leads-to key q = leads l z salt n rs.keys seen f.covers key q

  no_mark : table_cells l z ≤ first_mark t.marks → peeled (Ok false) t rs seen ≡ peel_of l z salt n t rs seen
  unfolding peel_of
  no_mark h = rw (le-ltb (first_mark t.marks) (table_cells l z) h)

  pub peel-none : None ≡ first_found t.marks → peeled (Ok false) t rs seen ≡ peel_of l z salt n t rs seen
  peel-none e = no_mark (omega (arith, found_none t.marks e, words-room (table_cells l z) f.table.marks-fit))

  module _ {cells c : ℕ} (s : cells ≡ table_cells l z) (found : Some c ≡ first_found t.marks) where
    d : c ≡ first_mark t.marks
    d = found_some t.marks found

    pub peel-quiet : cells ≤ c → peeled (Ok false) t rs seen ≡ peel_of l z salt n t rs seen
    peel-quiet h = no_mark (omega (arith, d))

    module _ (h : c < cells) where
      -- a marked cell: its key has a key's length, and there is room for one record more
      pub marked-length : {key : List ℕ} → key ≡ key_at l t.xors c → length key ≡ l.key
      marked-length k = ap length k ∙ length-key l t.xors c (xor-inside c f.table (omega arith))

      pub marked-room : PeelRoom l z n t → n < 2 * table_cells l z
      marked-room room = room (omega (arith, d))

      from-mark : peel_at l z salt n t rs seen c ≡ peel_of l z salt n t rs seen
      unfolding peel_of
      from-mark = rw (lt-ltb (first_mark t.marks) (table_cells l z) (omega (arith, d)), d)

      module _ {key at : List ℕ} (k : key ≡ key_at l t.xors c) (a : at ≡ list_upto 4 (cell_of l z salt key)) {b : Bool}
          (p : b ≡ (is_listed l n rs.keys key || any_empty at z.k t.flows)) where
        damage-is : b ≡ peel_damaged l z salt n t.flows rs.keys (key_at l t.xors c)
        unfolding peel_damaged
        damage-is =
            p ∙ ap (λ x. is_listed l n rs.keys key || x) (empty-is l z f.table.ranged salt key t.flows a)
            ∙ ap (λ x. is_listed l n rs.keys x || has_empty l z salt t.flows x) k

        pub peel-damaged : b ≡ true → peeled (Err c) t rs seen ≡ peel_of l z salt n t rs seen
        unfolding peel_at
        peel-damaged q = (rw (← damage-is, q) at from-mark)

        pub peel-taken : {t' : Tab} {rs' : Records} {seen' key' : List ℕ} {own : ℕ} → b ≡ false → rs' ≡ appended l n key 0 rs
            → own ≡ bucket at → seen' ≡ linked seen own n → key' ≡ key → t' ≡ taken_out l z salt key' n t
            → peeled (Ok true) t' rs' seen' ≡ peel_of l z salt n t rs seen
        unfolding peel_at peel_taken
        peel-taken {t'} {rs'} {seen'} {key'} {own} q u v w x y =
            let t-is : t' ≡ taken_out l z salt (key_at l t.xors c) n t = y ∙ ap (λ m. taken_out l z salt m n t) (x ∙ k) in
            let rs-is : rs' ≡ appended l n (key_at l t.xors c) 0 rs = u ∙ ap (λ m. appended l n m 0 rs) k in
            let own_is : own ≡ bucket_of l z salt (key_at l t.xors c) = v ∙ ap bucket a ∙ ap (bucket_of l z salt) k in
            let seen-is : seen' ≡ linked seen (bucket_of l z salt (key_at l t.xors c)) n = w ∙ ap (λ m. linked seen m n) own_is in
            ap (λ m. peeled (Ok true) m rs' seen') t-is ∙ ap₂ (λ m o. peeled (Ok true) (taken_out l z salt (key_at l t.xors c) n t) m o) rs-is seen-is
            ∙ (rw (← damage-is, q) at from-mark)

  -- ---- what a peel keeps
  fits-taken : (c : ℕ) → c < table_cells l z → n < 2 * table_cells l z
      → let p = peel_taken l z salt n (key_at l t.xors c) t rs seen in Fits l z salt (listed_after n p.answer) p.table p.list p.seen
  unfolding peel_taken appended
  fits-taken c h g =
      let key = key_at l t.xors c in
      record {
        table = fit-out l z salt key n t f.table;
        room = room-appended l (2 * table_cells l z) n key 0 rs f.room;
        listed = omega arith;
        covers = covers_more l z salt n rs.keys seen f.covers key (omega (arith, g, table-high l z f.table.lays f.table.ranged))
            (length-key l t.xors c (xor-inside c f.table h))
            (key-inside n f.room g);
      }

  -- whatever the step does, all fits again
  pub fits-step : PeelRoom l z n t → let p = peel_of l z salt n t rs seen in Fits l z salt (listed_after n p.answer) p.table p.list p.seen
  unfolding peel_of peel_at
  fits-step room =
      let c = first_mark t.marks in
      elim (split (ltb c (table_cells l z))) [
        | inr p ↦ rw p f
        | inl p ↦ elim (split (peel_damaged l z salt n t.flows rs.keys (key_at l t.xors c))) [
          | inl r ↦ rw (p, r) f
          | inr r ↦ (let h = ltb-true c (table_cells l z) p in rw (p, r) (fits-taken c h (room h)))
        ]
      ]

  -- marks and numbers as the test of 8 has them: there is room for a peel, and it leaves them so
  module _ (b : Bounded l z salt n t rs) where
    pub has_room : PeelRoom l z n t
    has_room = peel-room l z salt n t rs b f.table

    pub bounded-step : let p = peel_of l z salt n t rs seen in Bounded l z salt (listed_after n p.answer) p.table p.list
    unfolding peel_of peel_at peel_taken
    bounded-step =
        let c = first_mark t.marks in
        elim (split (ltb c (table_cells l z))) [
          | inr p ↦ rw p b
          | inl p ↦ elim (split (peel_damaged l z salt n t.flows rs.keys (key_at l t.xors c))) [
            | inl r ↦ rw (p, r) b
            | inr r ↦
                (let h = ltb-true c (table_cells l z) p in
                rw (p, r) (bounded-peeled l z salt n t rs b f.table f.room (key_at l t.xors c)
                (length-key l t.xors c (xor-inside c f.table h)) h refl))
          ]
        ]
