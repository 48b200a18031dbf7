-- Right marks and few listed flows: a key taken out leaves them so, and so a peel finds room in the list, and so does a hand-over
-- that 12 lets pass.
use Rattle.std.proofs.Common.{◌≡◌, ℕ, ◌+◌, ◌*◌, ◌<◌, ◌≤◌, Bool, true, cond, ◌&&◌, eqb, ltb, List, length, get_or, sym, ap, ◌∙◌, inl, inr, arith, ltb-true, lt-ltb, eqb-true}
use Rattle.laws.specs.Digit.{digit}
use Rattle.laws.proofs.Bools.{split, and_l, and_r}
use Rattle.laws.proofs.Lowest.{number-le, number_lt, number-some}
use Rattle.layout.specs.declared.Layout.{Layout}
use Rattle.layout.specs.declared.Sizes.{Sizes}
use Rattle.layout.specs.Sizes.{table_cells}
use Rattle.hash.specs.Places.{has_cell}
use Rattle.list.specs.Records.{Records, Room, key_at, is_handed, handed_in, appended}
use Rattle.list.proofs.Laws.{listed-parts, handed-same, handed-more}
use Rattle.marks.specs.Marks.{Words, first_mark}
use Rattle.marks.proofs.Laws.{first-marked}
use Rattle.table.specs.Table.{Tab, tab, Fit, pure_at, open_in, taken_out, Spot, spot_at, MarksRight, Bounded}
use Rattle.table.proofs.Spots.{words-room, taken, taken-spots, taken-words}

module _ (l : Layout) (z : Sizes) (salt n : ℕ) (t : Tab) (rs : Records) (b : Bounded l z salt n t rs) where
  abbrev size : ℕ
  size = table_cells l z

  -- so many flows are listed, at most, while fewer than N were handed over
  pub room-for-hand : handed_in n rs < size → n < 2 * size
  room-for-hand h = omega (arith, listed-parts n rs, b.peeled-few)

  -- what changes no FlowXOR, no FlowCount, no mark and no flag of being handed over keeps it all
  pub bounded-counted : (unknowns positions : List ℕ) (rs' : Records) → ((i : ℕ) → is_handed rs' i ≡ is_handed rs i)
      → Bounded l z salt n (tab t.xors t.flows unknowns positions t.marks) rs'
  bounded-counted unknowns positions rs' h = let same = handed-same n rs rs' h in record {
    words = b.words;
    marks-right = b.marks-right;
    handed-few = omega (arith, same, b.handed-few);
    peeled-few = omega (arith, same, listed-parts n rs, listed-parts n rs', b.peeled-few);
  }

  module _ (f : Fit l z t) where
    pub first-pure : first_mark t.marks < size → pure_at l z salt t.xors t.flows (first_mark t.marks) ≡ true
    first-pure h =
        sym (b.marks-right (first_mark t.marks) h)
        ∙ first-marked t.marks b.words (omega (arith, words-room size f.marks-fit))

    -- Theorem: where a cell is marked, fewer than 2 N flows are listed
    pub peel-room : first_mark t.marks < size → n < 2 * size
    unfolding open_in pure_at
    peel-room h =
        let c = first_mark t.marks in
        let one = eqb-true (get_or t.flows c 0) 1 (and_l (eqb (get_or t.flows c 0) 1) (has_cell l z salt (key_at l t.xors c) c) (first-pure h)) in
        let some-open = number-some size (λ j. ltb 0 (get_or t.flows j 0)) c h (rw one) in
        omega (arith, listed-parts n rs, b.handed-few, b.peeled-few)

    -- ---- a key taken out and listed
    module _ (room : Room l (2 * size) rs) (key : List ℕ) (e : length key ≡ l.key) where
      abbrev after : Tab
      after = taken_out l z salt key n t

      spots : (c : ℕ) → spot_at l after c
          ≡ cond (has_cell l z salt key c) (taken l z salt key f.lays f.ranged n e c (spot_at l t c)) (spot_at l t c)
      spots = taken-spots l z salt key f.lays f.ranged n e t f

      abbrev pure_spot : ℕ → Spot → Bool
      pure_spot c s = eqb s.flow 1 && has_cell l z salt s.xor c

      marks-taken : MarksRight l z salt after
      unfolding pure_at
      marks-taken c q = elim (split (has_cell l z salt key c)) [
        | inl p ↦ (let s = rw p at (spots c) in ap (λ (x : Spot). x.mark) s ∙ sym (ap (pure_spot c) s))
        | inr p ↦ (let s = rw p at (spots c) in ap (λ (x : Spot). x.mark) s ∙ b.marks-right c q ∙ sym (ap (pure_spot c) s))
      ]

      open-below : (j : ℕ) → ltb 0 (get_or after.flows j 0) ≡ true → ltb 0 (get_or t.flows j 0) ≡ true
      open-below j h = elim (split (has_cell l z salt key j)) [
        | inl p ↦
            (let s = ap (λ (x : Spot). x.flow) (rw p at (spots j)) in
            lt-ltb 0 (get_or t.flows j 0) (let r = ltb-true 0 (get_or after.flows j 0) h in omega arith))
        | inr p ↦ ap (λ (x : Spot). ltb 0 x.flow) (sym (rw p at (spots j))) ∙ h
      ]

      -- no cell is opened
      open-taken : open_in size after.flows ≤ open_in size t.flows
      unfolding open_in
      open-taken = number-le size (λ c. ltb 0 (get_or after.flows c 0)) (λ c. ltb 0 (get_or t.flows c 0)) open-below

      -- and one with FlowCount 1 is emptied
      open-falls : (c : ℕ) → c < size → has_cell l z salt key c ≡ true → get_or t.flows c 0 ≡ 1
          → open_in size after.flows < open_in size t.flows
      unfolding open_in
      open-falls c h own one =
          let none = ap (λ (x : Spot). x.flow) (rw own at (spots c)) in
          number_lt size (λ j. ltb 0 (get_or after.flows j 0)) (λ j. ltb 0 (get_or t.flows j 0)) open-below c h (rw (none, one)) (rw one)

      words-taken : Words after.marks
      words-taken = taken-words l z salt key f.lays f.ranged n e t b.words

      pub bounded-handed : handed_in n rs < size → Bounded l z salt (n + 1) after (appended l n key 2 rs)
      bounded-handed h =
          let new = appended l n key 2 rs in
          let more : handed_in (n + 1) new ≡ handed_in n rs + 1 = unfold digit in handed-more l n key 2 rs (omega (arith, room-for-hand h, room.flags-fit)) in
          record {
            words = words-taken;
            marks-right = marks-taken;
            handed-few = omega (arith, more);
            peeled-few = omega (arith, more, listed-parts n rs, listed-parts (n + 1) new, open-taken, b.peeled-few);
          }

      -- a peel empties the cell that it starts from
      pub bounded-peeled : first_mark t.marks < size → key ≡ key_at l t.xors (first_mark t.marks)
          → Bounded l z salt (n + 1) after (appended l n key 0 rs)
      unfolding pure_at
      bounded-peeled h k =
          let new = appended l n key 0 rs in
          let c = first_mark t.marks in
          let one = eqb-true (get_or t.flows c 0) 1 (and_l (eqb (get_or t.flows c 0) 1) (has_cell l z salt (key_at l t.xors c) c) (first-pure h)) in
          let own = ap (λ x. has_cell l z salt x c) k ∙ and_r (eqb (get_or t.flows c 0) 1) (has_cell l z salt (key_at l t.xors c) c) (first-pure h) in
          let more : handed_in (n + 1) new ≡ handed_in n rs + 0 = unfold digit in handed-more l n key 0 rs (omega (arith, peel-room h, room.flags-fit)) in
          record {
            words = words-taken;
            marks-right = marks-taken;
            handed-few = omega (arith, more, b.handed-few);
            peeled-few = omega (arith, more, listed-parts n rs, listed-parts (n + 1) new, open-falls c h own one, b.peeled-few);
          }
