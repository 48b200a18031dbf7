-- Hand-over of a key to the lists of a proper session: 01's answers worked out from the lists, and the key taken out is the theory's hand-over.
use mathlib.Core.Path.{◌≡◌, sym, ◌∙◌, subst}
use mathlib.Core.Bool.{Bool, true, not, cond}
use mathlib.Core.List.{List}
use Prim.Native.Nat.{ℕ, ◌+◌, ◌*◌, ◌<◌}
use native.Mathlib.Omega.{arith}
use borrow.Author.Tests.{eq-eqb}
use lib.Dec.{leb}
use lib.ListN.{length}
use Rattle.laws.specs.Upto.{number_upto}
use Rattle.laws.proofs.Upto.{length-list}
use Rattle.layout.specs.declared.Layout.{Layout}
use Rattle.layout.specs.declared.Sizes.{Sizes}
use Rattle.layout.specs.Sizes.{table_cells}
use Rattle.hash.specs.Places.{has_cell}
use Rattle.list.specs.Records.{Records, is_handed, is_listed, appended}
use Rattle.table.specs.Table.{Tab, has_empty, taken_out}
use Rattle.theory.specs.Encode.{Key}
use Rattle.theory.specs.Session.{Session}
use Rattle.theory.specs.HandOver.{Switch, hand_answer, hand_over}
use Rattle.theory.specs.Notes.{noted, hand_noted}
use Rattle.theory.specs.Proper.{Proper}
use Rattle.theory.proofs.Records.{list-parts}
use Rattle.theory.proofs.HandOver.{accepts}
use Rattle.theory.proofs.Proper.{proper-hands, hand-proper}
use Rattle.link.specs.View.{record_at, records_of, session_of, noted_of}
use Rattle.link.specs.Held.{Lent, Held, Clear}
use Rattle.link.proofs.Lists.{listed-is}
use Rattle.link.proofs.Given.{where-number}
use Rattle.link.proofs.Taken.{taken_is, held-taken, clear-taken}
use Rattle.link.proofs.Peel.{empty-is}
use Rattle.link.proofs.Settle.{proper-held}

module _ (l : Layout) (z : Sizes) (salt n : ℕ) (t : Tab) (packets : List ℕ) (rs : Records) (lent : Lent l z t packets rs)
    (proper : Proper (table_cells l z) (has_cell l z salt) (noted_of l z n t packets rs)) (passes : Key → Bool) (x : Key) (e : length x ≡ l.key) where
  abbrev size : ℕ
  size = table_cells l z

  -- the switch whose filter passes these keys
  abbrev switch : Switch
  switch = record { size = size; has = has_cell l z salt; passes = passes }

  abbrev before : Session
  before = session_of l z n t packets rs

  abbrev after : Tab
  after = taken_out l z salt x n t

  held : Held l z n t packets rs
  held = proper-held l z salt n t packets rs lent proper

  -- Theorem: the answer, 9 to 12 in order or 0, is what the lists say
  pub hand-answer : hand_answer switch x before ≡ cond (not (passes x)) 9 (cond (is_listed l n rs.keys x) 10
      (cond (has_empty l z salt t.flows x) 11 (cond (leb size (number_upto n (is_handed rs))) 12 0)))
  unfolding hand_answer record_at
  hand-answer = rw (
    listed-is l (2 * size) n rs lent.room held.listed x e,
    empty-is l z salt n t packets rs held x,
    where-number (λ r. r.handed) (record_at l rs) n,
  )

  module _ (taken : hand_answer switch x before ≡ 0) where
    -- where fewer than N were handed over, the list has room
    some-room : n < 2 * size
    some-room =
        let a = accepts switch x before (eq-eqb (hand_answer switch x before) 0 taken) in
        omega (arith, a.room, list-parts (records_of l n rs), length-list n (record_at l rs), proper.fits.peeled-room)

    -- Theorem: the key taken out of the lists and appended, as handed over, is the theory's hand-over
    pub hand-noted : noted_of l z (n + 1) after packets (appended l n x 2 rs) ≡ hand_noted switch x (noted_of l z n t packets rs)
    unfolding hand_noted
    hand-noted = taken_is l z salt n t packets rs held true x e some-room ∙ rw (taken, length-list n (record_at l rs))

    -- Theorem: and leaves the marks and per-cell numbers that its cells and list give
    pub hand-is : noted_of l z (n + 1) after packets (appended l n x 2 rs) ≡ noted (has_cell l z salt) (hand_over switch x before)
    hand-is = hand-noted ∙ proper-hands switch x (noted_of l z n t packets rs) proper

    pub handed-proper : Proper size (has_cell l z salt) (noted_of l z (n + 1) after packets (appended l n x 2 rs))
    handed-proper = subst (Proper size (has_cell l z salt)) (sym hand-noted) (hand-proper switch x (noted_of l z n t packets rs) proper)

    pub handed-lent : Lent l z after packets (appended l n x 2 rs)
    handed-lent = (held-taken l z salt n t packets rs held true x e some-room).lent

    pub handed-clear : Clear size t.marks → Clear size after.marks
    handed-clear = clear-taken l z salt n t packets rs held true x e
