-- What callers learn of a hand-over: a refused one keeps all; after one that is taken all fits again, is bounded, and one flow more was handed over.
use mathlib.Core.Path.{◌≡◌, refl, sym, ap, subst, ◌∙◌}
use mathlib.Core.List.{List}
use Prim.Native.Nat.{ℕ, ◌+◌, ◌*◌, ◌<◌}
use native.Mathlib.Omega.{arith}
use Rattle.layout.proofs.Ranges.{table-high}
use lib.ListN.{length}
use Rattle.laws.specs.Digit.{digit}
use Rattle.layout.specs.declared.Layout.{Layout}
use Rattle.layout.specs.declared.Sizes.{Sizes}
use Rattle.layout.specs.Sizes.{table_cells}
use Rattle.list.specs.Records.{Records, appended, handed_in}
use Rattle.list.proofs.Laws.{key-inside, room-appended, handed-more}
use Rattle.index.specs.Index.{linked}
use Rattle.table.specs.Table.{Tab, taken_out, Bounded}
use Rattle.table.proofs.Bounds.{bounded-handed}
use Rattle.found.specs.Seen.{bucket_of}
use Rattle.peeling.specs.Peel.{Fits}
use Rattle.table.proofs.Parts.{fit-out}
use Rattle.found.proofs.Seen.{covers_more}
use Rattle.handing.specs.Hand.{answer_of, Handing, handing, after_answer, hand_of, hand_number, Hands}
use Rattle.handing.specs.declared.HandError.{HandError}
use Rattle.std.specs.Prelude.{Result, Ok, Err}
use Rattle.handing.proofs.Answers.{after_kept, taken-room, taken-told}

-- the answer goes with what is left
after-answer : (l : Layout) (z : Sizes) (salt n : ℕ) (key : List ℕ) (t : Tab) (rs : Records) (seen : List ℕ) (a : Result Unit HandError)
    → (after_answer l z salt n key t rs seen a).answer ≡ a
unfolding after_answer
after-answer l z salt n key t rs seen (Ok x) = refl
after-answer l z salt n key t rs seen (Err e) = refl

-- all fits where a key was taken out and appended
fits-taken : (l : Layout) (z : Sizes) (salt n : ℕ) (key : List ℕ) (t : Tab) (rs : Records) (seen : List ℕ) → Fits l z salt n t rs seen
    → length key ≡ l.key → n < 2 * table_cells l z
    → Fits l z salt (n + 1) (taken_out l z salt key n t) (appended l n key 2 rs) (linked seen (bucket_of l z salt key) n)
unfolding appended
fits-taken l z salt n key t rs seen f k h = record {
  table = fit-out l z salt key n t f.table;
  room = room-appended l (2 * table_cells l z) n key 2 rs f.room;
  listed = omega arith;
  covers = covers_more l z salt n rs.keys seen f.covers key (omega (arith, h, table-high l z f.table.lays f.table.ranged)) k
      (key-inside n f.room h);
}

module _ (l : Layout) (z : Sizes) (salt n : ℕ) (key filter : List ℕ) (t : Tab) (rs : Records) (seen : List ℕ) {r : Result Unit HandError} {t' : Tab} {rs' : Records}
    {seen' : List ℕ} (e : handing r t' rs' seen' ≡ hand_of l z salt n key filter t rs seen) where
  after_is : handing r t' rs' seen' ≡ after_answer l z salt n key t rs seen (answer_of l z salt n (handed_in n rs) filter t.flows rs.keys key)
  unfolding hand_of
  after_is = e

  -- the answer that the call gives is the one that the definition finds
  pub hand-answer : r ≡ answer_of l z salt n (handed_in n rs) filter t.flows rs.keys key
  hand-answer =
      ap (λ (x : Handing). x.answer) after_is
      ∙ after-answer l z salt n key t rs seen (answer_of l z salt n (handed_in n rs) filter t.flows rs.keys key)

  after-it : handing r t' rs' seen' ≡ after_answer l z salt n key t rs seen r
  after-it = after_is ∙ ap (after_answer l z salt n key t rs seen) (sym hand-answer)

  -- 01's table of numbers, 9 to 12: "all memory kept"
  pub hand-kept : 0 < hand_number r → handing r t' rs' seen' ≡ handing r t rs seen
  hand-kept h = after-it ∙ after_kept l z salt n key filter t rs seen r h

  module _ {handed : ℕ} (h : Hands l z salt n handed key filter t rs seen) (q : r ≡ Ok tt) where
    taken_is : handing (Ok tt) t' rs' seen'
        ≡ handing (Ok tt) (taken_out l z salt key n t) (appended l n key 2 rs) (linked seen (bucket_of l z salt key) n)
    unfolding after_answer
    taken_is = (rw q at after-it)

    few : n < 2 * table_cells l z
    few =
        taken-room l z salt n handed key filter t rs seen h
        (hand-answer ∙ ap (λ m. answer_of l z salt n m filter t.flows rs.keys key) (sym h.handed-is)) q

    pub hand-fits : Fits l z salt (n + 1) t' rs' seen'
    hand-fits =
        subst (λ (x : Handing). Fits l z salt (n + 1) x.table x.list x.seen) (sym taken_is)
        (fits-taken l z salt n key t rs seen h.steady.fits h.key_fits few)

    -- fewer than N were handed over before
    below-12 : handed_in n rs < table_cells l z
    below-12 = (taken-told l z salt n (handed_in n rs) filter t.flows rs.keys key (sym hand-answer ∙ q)).3

    pub hand-bounded : Bounded l z salt (n + 1) t' rs'
    hand-bounded =
        subst (λ (x : Handing). Bounded l z salt (n + 1) x.table x.list) (sym taken_is)
        (bounded-handed l z salt n t rs h.steady.bounded h.steady.fits.table h.steady.fits.room key h.key_fits below-12)

    pub hand-handed : handed_in (n + 1) rs' ≡ handed_in n rs + 1
    unfolding digit
    hand-handed =
        ap (λ (x : Handing). handed_in (n + 1) x.list) taken_is
        ∙ handed-more l n key 2 rs (omega (arith, few, h.steady.fits.room.flags-fit))

    -- so that another key can be handed over
    pub hand-again : (next : List ℕ) → length next ≡ l.key → Hands l z salt (n + 1) (handed + 1) next filter t' rs' seen'
    hand-again next k = record {
      steady = record { fits = hand-fits; bounded = hand-bounded };
      filter-fits = h.filter-fits;
      key_fits = k;
      handed-is = ap (λ m. m + 1) h.handed-is ∙ sym hand-handed;
    }
