-- What the code finds on each way through a hand-over is what the definition says.
use mathlib.Core.Path.{◌≡◌, refl, sym, ap, ap₂, ◌∙◌}
use mathlib.Core.Bool.{Bool, true, false, cond}
use mathlib.Core.List.{List}
use Prim.Native.Nat.{ℕ, ◌*◌, ◌<◌, ◌≤◌}
use native.Mathlib.Omega.{arith}
use borrow.Author.Tests.{le-leb, lt-leb, leb-false}
use lib.Dec.{leb}
use Rattle.laws.specs.Upto.{list_upto}
use Rattle.layout.specs.declared.Layout.{Layout}
use Rattle.layout.specs.declared.Sizes.{Sizes}
use Rattle.layout.specs.Sizes.{Ranged, table_cells}
use Rattle.hash.specs.Places.{cell_of, bits_of}
use Rattle.filter.specs.Filter.{any_clear, is_new}
use Rattle.filter.proofs.Held.{clear-new}
use Rattle.list.specs.Records.{Records, is_listed, appended, handed_in}
use Rattle.index.specs.Index.{linked}
use Rattle.table.specs.Table.{Tab, any_empty, has_empty, taken_out}
use Rattle.found.specs.Seen.{bucket, bucket_of}
use Rattle.table.proofs.Parts.{empty-is}
use Rattle.table.proofs.Bounds.{room-for-hand}
use Rattle.handing.specs.Hand.{answer_of, handing, after_answer, hand_of, hand_number, Hands}
use Rattle.handing.specs.declared.HandError.{HandError}
use Rattle.handing.specs.declared.HandError.TheVariants.{NotInFilter, Listed, EmptyCell, TooMany}
use Rattle.std.specs.Prelude.{Result, Ok, Err}

-- ---- the answer
module _ (l : Layout) (z : Sizes) (salt n handed : ℕ) (filter flows keys key : List ℕ) (r : Ranged z)
    {bits : List ℕ} {clear : Bool} (b : bits ≡ bits_of z salt key) (p : clear ≡ any_clear filter bits z.kf) where
  new_is : is_new z salt filter key ≡ clear
  new_is = sym (p ∙ ap (λ x. any_clear filter x z.kf) b ∙ clear-new z r salt filter key)

  pub answer-new : clear ≡ true → Err NotInFilter ≡ answer_of l z salt n handed filter flows keys key
  unfolding answer_of
  answer-new e = rw (new_is, e)

  module _ (old : clear ≡ false) {found : Bool} (q : found ≡ is_listed l n keys key) where
    pub answer-listed : found ≡ true → Err Listed ≡ answer_of l z salt n handed filter flows keys key
    unfolding answer_of
    answer-listed e = rw (new_is, old, ← q, e)

    module _ (free : found ≡ false) {at : List ℕ} {empty : Bool} (a : at ≡ list_upto 4 (cell_of l z salt key))
        (s : empty ≡ any_empty at z.k flows) where
      has-is : has_empty l z salt flows key ≡ empty
      has-is = sym (s ∙ empty-is l z r salt key flows a)

      pub answer-empty : empty ≡ true → Err EmptyCell ≡ answer_of l z salt n handed filter flows keys key
      unfolding answer_of
      answer-empty e = rw (new_is, old, ← q, free, has-is, e)

      module _ (filled : empty ≡ false) {cells : ℕ} (t : cells ≡ table_cells l z) where
        pub answer-many : cells ≤ handed → Err TooMany ≡ answer_of l z salt n handed filter flows keys key
        unfolding answer_of
        answer-many h = rw (new_is, old, ← q, free, has-is, filled, le-leb (table_cells l z) handed (omega arith))

        pub answer-taken : handed < cells → Ok tt ≡ answer_of l z salt n handed filter flows keys key
        unfolding answer_of
        answer-taken h = rw (new_is, old, ← q, free, has-is, filled, lt-leb (table_cells l z) handed (omega arith))

-- ---- what is left
-- an answer other than the first has a number above 0
pub other-number : (e : HandError) → 0 < hand_number (Err e)
other-number NotInFilter = omega arith
other-number Listed = omega arith
other-number EmptyCell = omega arith
other-number TooMany = omega arith

module _ (l : Layout) (z : Sizes) (salt n : ℕ) (key filter : List ℕ) (t : Tab) (rs : Records) (seen : List ℕ) where
  -- and then all is kept
  pub after_kept : (a : Result Unit HandError) → 0 < hand_number a → after_answer l z salt n key t rs seen a ≡ handing a t rs seen
  unfolding after_answer
  after_kept (Ok x) h = absurd (omega arith)
  after_kept (Err e) h = refl

  module _ {handed : ℕ} {a : Result Unit HandError} (h : handed ≡ handed_in n rs) (e : a ≡ answer_of l z salt n handed filter t.flows rs.keys key) where
    after_is : after_answer l z salt n key t rs seen a ≡ hand_of l z salt n key filter t rs seen
    unfolding hand_of
    after_is = ap (after_answer l z salt n key t rs seen) (e ∙ ap (λ m. answer_of l z salt n m filter t.flows rs.keys key) h)

    pub hand-other : {x : HandError} → a ≡ Err x → handing (Err x) t rs seen ≡ hand_of l z salt n key filter t rs seen
    unfolding after_answer
    hand-other q = rw q at after_is

    pub hand-taken : {at : List ℕ} {t' : Tab} {rs' : Records} {seen' : List ℕ} {own : ℕ} → a ≡ Ok tt → at ≡ list_upto 4 (cell_of l z salt key)
        → rs' ≡ appended l n key 2 rs → own ≡ bucket at → seen' ≡ linked seen own n → t' ≡ taken_out l z salt key n t
        → handing (Ok tt) t' rs' seen' ≡ hand_of l z salt n key filter t rs seen
    unfolding after_answer
    hand-taken {at} {t'} {rs'} {seen'} {own} q u v w x y =
        let own_is : own ≡ bucket_of l z salt key = w ∙ ap bucket u in
        let seen-is : seen' ≡ linked seen (bucket_of l z salt key) n = x ∙ ap (λ m. linked seen m n) own_is in
        ap (λ m. handing (Ok tt) m rs' seen') y ∙ ap₂ (λ m o. handing (Ok tt) (taken_out l z salt key n t) m o) v seen-is ∙ (rw q at after_is)

-- ---- what it says that a key is taken out
differ : (a : Result Unit HandError) → 0 < hand_number a → a ≡ Ok tt → ⊥
differ a h e = let q = ap hand_number e in omega arith

abbrev chosen : Bool → Bool → Bool → Bool → Result Unit HandError
chosen a b c d = cond a (Err NotInFilter) (cond b (Err Listed) (cond c (Err EmptyCell) (cond d (Err TooMany) (Ok tt))))

only-taken : (a b c d : Bool) → chosen a b c d ≡ Ok tt
    → (a ≡ false) × (b ≡ false) × (c ≡ false) × (d ≡ false)
only-taken true b c d e = absurd (differ (Err NotInFilter) (omega arith) e)
only-taken false true c d e = absurd (differ (Err Listed) (omega arith) e)
only-taken false false true d e = absurd (differ (Err EmptyCell) (omega arith) e)
only-taken false false false true e = absurd (differ (Err TooMany) (omega arith) e)
only-taken false false false false e = (refl, refl, refl, refl)

pub taken-told : (l : Layout) (z : Sizes) (salt n handed : ℕ) (filter flows keys key : List ℕ)
    → answer_of l z salt n handed filter flows keys key ≡ Ok tt
    → (is_new z salt filter key ≡ false) × (is_listed l n keys key ≡ false) × (has_empty l z salt flows key ≡ false) × (handed < table_cells l z)
unfolding answer_of
taken-told l z salt n handed filter flows keys key e =
    let p = only-taken (is_new z salt filter key) (is_listed l n keys key) (has_empty l z salt flows key) (leb (table_cells l z) handed) e in
    (p.0, p.1, p.2, leb-false (table_cells l z) handed p.3)

-- and there is room for one record more
pub taken-room : (l : Layout) (z : Sizes) (salt n handed : ℕ) (key filter : List ℕ) (t : Tab) (rs : Records) (seen : List ℕ) {a : Result Unit HandError}
    → Hands l z salt n handed key filter t rs seen → a ≡ answer_of l z salt n handed filter t.flows rs.keys key → a ≡ Ok tt
    → n < 2 * table_cells l z
taken-room l z salt n handed key filter t rs seen h e q =
    let told = taken-told l z salt n handed filter t.flows rs.keys key (sym e ∙ q) in
    room-for-hand l z salt n t rs h.steady.bounded (omega (arith, told.3, h.handed-is))
