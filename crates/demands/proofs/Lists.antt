-- One step on the lists of a session that passes the test is the theory's step on what is seen of them, and leaves lists that pass; for any index.
use mathlib.Core.Path.{◌≡◌, refl, sym, ap, ap₂, ◌∙◌}
use mathlib.Core.Bool.{Bool, true, false, not, cond}
use mathlib.Core.List.{List}
use Prim.Native.Nat.{ℕ, ◌+◌}
use native.Mathlib.Omega.{arith}
use lib.Dec.{leb}
use lib.ListN.{length}
use borrow.Author.Tests.{ne_eqb}
use Rattle.std.specs.Prelude.{Result, Ok, Err}
use Rattle.layout.specs.declared.Layout.{Layout}
use Rattle.layout.specs.declared.Sizes.{Sizes}
use Rattle.layout.specs.Sizes.{table_cells}
use Rattle.filter.specs.Filter.{is_new}
use Rattle.list.specs.Records.{Records, is_listed, handed_in}
use Rattle.table.specs.Table.{Tab, has_empty}
use Rattle.peeling.specs.Peel.{listed_at}
use Rattle.test8.specs.Test8.{is_session}
use Rattle.settling.specs.Settle.{settle_of}
use Rattle.handing.specs.declared.HandError.{HandError}
use Rattle.handing.specs.declared.HandError.TheVariants.{NotInFilter, Listed, EmptyCell, TooMany}
use Rattle.handing.specs.Hand.{hand_of, answer_of, after_answer, hand_number, taken_by}
use Rattle.theory.specs.Encode.{Key}
use Rattle.theory.specs.Session.{Session}
use Rattle.theory.specs.HandOver.{Switch, hand_answer, hand_over, settle_at}
use Rattle.link.specs.View.{session_of}
use Rattle.link.specs.Held.{Lent}
use Rattle.link.specs.Answers.{SettlesAs, stop_of}
use Rattle.link.proofs.Test8.{session-proper}
use Rattle.link.proofs.Hand.{hand-answer, hand-is, handed-lent}
use Rattle.link.proofs.Sessions.{session-settles, session-lent, session-again, handed-again}
use Rattle.meaning.specs.View.{switch_of}

-- lists that pass the test, in which the theory's session s is seen
pub record Shows (l : Layout) (z : Sizes) (salt n : ℕ) (t : Tab) (packets : List ℕ) (rs : Records) (s : Session) : Type 0 where
  pub lent : Lent l z t packets rs
  pub passes : is_session l z salt n t rs ≡ true
  pub seen_as : session_of l z n t packets rs ≡ s

module _ (l : Layout) (z : Sizes) (salt : ℕ) (filter : List ℕ) (n : ℕ) (t : Tab) (packets : List ℕ) (rs : Records) (lent : Lent l z t packets rs)
    (passes : is_session l z salt n t rs ≡ true) (seen : List ℕ) where
  abbrev w : Switch
  w = switch_of l z salt filter

  abbrev before : Session
  before = session_of l z n t packets rs

  -- ---- settling
  abbrev settles : SettlesAs l z salt (settle_of l z salt n t packets rs seen) (settle_at w before)
  settles = session-settles l z salt n t packets rs seen lent passes

  pub settle-stops : stop_of (settle_of l z salt n t packets rs seen).answer ≡ (settle_at w before).stop
  settle-stops = settles.answer

  -- Theorem: it is the theory's settling, which looks through all cells at each step
  pub settle-shows : let e = settle_of l z salt n t packets rs seen in
      Shows l z salt (listed_at e.answer) e.table e.packets e.list (settle_at w before).state
  settle-shows = record {
    lent = session-lent l z salt n t packets rs seen lent passes;
    passes = session-again l z salt n t packets rs seen lent passes;
    seen_as = ap₂ (λ c r. record { cells = c; list = r }) settles.cells settles.list;
  }

  -- ---- hand-over
  module _ (x : Key) (fits : length x ≡ l.key) where
    abbrev answer : Result Unit HandError
    answer = answer_of l z salt n (handed_in n rs) filter t.flows rs.keys x

    in_order : (a b c d : Bool) → hand_number (cond a (Err NotInFilter) (cond b (Err Listed) (cond c (Err EmptyCell) (cond d (Err TooMany) (Ok tt)))))
        ≡ cond (not (not a)) 9 (cond b 10 (cond c 11 (cond d 12 0)))
    in_order true b c d = refl
    in_order false true c d = refl
    in_order false false true d = refl
    in_order false false false true = refl
    in_order false false false false = refl

    answer-number : hand_number answer ≡ hand_answer w x before
    unfolding answer_of handed_in
    answer-number = in_order (is_new z salt filter x) (is_listed l n rs.keys x) (has_empty l z salt t.flows x) (leb (table_cells l z) (handed_in n rs))
        ∙ sym (hand-answer l z salt n t packets rs lent (session-proper l z salt n t packets rs lent passes).0 w.passes x fits)

    after-answer : (a : Result Unit HandError) → (after_answer l z salt n x t rs seen a).answer ≡ a
    unfolding after_answer
    after-answer (Ok x) = refl
    after-answer (Err e) = refl

    -- 01's number is the theory's
    pub hand-number : hand_number (hand_of l z salt n x filter t rs seen).answer ≡ hand_answer w x before
    unfolding hand_of
    hand-number = ap hand_number (after-answer answer) ∙ answer-number

    abbrev ShownAfter : Result Unit HandError → Type 0
    ShownAfter a = let h = after_answer l z salt n x t rs seen a in Shows l z salt (n + taken_by h.answer) h.table packets h.list (hand_over w x before)

    -- an answer above 0 keeps everything
    shown-kept : (hand_number answer ≡ 0 → ⊥) → Shows l z salt n t packets rs (hand_over w x before)
    unfolding hand_over
    shown-kept above = record { lent = lent; passes = passes; seen_as = rw (ne_eqb (hand_answer w x before) 0 (λ e. above (answer-number ∙ e))) }

    shown-taken : hand_number answer ≡ 0 → ShownAfter (Ok tt)
    unfolding after_answer
    shown-taken e =
        let proper = (session-proper l z salt n t packets rs lent passes).0 in
        let zero = sym answer-number ∙ e in
        record {
          lent = handed-lent l z salt n t packets rs lent proper w.passes x fits zero;
          passes = handed-again l z salt n t packets rs lent passes w.passes x fits zero;
          seen_as = ap (λ t. t.session) (hand-is l z salt n t packets rs lent proper w.passes x fits zero);
        }

    refused-above : (x : HandError) → hand_number (Err x) ≡ 0 → ⊥
    refused-above NotInFilter q = omega (arith, q)
    refused-above Listed q = omega (arith, q)
    refused-above EmptyCell q = omega (arith, q)
    refused-above TooMany q = omega (arith, q)

    same-listed : {m : ℕ} → m ≡ n → Shows l z salt n t packets rs (hand_over w x before) → Shows l z salt m t packets rs (hand_over w x before)
    same-listed e s = rw e s

    shown-after : (a : Result Unit HandError) → answer ≡ a → ShownAfter a
    unfolding after_answer
    shown-after (Ok x) e = shown-taken (ap hand_number e)
    shown-after (Err x) e = same-listed (omega arith) (shown-kept (λ q. refused-above x (sym (ap hand_number e) ∙ q)))

    -- Theorem: it is the theory's hand-over
    pub hand-shows : let h = hand_of l z salt n x filter t rs seen in
        Shows l z salt (n + taken_by h.answer) h.table packets h.list (hand_over w x before)
    unfolding hand_of
    hand-shows = shown-after answer refl
