-- The loop that hands a list over to the session of a part.
use Rattle.std.proofs.Common.{◌≡◌, sym, ap, ap₂, subst, ◌∙◌, List, length, ℕ, ◌+◌, ◌*◌, ◌≤◌, ◌<◌, Result, arith}
use Rattle.laws.specs.Upto.{each_upto}
use Rattle.laws.proofs.Lowest.{number-max}
use Rattle.laws.proofs.Rows.{row_within}
use Rattle.laws.proofs.Upto.{each_more}
use Rattle.layout.specs.declared.Layout.{Layout}
use Rattle.layout.specs.declared.Sizes.{Sizes}
use Rattle.layout.specs.Sizes.{filter_bytes}
use Rattle.layout.proofs.Ranges.{table-high}
use Rattle.list.specs.Records.{Records, key_at, is_handed, handed_in}
use Rattle.table.specs.Table.{Tab}
use Rattle.list.proofs.Laws.{length-key}
use Rattle.handing.specs.declared.HandError.{HandError}
use Rattle.handing.specs.Hand.{Handing, handing, hand_of, taken_by, twelve_by, Hands}
use Rattle.parts.specs.Sides.{switch, Given, given, after_hand, hand_at, hand_keys}
use Rattle.parts.proofs.Hands.{Ready, ready-hands, hand-onward, ready-upto, twelves-upto}

module _ (l : Layout) (z : Sizes) (salt : ℕ) (filter keys : List ℕ) (m : ℕ) (g : Given) where
  abbrev upto : ℕ → Given
  upto i = each_upto i (hand_at l (switch z salt) filter keys) g

  -- what stands before turn i
  pub record Taking (i handed : ℕ) (q : Given) : Type 0 where
    pub few : i ≤ m
    pub is : q ≡ upto i
    pub handed-is : handed ≡ handed_in q.listed q.list

  pub taking-start : {handed : ℕ} {q : Given} → q ≡ g → handed ≡ handed_in q.listed q.list → Taking 0 handed q
  unfolding each_upto
  taking-start e h = record { few = omega arith; is = e; handed-is = h }

  module _ (f : length filter ≡ filter_bytes z) (within : m * l.key ≤ length keys) (r : Ready l z salt filter g) {i handed : ℕ} {q : Given}
      (t : Taking i handed q) where
    key_fits : (j : ℕ) → j < m → length (key_at l keys j) ≡ l.key
    key_fits j h = length-key l keys j (omega (arith, row_within j m l.key h))

    taking-ready : Ready l z salt filter q
    taking-ready = subst (Ready l z salt filter) (sym t.is) (ready-upto l z salt filter keys m f key_fits g r i t.few)

    pub taking-listed : q.listed ≤ 3072
    taking-listed = let fits = taking-ready.fits in omega (arith, fits.listed, table-high l z fits.table.lays fits.table.ranged)

    pub taking-handed : handed ≤ 3072
    unfolding handed_in
    taking-handed = omega (arith, t.handed-is, taking-listed, number-max q.listed (is_handed q.list))

    pub taking-twelves : q.twelves ≤ g.twelves + i
    taking-twelves = omega (arith, ap (λ (x : Given). x.twelves) t.is, twelves-upto l z salt filter keys m g i)

    pub taking-hands : i < m → Hands l z salt q.listed handed (key_at l keys i) filter q.table q.list q.seen
    taking-hands h =
        subst (λ k. Hands l z salt q.listed k (key_at l keys i) filter q.table q.list q.seen) (sym t.handed-is)
        (ready-hands l z salt filter f q taking-ready (key_at l keys i) (key_fits i h))

    abbrev next : Handing
    next = hand_of l z salt q.listed (key_at l keys i) filter q.table q.list q.seen

    upto_next : upto (i + 1) ≡ hand_at l (switch z salt) filter keys i (upto i)
    upto_next = each_more i (hand_at l (switch z salt) filter keys) g

    pub taking-on : i < m → {r : Result Unit HandError} {t' : Tab} {rs' : Records} {seen' : List ℕ} {n x y : ℕ} → handing r t' rs' seen' ≡ next
        → n ≡ q.listed + taken_by r → x ≡ taken_by r → y ≡ twelve_by r
        → Taking (i + 1) (handed + x) (given n (q.twelves + y) t' rs' seen')
    unfolding hand_at
    taking-on h {r} {t'} {rs'} {seen'} {n} {x} {y} e listed taken twelve =
        let answer : r ≡ next.answer = ap (λ (v : Handing). v.answer) e in
        let after : given n (q.twelves + y) t' rs' seen' ≡ after_hand q next =
        ap₂ (λ b c. given b (q.twelves + c) t' rs' seen') (listed ∙ ap (λ v. q.listed + taken_by v) answer) (twelve ∙ ap twelve_by answer)
        ∙ ap (λ (v : Handing). given (q.listed + taken_by next.answer) (q.twelves + twelve_by next.answer) v.table v.list v.seen) e in
        record {
          few = omega arith;
          is =
              after ∙ ap (λ (v : Given). after_hand v (hand_of l z salt v.listed (key_at l keys i) filter v.table v.list v.seen)) t.is
              ∙ sym upto_next;
          handed-is =
              let on = (hand-onward l z salt filter f q taking-ready (key_at l keys i) (key_fits i h)).handed in
              let left = ap (λ (v : Given). handed_in v.listed v.list) after in
              let more = taken ∙ ap taken_by answer in
              omega (arith, on, left, t.handed-is, more);
        }

    pub taking-done : i ≡ m → q ≡ hand_keys l (switch z salt) filter keys m g
    unfolding hand_keys
    taking-done e = t.is ∙ ap upto e
