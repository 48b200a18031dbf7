-- The report counts the list and the cells that stand there; what whole means.
use mathlib.Core.Path.{◌≡◌, sym, ap, ap₂, subst, ◌∙◌}
use mathlib.Core.Bool.{Bool, true, not, ◌&&◌}
use mathlib.Core.List.{List}
use mathlib.Core.Logic.{inl, inr}
use Prim.Native.Nat.{ℕ, ◌-◌, ◌*◌}
use native.Mathlib.Omega.{arith}
use borrow.Author.Tests.{eq-eqb, lt-ltb, le-ltb}
use lib.Dec.{eqb, ltb}
use lib.ListN.{length, get_or, take, drop, replicate}
use Rattle.std.specs.Prelude.{Ok}
use Rattle.laws.specs.Upto.{all_upto}
use Rattle.laws.specs.Zeros.{all_zero}
use Rattle.laws.proofs.Bools.{split, and_l, and_r}
use Rattle.laws.proofs.Lists.{zero-at}
use Rattle.laws.proofs.Upto.{length-list, all_yes, all_same, all_both}
use Rattle.laws.proofs.Lowest.{number-rest, number-max, number-zero, number-none}
use Rattle.laws.proofs.Zeros.{zero_is, zeros-zero, zero-rows}
use Rattle.layout.specs.declared.Layout.{Layout}
use Rattle.layout.specs.Sizes.{table_cells}
use Rattle.list.specs.Records.{Records, key_at, is_known}
use Rattle.table.specs.Table.{open_in}
use Rattle.test8.specs.Given.{flag_set}
use Rattle.room.specs.declared.Session.{Session}
use Rattle.room.specs.Memory.{Memory}
use Rattle.summary.specs.declared.Report.{Report}
use Rattle.summary.specs.declared.State.TheVariants.{Whole}
use Rattle.summary.specs.Report.{counted_in, nothing_left, state_of, report_of}
use Rattle.session.specs.Calls.{report_in, report_on}
use Rattle.session.proofs.Laws.{report-passes, told_is}
use Rattle.theory.specs.Session.{keys_where, unknowns_of, open_cells}
use Rattle.theory.specs.Report as theory
use Rattle.theory.proofs.Whole.{whole-only}
use Rattle.link.specs.View.{record_at, records_of, below, cells_of}
use Rattle.link.proofs.Given.{where-number}
use Rattle.link.proofs.Test8.{open_is}
use Rattle.demands.specs.Calls.{Live, viewed, Passing}
use Rattle.demands.specs.Demands.{report_as, state_as, CellsZero}
use Rattle.demands.proofs.Steps.{tests-pass}

state-is : (opens unknown : ℕ) (nothing : Bool) → state_as (state_of opens unknown nothing) ≡ theory.state_of opens unknown nothing
state-is opens unknown nothing = elim (split (ltb 0 opens)) [
  | inl a ↦ rw a
  | inr a ↦ elim (split (ltb 0 unknown)) [
    | inl b ↦ rw (a, b)
    | inr b ↦ elim (split nothing) [ inl d ↦ rw (a, b, d) | inr d ↦ rw (a, b, d) ]
  ]
]

report-path : {a b : theory.Report} → a.listed ≡ b.listed → a.counted ≡ b.counted → a.opens ≡ b.opens → a.state ≡ b.state → a ≡ b
report-path p q r t = λ i. record { listed = p i; counted = q i; opens = r i; state = t i }

module _ (l : Layout) (v : Live) (p : Passing l v) where
  abbrev n : ℕ
  n = v.numbers.listed

  abbrev rs : Records
  rs = v.room.list

  abbrev size : ℕ
  size = table_cells l v.numbers.sizes

  counted_is : counted_in n rs.flags ≡ length (keys_where (λ r. r.known) (records_of l n rs))
  unfolding counted_in record_at is_known
  counted_is = sym (where-number (λ r. r.known) (record_at l rs) n)

  unknown-is : n - counted_in n rs.flags ≡ length (unknowns_of (records_of l n rs))
  unfolding counted_in record_at is_known
  unknown-is = omega (arith, number-rest n (is_known rs), where-number (λ r. not r.known) (record_at l rs) n)

  opens-is : open_in (length v.room.table.flows) v.room.table.flows ≡ open_cells size (viewed l v).cells
  opens-is = rw p.lent.table.flows-fit
      (sym (open_is l v.numbers.sizes v.numbers.salt n v.room.table v.room.packets rs p.lent))

  nothing_is : nothing_left v.room.table.xors v.room.packets ≡ theory.nothing_left size (viewed l v).cells
  unfolding nothing_left theory.nothing_left all_zero cells_of below key_at
  nothing_is =
      let xors = v.room.table.xors in
      let packets = v.room.packets in
      let key : ℕ → Bool = λ c. all_zero (take l.key (drop (c * l.key) xors)) in
      let none : ℕ → Bool = λ c. eqb (get_or packets c 0) 0 in
      ap₂ (λ a b. a && b) (zero-rows size l.key xors p.lent.table.xors-fit) (ap (λ n. all_upto n none) p.lent.packets-fit)
      ∙ sym (all_both size key none)
      ∙ all_same size (λ c. key c && none c) (λ c. all_zero ((viewed l v).cells c).flow_xor && eqb ((viewed l v).cells c).packet_count 0)
      (λ c h. rw (lt-ltb c size h))

  -- Theorem: 01 'A session', Report: "worked out anew from list and cells"
  pub report-counts : (report_on l v.numbers v.room ≡ Ok (report_in n v.room))
      × (report_as (report_in n v.room) ≡ theory.report size (viewed l v))
  unfolding report_of theory.report
  report-counts = (
    report-passes l v.numbers v.room (tests-pass l v p),
    report-path (sym (length-list n (record_at l rs))) counted_is opens-is
        (state-is (open_in (length v.room.table.flows) v.room.table.flows) (n - counted_in n rs.flags)
        (nothing_left v.room.table.xors v.room.packets)
        ∙ ap₂ (λ (f : Bool → theory.State) b. f b) (ap₂ theory.state_of opens-is unknown-is) nothing_is),
  )

-- ---- what whole means
flows-zero : (flows : List ℕ) → open_in (length flows) flows ≡ 0 → all_zero flows ≡ true
unfolding open_in all_zero
flows-zero flows e = all_yes (length flows) (λ c. eqb (get_or flows c 0) 0)
    (λ c h. eq-eqb (get_or flows c 0) 0 (number-zero (length flows) (λ i. get_or flows i 0) e c h))

zero-open : (flows : List ℕ) → flows ≡ replicate (length flows) 0 → open_in (length flows) flows ≡ 0
unfolding open_in
zero-open flows e = number-none (length flows) (λ c. ltb 0 (get_or flows c 0))
    (λ c h. le-ltb 0 (get_or flows c 0) (omega (arith, ap (λ s. get_or s c 0) e ∙ zero-at (length flows) c)))

-- a report says whole just where the cells are all zero and every listed flow has its count
abbrev Whole-says : Memory → Report → Type 0
Whole-says m r = (r.state ≡ Whole → CellsZero m × (r.counted ≡ r.listed)) × (CellsZero m → r.counted ≡ r.listed → r.state ≡ Whole)

whole_in : (n : ℕ) (m : Memory) → Whole-says m (report_in n m)
unfolding report_of nothing_left counted_in
whole_in n m =
    let xors = m.table.xors in
    let flows = m.table.flows in
    let packets = m.packets in
    let opens = open_in (length flows) flows in
    let unknown = n - counted_in n m.list.flags in
    let nothing = nothing_left xors packets in
    let known = number-max n (λ i. flag_set 0 (get_or m.list.flags i 0)) in (
      λ z.
          let w = whole-only opens unknown nothing (sym (state-is opens unknown nothing) ∙ ap state_as z) in (
            record {
              xors = zero_is xors (and_l (all_zero xors) (all_zero packets) w.2);
              flows = zero_is flows (flows-zero flows w.0);
              packets = zero_is packets (and_r (all_zero xors) (all_zero packets) w.2);
            },
            omega (arith, w.1, known),
          ),
      λ zero counted. rw (
        zero-open flows zero.flows,
        le-ltb 0 unknown (omega (arith, counted)),
        ap all_zero zero.xors ∙ zeros-zero (length xors),
        ap all_zero zero.packets ∙ zeros-zero (length packets),
      ),
    )

-- Theorem: so does the report's call on any session
pub whole-means : (l : Layout) (s : Session) (m : Memory) (r : Report) → report_on l s m ≡ Ok r
    → (r.state ≡ Whole → CellsZero m × (r.counted ≡ r.listed)) × (CellsZero m → r.counted ≡ r.listed → r.state ≡ Whole)
whole-means l s m r e = subst (Whole-says m) (told_is l s m e) (whole_in s.listed m)
