-- The peel and the exchange meet what is asked of them; each hollow program breaks the statement that is named.
use mathlib.Core.Path.{◌≡◌, refl, sym, ap, ◌∙◌}
use mathlib.Core.Bool.{true, false, not}
use mathlib.Core.List.{List, [], ◌∷◌}
use mathlib.Core.Logic.{inl, inr}
use mathlib.Core.Option.{Option, some}
use Prim.Native.Nat.{ℕ}
use native.Mathlib.Omega.{arith}
use borrow.Author.Tests.{eqb-true}
use lib.Dec.{eqb}
use lib.ListN.{length}
use Rattle.laws.specs.Xor.{xor_bytes}
use Rattle.laws.specs.Upto.{any_upto, lowest}
use Rattle.laws.proofs.Bools.{split, clash, or-e}
use Rattle.theory.specs.Encode.{Key, same_key, among, Distinct, sum_over, Table, empty_table, add_flow, flows_after, packets_of, EachTaken, NewIsNew, encode_cell, encode, outside}
use Rattle.theory.specs.Session.{Session, opened, keys_of, keys_where, counted, count_of, pure, ready, first, has_empty_cell, take_out, with_count, set_count, Step, quiet, damaged, next, after_step, repeat, peel_damaged, peel_at, peel, count_damaged, count_at, count_step, then_counts, settle}
use Rattle.theory.specs.HandOver.{hand, hand_answer, hand_over, Call, call, calls, hand_each}
use Rattle.theory.specs.Report.{Report, report}
use Rattle.theory.specs.Invariant.{Placed, Counted, received}
use Rattle.theory.specs.Demands.{Premises, keep, take_all_out}
use Rattle.theory.specs.Exchange.{Pair, exchange, twelves_in, hand_both, settle_both, go_on, rounds, then_rounds}
use Rattle.theory.specs.Notes.{Noted, noted, note_taken, map_step, peel_noted, scan}
use Rattle.theory.specs.Collector.{Gives, gives, refuses, KeysSized, packets_by, calls_by, accepted_by, OpensTo, Meets2, Prints, Meets3}
use Rattle.theory.specs.Collector.{ExchangeTrue, PeelLeaves, PeelMeets}
use Rattle.theory.specs.Hollow.{pairs, four, taken_after, Page, site, cells_of, higher}
use Rattle.theory.specs.Hollow.{refusing, fixed, idle, pretending, inventing, rescanning, doubling, hiding, ignoring, falsifying}
use Rattle.theory.proofs.Flow.{among_cases, among_none}
use Rattle.theory.proofs.Demands.{stands-received, stands-holds, truthful, rest-ends}
use Rattle.theory.proofs.Exchange.{exchange-stands-a, exchange-stands-b, exchange-rests}

-- ---- ours
-- Theorem: one peel leaves the marks and per-cell numbers of all cells but the flow's, whatever the marks were
pub peel-meets : PeelMeets peel_noted
unfolding peel_noted note_taken
peel-meets n has t u e = go (peel n has t.notes.marks t.session) e
  where
    renewed : Session → Noted
    renewed s = record {
      session = s;
      notes = note_taken has (t.session.cells (lowest n t.notes.marks)).flow_xor (length t.session.list) s t.notes;
    }

    go : (v : Step Session) → map_step renewed v ≡ next u → PeelLeaves n has t u
    go quiet p = absurd (let z : ◌≡◌ {A = ℕ} 0 1 = cc in omega arith)
    go (damaged d) p = absurd (let z : ◌≡◌ {A = ℕ} 0 1 = cc in omega arith)
    go (next s) p =
        let same : renewed s ≡ u = cc in
        record {
          marks-kept = λ c away. ap (λ v. v.notes.marks c) (sym same) ∙ rw away;
          unknowns-kept = λ c away. ap (λ v. v.notes.unknowns c) (sym same) ∙ rw away;
          positions-kept = λ c away. ap (λ v. v.notes.positions c) (sym same) ∙ rw away;
        }

-- Theorem: the exchange keeps truth and rest at both switches
pub exchange-true : ExchangeTrue (λ A B p. (exchange A B p).pair)
exchange-true = record {
  true-a = λ A B e f p g h ours.
      let s = exchange-stands-a A B p e g ours.ours-a in
      let rest = exchange-rests A B e f p (stands-holds A e p.a g) (stands-holds B f p.b h) g.fits h.fits ours in
      (truthful A e (exchange A B p).pair.a s, rest-ends A e (exchange A B p).pair.a s rest.0);
  true-b = λ A B e f p g h ours.
      let s = exchange-stands-b A B p f h ours.ours_b in
      let rest = exchange-rests A B e f p (stands-holds A e p.a g) (stands-holds B f p.b h) g.fits h.fits ours in
      (truthful B f (exchange A B p).pair.b s, rest-ends B f (exchange A B p).pair.b s rest.1);
}

-- ---- a small switch: a and b at cells 0 and 2, d at 1 and 3
abbrev a : Key
a = 1 ∷ []

abbrev b : Key
b = 2 ∷ []

abbrev d : Key
d = 4 ∷ []

-- its filter makes no mistake
clean : (F l : List Key) → EachTaken NewIsNew F (taken_after F l)
unfolding taken_after EachTaken
clean F [] = tt
clean F (x ∷ l) = (λ e. ap not e, clean (add_flow F x) l)

premises : (packets accepted : List Key)
    → ((k : Key) → among k accepted ≡ true → among k (flows_after [] (taken_after [] packets)) ≡ true) → Premises (taken_after [] packets) accepted
premises packets accepted h = record { clean = clean [] packets; accepted-counted = h }

none : (packets : List Key) → Premises (taken_after [] packets) []
none packets = premises packets [] (λ k m. among_none k m)

-- ---- 01's six
given_by : Gives Table → ℕ
given_by (gives t) = 0
given_by (refuses n) = 1

pub refusing-breaks-2 : (text : Page) → Meets2 site (refusing text) → ⊥
unfolding given_by
refusing-breaks-2 text h =
    let z : ◌≡◌ {A = ℕ} 1 0 = ap given_by (h.goes_through []).2.sealed in
    omega arith

pub fixed-breaks-2 : (text : Page) → Prints site (fixed text) → ⊥
unfolding xor_bytes any_upto lowest same_key among sum_over add_flow flows_after packets_of encode_cell encode keys_of keys_where pure ready first has_empty_cell take_out
    with_count set_count after_step repeat peel_damaged peel_at peel count_damaged count_at count_step then_counts settle pairs taken_after packets_by
fixed-breaks-2 text h =
    let nothing = h [] (cells_of []) (opened (cells_of [])) (record { sealed = refl; opened = refl }) (clean [] []) in
    let something = h (a ∷ []) (cells_of (a ∷ [])) (opened (cells_of (a ∷ []))) (record { sealed = refl; opened = refl }) (clean [] (a ∷ [])) in
    let z : ◌≡◌ {A = ℕ} 0 1 = ap (λ (p : Page). length p.lines) (sym nothing ∙ something) in
    omega arith

pub idle-breaks-2 : Meets2 site idle → ⊥
unfolding same_key among add_flow flows_after keys_of outside pairs taken_after packets_by calls_by accepted_by KeysSized
idle-breaks-2 h =
    let met = h.demand (a ∷ []) (cells_of (a ∷ [])) (opened (cells_of (a ∷ [])))
    (record { sealed = refl; opened = refl }) [] tt (none (a ∷ [])) in
    met.at-end.none-unlisted 0 a (record {
      member = refl;
      chosen = refl;
      alone = λ k m p. elim (among_cases k a [] m) [ inl e ↦ e | inr n ↦ among_none k n ];
    })

-- b is handed over, and a settling then pretends: d stays unlisted
pub pretending-breaks-3 : Meets3 site pretending → ⊥
unfolding xor_bytes any_upto lowest same_key among sum_over add_flow flows_after packets_of encode_cell encode keys_of keys_where pure ready first has_empty_cell take_out
    with_count set_count after_step repeat peel_damaged peel_at peel count_damaged count_at count_step then_counts settle hand_answer hand_over pairs taken_after
    packets_by calls_by accepted_by KeysSized take_all_out
pretending-breaks-3 h = clash ((h (a ∷ b ∷ d ∷ []) (cells_of (a ∷ b ∷ d ∷ [])) (opened (cells_of (a ∷ b ∷ d ∷ [])))
    (record { sealed = refl; opened = refl }) (hand b ∷ []) (refl, tt)
    (premises (a ∷ b ∷ d ∷ []) (b ∷ []) (λ k m. elim (among_cases k b [] m) [ inl e ↦ rw e refl | inr n ↦ among_none k n ]))).same_keys d) refl

-- whatever report is invented: at each session that is reached it is the true one
pub inventing-breaks-2 : (invented : Session → Option Report) (packets : List Key) (image : Table) (v : Session)
    → OpensTo site (inventing invented) packets image v → (later : List Call) → KeysSized 1 later
    → Premises (taken_after [] packets) (accepted_by site (inventing invented) later v)
    → let s = calls_by site (inventing invented) later v in (invented s ≡ some (report 4 s) → ⊥) → Meets2 site (inventing invented) → ⊥
inventing-breaks-2 invented packets image v o later sized p other h = other (h.demand packets image v o later sized p).reports

-- a flow in cells 0 and 2, and a mark at every cell
abbrev all_marked : Noted
all_marked = record {
  session = opened (encode 1 pairs (a ∷ []) (λ k. 1));
  notes = record { marks = λ c. true; unknowns = λ c. 0; positions = λ c. 0 };
}

pub rescanning-breaks-peel : PeelMeets rescanning → ⊥
unfolding xor_bytes any_upto lowest same_key among sum_over encode_cell encode keys_of pure has_empty_cell take_out peel_damaged peel_at peel scan rescanning pairs
rescanning-breaks-peel h = clash ((h 4 pairs all_marked (noted pairs (take_out pairs false a all_marked.session)) refl).marks-kept 1 refl) refl

-- ---- four more
pub doubling-breaks-2 : Meets2 site doubling → ⊥
unfolding xor_bytes any_upto lowest same_key among sum_over add_flow flows_after packets_of encode_cell encode keys_of keys_where pure ready first has_empty_cell take_out
    with_count set_count after_step repeat peel_damaged peel_at peel count_damaged count_at count_step then_counts settle pairs taken_after packets_by calls_by
    accepted_by KeysSized higher Distinct
doubling-breaks-2 h =
    let met = h.demand (a ∷ []) (cells_of (a ∷ [])) (opened (cells_of (a ∷ [])))
    (record { sealed = refl; opened = refl }) [] tt (none (a ∷ [])) in
    clash refl met.truthful-settled.listed-once.0

-- a and b stay in cells 0 and 2
pub hiding-breaks-2 : Meets2 site hiding → ⊥
unfolding xor_bytes any_upto lowest same_key among sum_over empty_table add_flow flows_after packets_of encode_cell encode keys_of keys_where counted pure ready first
    has_empty_cell take_out with_count set_count after_step repeat peel_damaged peel_at peel count_damaged count_at count_step then_counts settle pairs taken_after
    packets_by calls_by accepted_by KeysSized keep
hiding-breaks-2 h =
    let met = h.demand (a ∷ b ∷ []) (cells_of (a ∷ b ∷ [])) (opened (cells_of (a ∷ b ∷ [])))
    (record { sealed = refl; opened = refl }) [] tt (none (a ∷ b ∷ [])) in
    let z : ◌≡◌ {A = ℕ} 0 2 = ap (λ c. c.flow_count) (met.truthful-settled.cells_left 0) in
    omega arith

-- b is accepted and not listed
pub ignoring-breaks-3 : Meets3 site ignoring → ⊥
unfolding xor_bytes any_upto lowest same_key among sum_over add_flow flows_after packets_of encode_cell encode keys_of keys_where pure ready first has_empty_cell take_out
    with_count set_count after_step repeat peel_damaged peel_at peel count_damaged count_at count_step then_counts settle pairs taken_after
    packets_by calls_by accepted_by KeysSized take_all_out
ignoring-breaks-3 h = clash ((h (a ∷ b ∷ []) (cells_of (a ∷ b ∷ [])) (opened (cells_of (a ∷ b ∷ [])))
    (record { sealed = refl; opened = refl }) (hand b ∷ []) (refl, tt)
    (premises (a ∷ b ∷ []) (b ∷ []) (λ k m. elim (among_cases k b [] m) [ inl e ↦ rw e refl | inr n ↦ among_none k n ]))).same_keys b) refl

pairs-placed : Placed 4 pairs
unfolding pairs any_upto
pairs-placed = record {
  within = λ k c h. elim (split (same_key k d)) [
    | inl p ↦ elim (or-e (eqb c 1) (eqb c 3) (rw p at h)) [ inl q ↦ omega (arith, eqb-true c 1 q) | inr q ↦ omega (arith, eqb-true c 3 q) ]
    | inr p ↦ elim (or-e (eqb c 0) (eqb c 2) (rw p at h)) [ inl q ↦ omega (arith, eqb-true c 0 q) | inr q ↦ omega (arith, eqb-true c 2 q) ]
  ];
  somewhere = λ k. elim (split (same_key k d)) [ inl p ↦ rw p | inr p ↦ rw p ];
}

-- one switch counted a, with one packet; the other nothing
abbrev one : Counted four
one = record {
  placed = pairs-placed;
  key_length = 1;
  flows = a ∷ [];
  packets = λ k. 1;
  flowset = record {
    apart = unfold Distinct among in (refl, tt);
    sized = λ k m. elim (among_cases k a [] m) [ inl e ↦ ap length e | inr n ↦ among_none k n ];
    some-packet = λ k m. omega arith;
  };
}

abbrev empty : Counted four
empty = record {
  placed = pairs-placed;
  key_length = 1;
  flows = [];
  packets = λ k. 1;
  flowset = record { apart = unfold Distinct in tt; sized = λ k m. among_none k m; some-packet = λ k m. omega arith };
}

abbrev both : Pair
both = record { a = received four one; b = received four empty; twelves = 0 }

pub falsifying-breaks : ExchangeTrue falsifying → ⊥
unfolding xor_bytes any_upto lowest same_key among sum_over encode_cell encode keys_of keys_where count_of pure ready first has_empty_cell take_out
    with_count set_count after_step repeat peel_damaged peel_at peel count_damaged count_at count_step then_counts settle hand_answer hand_over call calls hand_each
    twelves_in hand_both settle_both go_on rounds then_rounds exchange pairs higher
falsifying-breaks h =
    let met = (h.true-a four four one empty both (stands-received four one) (stands-received four empty)
    (record { ours-a = λ k m. among_none k m; ours_b = λ k m. among_none k m })).0 in
    let z : ◌≡◌ {A = ℕ} 2 1 = met.counts-true a 2 refl in
    omega arith
