-- A pure cell is one with a single flow that is not listed; a ready cell is one with all flows listed and a single one not counted.
use mathlib.Core.Path.{◌≡◌, sym, subst, ◌∙◌}
use mathlib.Core.Logic.{inl, inr}
use mathlib.Core.Bool.{Bool, true, false, not, ◌&&◌, not-not}
use mathlib.Core.List.{List, [], ◌∷◌}
use Prim.Native.Nat.{ℕ, ◌+◌, ◌<◌}
use native.Mathlib.Nat.{add_assoc, add_comm}
use native.Mathlib.Omega.{arith}
use lib.ListN.{replicate}
use lib.Dec.{eqb}
use Rattle.laws.specs.Xor.{xor_bytes}
use Rattle.laws.proofs.Bools.{split, clash, and_l, and_r, and_i}
use Rattle.laws.proofs.Xor.{xor_bytes-comm, xor_bytes-assoc, xor_bytes-zero}
use Rattle.theory.specs.Encode.{Key, among, Distinct, total, count, Placement, outside, Only}
use Rattle.theory.specs.Session.{Session, unknowns_of, listed, unknown, counted, pure, unknowns_in, ready, first, the_unknown}
use Rattle.theory.specs.HandOver.{Switch}
use Rattle.theory.specs.Invariant.{Counted, Holds}
use Rattle.theory.proofs.Flow.{among-here, among_there, among_cases, among_none}
use Rattle.theory.proofs.Sums.{sum_congr, sum-none, sum-only, sum-part, count_none, count-one, total-split}
use Rattle.theory.proofs.Records.{where-listed, where-distinct}
use Rattle.theory.proofs.Outside.{outside-in, outside-not, outside-make}
use borrow.Author.Tests.{eqb-true}

-- the first that passes is in the list and passes, if one does
pub first-ok : (P : Key → Bool) (l : List Key) (k : Key) → among k l ≡ true → P k ≡ true → (among (first P l) l ≡ true) × (P (first P l) ≡ true)
unfolding first
first-ok P [] k m p = among_none k m
first-ok P (x ∷ l) k m p = elim (split (P x)) [
  | inl q ↦ rw q (among-here x l, q)
  | inr q ↦ rw q (elim (among_cases k x l m) [
    | inl e ↦ clash (rw e at p) q
    | inr h ↦ (among_there (first P l) x l (first-ok P l k h p).0, (first-ok P l k h p).1)
  ])
]

pub only-total : (w : Key → ℕ) {P : Key → Bool} {l : List Key} {x : Key} → Distinct l → Only P l x → total P w l ≡ w x
only-total w {P} {l} {x} d o = omega (arith, sum-only ◌+◌ 0 w add_comm add_assoc P x l d o.member o.chosen o.alone)

module _ (has : Placement) (s : Session) (c : ℕ) where
  pub pure-one : pure has s.cells c ≡ true → (s.cells c).flow_count ≡ 1
  unfolding pure
  pure-one p = eqb-true (s.cells c).flow_count 1 (and_l (eqb (s.cells c).flow_count 1) (has (s.cells c).flow_xor c) p)

  pub pure-has : pure has s.cells c ≡ true → has (s.cells c).flow_xor c ≡ true
  unfolding pure
  pure-has p = and_r (eqb (s.cells c).flow_count 1) (has (s.cells c).flow_xor c) p

  pub ready-zero : ready has s c ≡ true → (s.cells c).flow_count ≡ 0
  unfolding ready
  ready-zero p = eqb-true (s.cells c).flow_count 0 (and_l (eqb (s.cells c).flow_count 0) (eqb (unknowns_in has s.list c) 1) p)

  pub ready-one : ready has s c ≡ true → unknowns_in has s.list c ≡ 1
  unfolding ready
  ready-one p = eqb-true (unknowns_in has s.list c) 1 (and_r (eqb (s.cells c).flow_count 0) (eqb (unknowns_in has s.list c) 1) p)

module _ (w : Switch) (e : Counted w) (s : Session) (i : Holds w e s) (c : ℕ) where
  open w use {has}
  open e use {key_length, flows as F, packets, flowset as fs}

  -- ---- pure
  only-key : (x : Key) → Only (outside has (listed s) c) F x → (s.cells c).flow_xor ≡ x
  only-key x o = i.xors c ∙ sum-only xor_bytes (replicate key_length 0) (λ k. k) xor_bytes-comm xor_bytes-assoc (outside has (listed s) c) x F
      fs.apart o.member o.chosen o.alone
      ∙ xor_bytes-comm x (replicate key_length 0) ∙ xor_bytes-zero key_length x (fs.sized x o.member)

  pub pure-only : pure has s.cells c ≡ true → Only (outside has (listed s) c) F (s.cells c).flow_xor
  pure-only p =
      let t = count-one (outside has (listed s) c) F fs.apart (sym (i.flows c) ∙ pure-one has s c p) in
      let o : Only (outside has (listed s) c) F t.0 = record { member = t.1; chosen = t.2; alone = t.3 } in
      subst (Only (outside has (listed s) c) F) (sym (only-key t.0 o)) o

  pub only-pure : (x : Key) → Only (outside has (listed s) c) F x → pure has s.cells c ≡ true
  unfolding pure
  only-pure x o = rw (only-key x o, i.flows c, only-total (λ k. 1) fs.apart o) (outside-in has (listed s) c x o.chosen)

  -- ---- ready
  unknowns-all : unknowns_in has s.list c ≡ count (λ k. has k c && unknown s k) F
  unknowns-all = sum-part ◌+◌ 0 (λ k. 1) add_comm add_assoc (λ k. has k c) (unknowns_of s.list) F
      (where-distinct (λ r. not r.known) s.list i.apart) fs.apart
      (λ k m. i.inside k (where-listed (λ r. not r.known) s.list k m))

  -- a cell with FlowCount 0: its flows are all listed
  pub zero-listed : (s.cells c).flow_count ≡ 0 → (k : Key) → among k F ≡ true → has k c ≡ true → listed s k ≡ true
  zero-listed z k m h = elim (split (listed s k)) [
    | inl l ↦ l
    | inr l ↦ clash (outside-make has (listed s) c k h l) (count_none (outside has (listed s) c) F fs.apart (sym (i.flows c) ∙ z) k m)
  ]

  -- where all flows of the cell are listed, those not counted are the unknown ones
  uncounted : ((k : Key) → among k F ≡ true → has k c ≡ true → listed s k ≡ true) → (k : Key) → among k F ≡ true
      → outside has (counted s) c k ≡ (has k c && unknown s k)
  unfolding outside counted
  uncounted all k m = elim (split (has k c)) [
    | inl h ↦ rw (h, all k m h) (not-not (unknown s k))
    | inr h ↦ rw h
  ]

  pub ready-only : ready has s c ≡ true → Only (outside has (counted s) c) F (the_unknown has s.list c)
  ready-only p =
      let t = count-one (λ k. has k c && unknown s k) F fs.apart (sym unknowns-all ∙ ready-one has s c p) in
      let same = uncounted (zero-listed (ready-zero has s c p)) in
      let ok = first-ok (λ k. has k c) (unknowns_of s.list) t.0
      (and_r (has t.0 c) (unknown s t.0) t.2) (and_l (has t.0 c) (unknown s t.0) t.2) in
      let u = the_unknown has s.list c in
      let m : among u F ≡ true = i.inside u (where-listed (λ r. not r.known) s.list u ok.0) in
      let both = and_i (has u c) (unknown s u) ok.1 ok.0 in
      record {
        member = m;
        chosen = same u m ∙ both;
        alone = λ k n q. t.3 k n (sym (same k n) ∙ q) ∙ sym (t.3 u m both);
      }

  pub only-ready : ((k : Key) → among k F ≡ true → has k c ≡ true → listed s k ≡ true) → (x : Key)
      → Only (outside has (counted s) c) F x → ready has s c ≡ true
  unfolding ready
  only-ready all x o =
      rw (
        unknowns-all,
        i.flows c,
        sum-none ◌+◌ 0 (λ k. 1) (outside has (listed s) c) F (λ k m. elim (split (outside has (listed s) c k)) [
          | inl h ↦ clash (all k m (outside-in has (listed s) c k h)) (outside-not has (listed s) c k h)
          | inr h ↦ h
        ]),
        ← sum_congr ◌+◌ 0 (λ k. 1) (outside has (counted s) c) (λ k. has k c && unknown s k) F (uncounted all),
        only-total (λ k. 1) fs.apart o,
      )

  pub ready-unknown : ready has s c ≡ true → unknown s (the_unknown has s.list c) ≡ true
  ready-unknown p =
      let u = the_unknown has s.list c in
      let o = ready-only p in
      and_r (has u c) (unknown s u) (sym (uncounted (zero-listed (ready-zero has s c p)) u o.member) ∙ o.chosen)

  -- the cell's packets are the flow's
  pub ready-count : ready has s c ≡ true → (s.cells c).packet_count ≡ packets (the_unknown has s.list c)
  ready-count p = i.left c ∙ only-total packets fs.apart (ready-only p)

  -- a flow that is not listed has no cell with FlowCount 0
  pub unlisted-open : (x : Key) → among x F ≡ true → listed s x ≡ false → has x c ≡ true → 0 < (s.cells c).flow_count
  unlisted-open x m l h = omega (
    arith,
    i.flows c,
    total-split (λ k. 1) (outside has (listed s) c) x F fs.apart m (outside-make has (listed s) c x h l),
  )
