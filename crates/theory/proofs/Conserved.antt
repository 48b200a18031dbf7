-- Nothing is lost: what was received is what the cells still hold and what the list has, whatever the cells hold and whatever calls were made.
use mathlib.Core.Path.{◌≡◌, refl, sym, ap, ◌∙◌, fun_ext}
use mathlib.Core.Logic.{inl, inr}
use mathlib.Core.Bool.{Bool, true, false, not, ◌&&◌, ◌||◌}
use mathlib.Core.List.{List, [], ◌∷◌, ◌++◌}
use mathlib.Core.Option.{some, none}
use Prim.Native.Nat.{ℕ, ◌+◌, ◌-◌, ◌≤◌, ◌<◌}
use native.Mathlib.Nat.{add_assoc, add_comm}
use native.Mathlib.Omega.{arith}
use lib.Dec.{eqb, ltb}
use lib.ListN.{length, replicate}
use borrow.Author.Tests.{ltb-false}
use Rattle.laws.specs.Xor.{xor_bytes}
use Rattle.laws.specs.Upto.{lowest}
use Rattle.laws.proofs.Bools.{split, clash, positive_of, or-e, or_l, or_r, or-fl, or-fr}
use Rattle.laws.proofs.Upto.{any_none}
use Rattle.laws.proofs.Lowest.{lowest-lt, lowest-hit}
use Rattle.laws.proofs.Xor.{xor_bytes-comm, xor_bytes-assoc, xor_bytes-length, xor_bytes-zero, xor_bytes-cancel}
use Rattle.theory.specs.Encode.{Key, same_key, among, Distinct, sum_over, total, count, Table, Placement}
use Rattle.theory.specs.Session.{Record, Session, opened, keys_of, keys_where, unknowns_of, listed, unknown, handed_over, count_of, pure, ready, the_unknown, has_empty_cell, new_record, take_out, with_count, set_count, next, peel_damaged, peel_pure, count_damaged, count_step}
use Rattle.theory.specs.HandOver.{Switch, Call, calls}
use Rattle.theory.specs.Proper.{CountsPositive}
use Rattle.theory.specs.NoOther.{IsTable, HandedSized, or_zero, stated_in}
use Rattle.theory.proofs.Flow.{same_refl, same-eq, same-flip, among_cases, among_none, without, without-self}
use Rattle.theory.proofs.Sums.{sum-append, sum-values, xor-sized, total-split}
use Rattle.theory.proofs.Records.{keys-take, keys-told, packets-take, flows-told, where-listed, none-known, listed-take, handed-take, handed-peel, handed-count, take-distinct, count-distinct}
use Rattle.theory.proofs.Steps.{peel-next, count_next, count-positive, ready-names}
use Rattle.theory.proofs.HandOver.{Accepts, calls-keep}
use Rattle.theory.proofs.Proper.{positive-take, positive-set}

-- ---- the counts that a list states
-- a flow just listed states none
count-appended : (rs : List Record) (flag : Bool) (x k : Key) → count_of (rs ++ (new_record flag x ∷ [])) k ≡ count_of rs k
unfolding count_of
count-appended [] flag x k = elim (split (same_key k x)) [ inl p ↦ rw p | inr p ↦ rw p ]
count-appended (r ∷ rs) flag x k = rw (count-appended rs flag x k)

-- a count made known is stated, and no other changes
count_set : (x : Key) (v : ℕ) (rs : List Record) → among x (keys_of rs) ≡ true → count_of (with_count x v rs) x ≡ some v
unfolding count_of with_count keys_of
count_set x v [] m = among_none x m
count_set x v (r ∷ rs) m = elim (split (same_key r.key x)) [
  | inl p ↦ rw (p, same-eq r.key x p, same_refl x)
  | inr p ↦ rw (p, same-flip r.key x p) (count_set x v rs (elim (among_cases x r.key (keys_of rs) m) [
    | inl e ↦ clash (rw e (same_refl r.key)) p
    | inr h ↦ h
  ]))
]

count-others : (x : Key) (v : ℕ) (k : Key) → same_key k x ≡ false → (rs : List Record) → count_of (with_count x v rs) k ≡ count_of rs k
unfolding count_of with_count
count-others x v k d [] = refl
count-others x v k d (r ∷ rs) = elim (split (same_key r.key x)) [
  | inl p ↦ rw (p, same-eq r.key x p, d) (count-others x v k d rs)
  | inr p ↦ rw (p, count-others x v k d rs)
]

-- an unknown flow's is not stated
unknown-none : (rs : List Record) → Distinct (keys_of rs) → (k : Key) → among k (unknowns_of rs) ≡ true → count_of rs k ≡ none
unfolding count_of keys_of keys_where Distinct
unknown-none [] d k m = refl
unknown-none (r ∷ rs) d k m = elim (split (same_key k r.key)) [
  | inl p ↦ elim (split r.known) [
    | inr q ↦ rw (p, q) (none-known rs k (rw (same-eq k r.key p) d.0))
    | inl q ↦ clash (where-listed (λ t. not t.known) rs k (rw q at m)) (rw (same-eq k r.key p) d.0)
  ]
  | inr p ↦ rw p (unknown-none rs d.1 k (elim (split r.known) [
    | inl q ↦ rw q at m
    | inr q ↦ elim (among_cases k r.key (unknowns_of rs) (rw q at m)) [ inl e ↦ clash (rw e (same_refl r.key)) p | inr h ↦ h ]
  ]))
]

-- every other listed flow's is, and it is not 0
pub known-stated : (rs : List Record) → CountsPositive rs → (k : Key) → among k (keys_of rs) ≡ true → among k (unknowns_of rs) ≡ false
    → (count_of rs k ≡ some (stated_in rs k)) × (1 ≤ stated_in rs k)
unfolding count_of keys_of keys_where CountsPositive stated_in among
known-stated [] p k m u = clash m refl
known-stated (r ∷ rs) p k m u = elim (split r.known) [
  | inl q ↦ elim (split (same_key k r.key)) [
    | inl e ↦ rw (q, e) (refl, p.0 q)
    | inr e ↦ rw (q, e) (known-stated rs p.1 k (rw e at m) (rw q at u))
  ]
  | inr q ↦
      let u' : (same_key k r.key || among k (unknowns_of rs)) ≡ false = rw q at u in
      let e = or-fl (same_key k r.key) (among k (unknowns_of rs)) u' in
      rw (q, e) (known-stated rs p.1 k (rw e at m) (or-fr (same_key k r.key) (among k (unknowns_of rs)) u'))
]

-- ---- what is conserved
abbrev pub xor_of : ℕ → Placement → ℕ → List Key → Key
xor_of key_length has c = sum_over xor_bytes (replicate key_length 0) (λ k. has k c) (λ k. k)

pub record Conserved (n key_length : ℕ) (has : Placement) (t : Table) (s : Session) : Type 0 where
  pub apart : Distinct (keys_of s.list)
  pub positive : CountsPositive s.list
  pub keys-sized : (k : Key) → listed s k ≡ true → length k ≡ key_length
  pub cells-sized : (c : ℕ) → c < n → length (s.cells c).flow_xor ≡ key_length
  pub xors : (c : ℕ) → c < n → (t c).flow_xor ≡ xor_bytes (s.cells c).flow_xor (xor_of key_length has c (keys_of s.list))
  pub flows : (c : ℕ) → c < n → (t c).flow_count ≡ (s.cells c).flow_count + count (λ k. has k c) (keys_of s.list)
  pub left : (c : ℕ) → c < n → (t c).packet_count ≡ (s.cells c).packet_count + total (λ k. has k c) (stated_in s.list) (keys_of s.list)

module _ (n key_length : ℕ) (has : Placement) (t : Table) where
  -- what was just opened
  conserved-opened : IsTable n key_length t → Conserved n key_length has t (opened t)
  unfolding keys_of Distinct CountsPositive sum_over
  conserved-opened i = record {
    apart = tt;
    positive = tt;
    keys-sized = λ k m. among_none k m;
    cells-sized = i.sized;
    xors = λ c h. sym (xor_bytes-comm (t c).flow_xor (replicate key_length 0) ∙ xor_bytes-zero key_length (t c).flow_xor (i.sized c h));
    flows = λ c h. omega arith;
    left = λ c h. omega arith;
  }

  module _ (s : Session) (i : Conserved n key_length has t s) where
    abbrev keys : List Key
    keys = keys_of s.list

    -- ---- a flow that is not listed and has no empty cell is taken out
    module _ (flag : Bool) (x : Key) (long : length x ≡ key_length) (new : listed s x ≡ false) (some-flow : has_empty_cell n has s.cells x ≡ false) where
      abbrev out : Session
      out = take_out has flag x s

      out-xors : (c : ℕ) → c < n → (t c).flow_xor ≡ xor_bytes (out.cells c).flow_xor (xor_of key_length has c (keys_of out.list))
      unfolding take_out
      out-xors c h =
          let a = (s.cells c).flow_xor in
          let b = xor_of key_length has c keys in
          let long-b = xor-sized key_length (λ k. has k c) keys i.keys-sized in
          rw (keys-take has s x flag, sum-append xor_bytes (replicate key_length 0) (λ k. k) xor_bytes-comm xor_bytes-assoc (λ k. has k c) keys x)
          (elim (split (has x c)) [
            | inl p ↦ rw p (i.xors c h ∙ sym (xor_bytes-assoc a x (xor_bytes b x)
                ∙ ap (xor_bytes a) (sym (xor_bytes-assoc x b x) ∙ xor_bytes-cancel key_length x b long long-b)))
            | inr p ↦ rw p (i.xors c h)
          ])

      out-flows : (c : ℕ) → c < n → (t c).flow_count ≡ (out.cells c).flow_count + count (λ k. has k c) (keys_of out.list)
      unfolding take_out has_empty_cell
      out-flows c h =
          rw (keys-take has s x flag, sum-append ◌+◌ 0 (λ k. 1) add_comm add_assoc (λ k. has k c) keys x) (elim (split (has x c)) [
            | inl p ↦
                let some : 1 ≤ (s.cells c).flow_count = positive_of (s.cells c).flow_count
                (rw p at (any_none n (λ j. has x j && eqb (s.cells j).flow_count 0) some-flow c h)) in
                rw p (omega (arith, i.flows c h))
            | inr p ↦ rw p (i.flows c h)
          ])

      same-stated : stated_in out.list ≡ stated_in s.list
      unfolding take_out stated_in
      same-stated = fun_ext (λ k. ap or_zero (count-appended s.list flag x k))

      none-stated : stated_in s.list x ≡ 0
      unfolding stated_in
      none-stated = ap or_zero (none-known s.list x new)

      out-left : (c : ℕ) → c < n → (t c).packet_count ≡ (out.cells c).packet_count + total (λ k. has k c) (stated_in out.list) (keys_of out.list)
      out-left c h =
          rw (
            keys-take has s x flag,
            same-stated,
            packets-take has s x flag c,
            sum-append ◌+◌ 0 (stated_in s.list) add_comm add_assoc (λ k. has k c) keys x,
          ) (elim (split (has x c)) [
            | inl p ↦ rw p (omega (arith, i.left c h, none-stated))
            | inr p ↦ rw p (i.left c h)
          ])

      out-sized : (c : ℕ) → c < n → length (out.cells c).flow_xor ≡ key_length
      unfolding take_out
      out-sized c h = elim (split (has x c)) [
        | inl p ↦ rw p (xor_bytes-length (s.cells c).flow_xor x key_length (i.cells-sized c h) long)
        | inr p ↦ rw p (i.cells-sized c h)
      ]

      conserved-take : Conserved n key_length has t out
      conserved-take = record {
        apart = take-distinct has flag x s i.apart new;
        positive = positive-take has flag x s i.positive;
        keys-sized = λ k m. elim (or-e (listed s k) (same_key k x) (sym (listed-take has s x flag k) ∙ m)) [
          | inl l ↦ i.keys-sized k l
          | inr e ↦ ap length (same-eq k x e) ∙ long
        ];
        cells-sized = out-sized;
        xors = out-xors;
        flows = out-flows;
        left = out-left;
      }

    -- ---- a count that no cell of the flow is short of becomes known
    module _ (x : Key) (v : ℕ) (u : unknown s x ≡ true) (sound : count_damaged n has s x v ≡ false) where
      abbrev told : Session
      told = set_count has x v s

      x-listed : listed s x ≡ true
      x-listed = where-listed (λ r. not r.known) s.list x u

      -- the count is stated of x, where none was, and of the others what was
      stated-x : (stated_in told.list x ≡ v) × (stated_in s.list x ≡ 0)
      unfolding set_count stated_in
      stated-x = (ap or_zero (count_set x v s.list x-listed), ap or_zero (unknown-none s.list i.apart x u))

      stated-other : (k : Key) → same_key k x ≡ false → stated_in told.list k ≡ stated_in s.list k
      unfolding set_count stated_in
      stated-other k d = ap or_zero (count-others x v k d s.list)

      enough : (c : ℕ) → c < n → has x c ≡ true → v ≤ (s.cells c).packet_count
      unfolding count_damaged
      enough c h p = ltb-false (s.cells c).packet_count v
          (rw p at (any_none n (λ j. has x j && ltb (s.cells j).packet_count v) (or-fr (eqb v 0) _ sound) c h))

      -- the sum of the counts stated in a cell of x grows by the count
      more-stated : (P : Key → Bool) → P x ≡ true → total P (stated_in told.list) keys ≡ v + total P (stated_in s.list) keys
      more-stated P p =
          let rest = sum-values ◌+◌ 0 (stated_in told.list) (stated_in s.list) (without x P) keys
          (λ k m q. stated-other k (elim (split (same_key k x)) [ inl e ↦ clash (rw (same-eq k x e) at q) (without-self x P) | inr e ↦ e ])) in
          omega (
            arith,
            total-split (stated_in told.list) P x keys i.apart x-listed p,
            total-split (stated_in s.list) P x keys i.apart x-listed p,
            rest,
            stated-x.0,
            stated-x.1,
          )

      same-elsewhere : (P : Key → Bool) → P x ≡ false → total P (stated_in told.list) keys ≡ total P (stated_in s.list) keys
      same-elsewhere P p = sum-values ◌+◌ 0 (stated_in told.list) (stated_in s.list) P keys
          (λ k m q. stated-other k (elim (split (same_key k x)) [ inl e ↦ clash q (rw (same-eq k x e) p) | inr e ↦ e ]))

      told-left : (c : ℕ) → c < n → (t c).packet_count ≡ (told.cells c).packet_count + total (λ k. has k c) (stated_in told.list) keys
      told-left c h = elim (split (has x c)) [
        | inl p ↦ omega (arith, i.left c h, enough c h p, more-stated (λ k. has k c) p, less p)
        | inr p ↦ omega (arith, i.left c h, same-elsewhere (λ k. has k c) p, kept p)
      ]
        where
          less : has x c ≡ true → (told.cells c).packet_count ≡ (s.cells c).packet_count - v
          less p = unfold set_count in rw p

          kept : has x c ≡ false → (told.cells c).packet_count ≡ (s.cells c).packet_count
          kept p = unfold set_count in rw p

      conserved-count : Conserved n key_length has t told
      conserved-count =
          let same = keys-told has s x v in
          record {
            apart = count-distinct has x v s i.apart;
            positive = positive-set has x v (count-positive n has s x v sound) s i.positive;
            keys-sized = λ k m. i.keys-sized k (rw same at m);
            cells-sized = λ c h. ap length (flows-told has s x v c).0 ∙ i.cells-sized c h;
            xors = λ c h. rw (same, (flows-told has s x v c).0) (i.xors c h);
            flows = λ c h. rw (same, (flows-told has s x v c).1) (i.flows c h);
            left = λ c h. rw same (told-left c h);
          }

-- ---- every step and every accepted hand-over conserves
module _ (w : Switch) (key_length : ℕ) (t : Table) where
  open w use {has, size as n}

  abbrev Kept : Session → Type 0
  Kept s = HandedSized key_length s → Conserved n key_length has t s

  peel-kept : (s u : Session) → Kept s → peel_pure n has s ≡ next u → Kept u
  peel-kept s u kept e long =
      let p = peel-next n has (pure has s.cells) s u e in
      let c = lowest n (pure has s.cells) in
      let x = (s.cells c).flow_xor in
      let before : HandedSized key_length s = λ k m. long k (rw (p.result, handed-peel has s x) m) in
      let i = kept before in
      rw p.result (conserved-take n key_length has t s i false x (i.cells-sized c (lowest-lt n (pure has s.cells) p.marked))
      (unfold peel_damaged in or-fl (listed s x) (has_empty_cell n has s.cells x) p.sound)
      (unfold peel_damaged in or-fr (listed s x) (has_empty_cell n has s.cells x) p.sound))

  count_kept : (s u : Session) → Kept s → count_step n has s ≡ next u → Kept u
  count_kept s u kept e long =
      let p = count_next n has s u e in
      let c = lowest n (ready has s) in
      let x = the_unknown has s.list c in
      let v = (s.cells c).packet_count in
      let before : HandedSized key_length s = λ k m. long k (rw (p.result, handed-count has s x v) m) in
      rw p.result (conserved-count n key_length has t s (kept before) x v
      (ready-names n has s c (lowest-hit n (ready has s) p.is-ready)) p.sound)

  hand-kept : (x : Key) (s : Session) → Accepts w x s → Kept s → Kept (take_out has true x s)
  hand-kept x s a kept long =
      let before : HandedSized key_length s = λ k m. long k (handed-take has s x k ∙ or_l (handed_over s k) (same_key k x) m) in
      conserved-take n key_length has t s (kept before) true x
      (long x (handed-take has s x x ∙ or_r (handed_over s x) (same_key x x) (same_refl x))) a.unlisted a.no-empty

  -- Theorem: nothing is lost
  pub calls-conserve : IsTable n key_length t → (later : List Call) → HandedSized key_length (calls w later (opened t))
      → Conserved n key_length has t (calls w later (opened t))
  calls-conserve i later = calls-keep w Kept peel-kept count_kept hand-kept later (opened t) (λ _. conserved-opened n key_length has t i)
