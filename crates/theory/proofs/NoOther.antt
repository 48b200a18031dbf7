-- Request m of document 02: where the report says whole, the listed flows with their counts encode to the received cells, and no other collection does.
use mathlib.Core.Path.{◌≡◌, refl, sym, ap, ◌∙◌, subst, fun_ext}
use mathlib.Core.Logic.{inl, inr}
use mathlib.Core.Bool.{true, false}
use mathlib.Core.List.{List}
use mathlib.Core.Option.{Option, some, none}
use Prim.Native.Nat.{ℕ, ◌+◌, ◌≤◌, ◌<◌}
use native.Mathlib.Decide.{dec_lt}
use native.Mathlib.Omega.{arith}
use lib.ListN.{replicate}
use Rattle.laws.specs.Xor.{xor_bytes}
use Rattle.laws.proofs.Bools.{split, clash, iff}
use Rattle.laws.proofs.Upto.{any_some}
use Rattle.laws.proofs.Xor.{xor_bytes-zero}
use Rattle.laws.proofs.Zeros.{zero_is}
use Rattle.theory.specs.Encode.{Key, among, Cell, Table, Placement, empty_table, encode_cell, encode, FlowSet, outside}
use Rattle.theory.specs.Session.{Record, Session, opened, keys_of, listed, counted, count_of}
use Rattle.theory.specs.HandOver.{Switch, Call, calls, settle_at}
use Rattle.theory.specs.Report.{whole, report}
use Rattle.theory.specs.Invariant.{Placed, Counted, received, Holds}
use Rattle.theory.specs.Runs.{Stands}
use Rattle.theory.specs.Demands.{HandedCounted}
use Rattle.theory.specs.NoOther.{IsTable, Since, EncodesTo, NoOtherWhere, stated_in, ListedEncodes}
use Rattle.theory.proofs.Outside.{outside-not}
use Rattle.theory.proofs.Sums.{sum-none, xor-sized}
use Rattle.theory.proofs.Records.{where-listed, none-known, counts-said}
use Rattle.theory.proofs.Single.{zero-listed}
use Rattle.theory.proofs.Demands.{stands-received, stands-calls, stands-holds, stands-settled, counts_alone}
use Rattle.theory.proofs.Whole.{whole-known, whole-flows, whole-xors, whole-packets, whole-rests}
use Rattle.theory.proofs.Conserved.{Conserved, xor_of, known-stated, calls-conserve}

cell-path : {a b : Cell} → a.flow_xor ≡ b.flow_xor → a.flow_count ≡ b.flow_count → a.packet_count ≡ b.packet_count → a ≡ b
cell-path p q r = λ i. record { flow_xor = p i; flow_count = q i; packet_count = r i }

-- a stated count is that of a listed flow
stated-listed : (rs : List Record) (k : Key) (n : ℕ) → count_of rs k ≡ some n → among k (keys_of rs) ≡ true
stated-listed rs k n e = elim (split (among k (keys_of rs))) [
  | inl m ↦ m
  | inr m ↦ absurd (let z : ◌≡◌ {A = Option ℕ} (some n) none = sym e ∙ none-known rs k m in let q : ◌≡◌ {A = ℕ} 0 1 = cc in omega arith)
]

-- ---- the table of any flows
module _ (n key_length : ℕ) (has : Placement) (placed : Placed n has) (F : List Key) (packets : Key → ℕ) where
  -- past its cells no flow has one
  past-empty : (c : ℕ) → n ≤ c → encode key_length has F packets c ≡ empty_table key_length c
  unfolding encode encode_cell empty_table
  past-empty c h =
      let none : (k : Key) → among k F ≡ true → has k c ≡ false = λ k m. elim (split (has k c)) [
        | inl p ↦ absurd (omega (arith, placed.within k c p))
        | inr p ↦ p
      ] in
      cell-path (sum-none xor_bytes (replicate key_length 0) (λ k. k) (λ k. has k c) F none) (sum-none ◌+◌ 0 (λ k. 1) (λ k. has k c) F none)
      (sum-none ◌+◌ 0 packets (λ k. has k c) F none)

  -- it is one, and they encode to it
  pub encoded-table : FlowSet key_length F packets → IsTable n key_length (encode key_length has F packets)
  unfolding encode encode_cell
  encoded-table fs = record { sized = λ c h. xor-sized key_length (λ k. has k c) F fs.sized; past = past-empty }

  pub encodes-own : FlowSet key_length F packets → EncodesTo n key_length has (encode key_length has F packets) F packets
  encodes-own fs = record { flowset = fs; cells = λ c h. refl }

module _ (key_length : ℕ) (w : Switch) (t : Table) (later : List Call) (since : Since key_length w t later) where
  open w use {has, size as n}

  abbrev s : Session
  s = calls w later (opened t)

  -- ---- a collection that encodes to the cells, as the flows that this switch counted
  abbrev counted_as : (F : List Key) (packets : Key → ℕ) → EncodesTo n key_length has t F packets → Counted w
  counted_as F packets e = record { placed = since.placed; key_length = key_length; flows = F; packets = packets; flowset = e.flowset }

  received_is : (F : List Key) (packets : Key → ℕ) (e : EncodesTo n key_length has t F packets) → received w (counted_as F packets e) ≡ opened t
  received_is F packets e = ap opened (fun_ext (λ c. elim (dec_lt c n) [
    | yes h ↦ e.cells c h
    | no h ↦ past-empty n key_length has since.placed F packets c (omega arith) ∙ sym (since.table.past c (omega arith))
  ]))

  module _ (z : (report n s).state ≡ whole) where
    abbrev kept : Conserved n key_length has t s
    kept = calls-conserve w key_length t since.table later since.handed

    stated : (k : Key) → listed s k ≡ true → (count_of s.list k ≡ some (stated_in s.list k)) × (1 ≤ stated_in s.list k)
    stated k m = known-stated s.list kept.positive k m (whole-known n s z k)

    listed-cell : (c : ℕ) → c < n → encode key_length has (keys_of s.list) (stated_in s.list) c ≡ t c
    unfolding encode encode_cell
    listed-cell c h =
        let b = xor_of key_length has c (keys_of s.list) in
        let zeros = zero_is (s.cells c).flow_xor (whole-xors n s z c h) ∙ ap (λ m. replicate m 0) (kept.cells-sized c h) in
        cell-path
        (sym (kept.xors c h ∙ ap (λ a. xor_bytes a b) zeros ∙ xor_bytes-zero key_length b (xor-sized key_length (λ k. has k c) (keys_of s.list) kept.keys-sized)))
        (omega (arith, kept.flows c h, whole-flows n s z c h))
        (omega (arith, kept.left c h, whole-packets n s z c h))

    -- Theorem: the listed flows, with the counts stated, encode to the received cells
    pub whole-encodes : ListedEncodes n key_length has t s
    whole-encodes = record {
      flowset = record { apart = kept.apart; sized = kept.keys-sized; some-packet = λ k m. (stated k m).1 };
      cells = listed-cell;
    }

    -- ---- so these are calls on a clean flowset, whose settling by itself counts the same flows
    abbrev ours : Counted w
    ours = counted_as (keys_of s.list) (stated_in s.list) whole-encodes

    same_start : received w ours ≡ opened t
    same_start = received_is (keys_of s.list) (stated_in s.list) whole-encodes

    -- what was handed over is listed
    handed-listed : HandedCounted (keys_of s.list) (calls w later (received w ours))
    handed-listed = subst (λ u. HandedCounted (keys_of s.list) (calls w later u)) (sym same_start) (where-listed (λ r. r.handed) s.list)

    stands : Stands w ours s
    stands = subst (λ u. Stands w ours (calls w later u)) same_start
        (stands-calls w ours later (received w ours) (stands-received w ours) handed-listed)

    abbrev alone : Session
    alone = (settle_at w (opened t)).state

    counts_same : (k : Key) → count_of s.list k ≡ count_of alone.list k
    counts_same k = counts_alone w ours s stands (whole-rests n s z has) k ∙ ap (λ u. count_of (settle_at w u).state.list k) same_start

    alone-listed : (k : Key) → listed s k ≡ true → listed alone k ≡ true
    alone-listed k m = stated-listed alone.list k (stated_in s.list k) (sym (counts_same k) ∙ (stated k m).0)

    -- what a settling by itself leaves of any collection that encodes to the cells
    module _ (F : List Key) (packets : Key → ℕ) (e : EncodesTo n key_length has t F packets) where
      alone-holds : Holds w (counted_as F packets e) alone
      alone-holds =
          let f = counted_as F packets e in
          subst (λ u. Holds w f (settle_at w u).state) (received_is F packets e)
          (stands-holds w f _ (stands-settled w f (received w f) (stands-received w f)))

    alone-zero : (c : ℕ) → (alone.cells c).flow_count ≡ 0
    alone-zero c = (alone-holds (keys_of s.list) (stated_in s.list) whole-encodes).flows c
        ∙ sum-none ◌+◌ 0 (λ k. 1) (outside has (listed alone) c) (keys_of s.list) (λ k m. elim (split (outside has (listed alone) c k)) [
          | inl p ↦ clash (alone-listed k m) (outside-not has (listed alone) c k p)
          | inr p ↦ p
        ])

    module _ (F : List Key) (packets : Key → ℕ) (e : EncodesTo n key_length has t F packets) where
      abbrev holds : Holds w (counted_as F packets e) alone
      holds = alone-holds F packets e

      all_listed : (k : Key) → among k F ≡ true → listed alone k ≡ true
      all_listed k m =
          let c = any_some n (has k) (since.placed.somewhere k) in
          zero-listed w (counted_as F packets e) alone holds c.0 (alone-zero c.0) k m c.2

      same-flows : (k : Key) → among k F ≡ listed s k
      same-flows k = iff (among k F) (listed s k)
          (λ m. (alone-holds (keys_of s.list) (stated_in s.list) whole-encodes).inside k (all_listed k m))
          (λ m. holds.inside k (alone-listed k m))

      same-counts : (k : Key) → among k F ≡ true → count_of s.list k ≡ some (packets k)
      same-counts k m =
          let known = (stated k (sym (same-flows k) ∙ m)).0 in
          let said = counts-said packets alone holds.apart holds.right k in
          elim (split (counted alone k)) [
            | inl c ↦ counts_same k ∙ said ∙ rw c
            | inr c ↦ absurd (let q : ◌≡◌ {A = Option ℕ} none (some (stated_in s.list k)) = sym (said ∙ rw c) ∙ sym (counts_same k) ∙ known in
                let r : ◌≡◌ {A = ℕ} 0 1 = cc in omega arith)
          ]

-- Theorem (02 m): "if a session of any readable image reports whole .., any collection of distinct flows with positive counts that encodes to the
-- received cells is exactly the listed one"
pub whole-no-other : NoOtherWhere report whole
whole-no-other key_length w t later since z F packets e = record {
  listed-once = (kept key_length w t later since z).apart;
  same-flows = same-flows key_length w t later since z F packets e;
  same-counts = same-counts key_length w t later since z F packets e;
}
