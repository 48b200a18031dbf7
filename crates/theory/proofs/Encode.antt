-- The cells after any packets are those of the flows taken; where the filter was never mistaken, they encode exactly the flows.
use mathlib.Core.Path.{◌≡◌, refl, sym, ap, ◌∙◌, fun_ext}
use mathlib.Core.Logic.{inl, inr}
use mathlib.Core.Bool.{Bool, true, false, cond}
use mathlib.Core.List.{List, [], ◌∷◌, ◌++◌}
use Prim.Native.Nat.{ℕ, ◌+◌}
use native.Mathlib.Nat.{add_assoc, add_comm}
use native.Mathlib.Omega.{arith}
use lib.ListN.{replicate}
use Rattle.laws.specs.Xor.{xor_bytes}
use Rattle.laws.proofs.Bools.{split, clash}
use Rattle.laws.proofs.Xor.{xor_bytes-comm, xor_bytes-assoc}
use Rattle.theory.specs.Encode.{Key, same_key, among, Distinct, sum_over, total, Cell, Table, Placement, empty_table, take_in_cell, take_packet, Taken, take_packets, add_flow, flows_after, flows_of, new_flows_of, packets_of, NewIsNew, OldIsOld, NeverMistaken, NeverRenewed, encode_cell, encode}
use Rattle.theory.proofs.Flow.{same_refl, same-eq, among-other, without, without-self}
use Rattle.theory.proofs.Sums.{sum-append, sum-values, total-split}
use Rattle.theory.proofs.Packets.{take_packets-append, flows_after-append, new_flows_of-append, packets_of-append, each-before, each_last}
use Rattle.theory.proofs.Packets.{flows-distinct, others-packets}
use Rattle.laws.proofs.Lists.{append-ind}

pub cell-path : (a b : Cell) → a.flow_xor ≡ b.flow_xor → a.flow_count ≡ b.flow_count → a.packet_count ≡ b.packet_count → a ≡ b
cell-path a b p q r = λ i. record { flow_xor = p i; flow_count = q i; packet_count = r i }

-- ---- the packets of one flow grow by one
module _ (w v : Key → ℕ) (x : Key) (one_more : (k : Key) → v k ≡ w k + cond (same_key k x) 1 0) (P : Key → Bool) (F : List Key) where
  total-elsewhere : (Q : Key → Bool) → ((k : Key) → among k F ≡ true → Q k ≡ true → same_key k x ≡ false) → total Q v F ≡ total Q w F
  total-elsewhere Q other = sum-values ◌+◌ 0 v w Q F (λ k m q. one_more k ∙ rw (other k m q) (omega arith))

  total-old : Distinct F → among x F ≡ true → total P v F ≡ total P w F + cond (P x) 1 0
  total-old d m = elim (split (P x)) [
    | inl p ↦ rw (
      p,
      total-split v P x F d m p,
      total-split w P x F d m p,
      total-elsewhere (without x P) (λ k n q. elim (split (same_key k x)) [ inl s ↦ clash (rw (same-eq k x s) at q) (without-self x P) | inr s ↦ s ]),
      one_more x,
      same_refl x,
    ) (omega arith)
    | inr p ↦ rw (p, total-elsewhere P (λ k n q. elim (split (same_key k x)) [ inl s ↦ clash (rw (same-eq k x s) at q) p | inr s ↦ s ])) (omega arith)
  ]

  total-new : among x F ≡ false → w x ≡ 0 → total P v (F ++ (x ∷ [])) ≡ total P w F + cond (P x) 1 0
  total-new n z = rw (sum-append ◌+◌ 0 v add_comm add_assoc P F x, total-elsewhere P (λ k m q. among-other k x F m n), one_more x, same_refl x, z)
      (elim (split (P x)) [ inl p ↦ rw p | inr p ↦ rw p (omega arith) ])

  total-more : Distinct F → (among x F ≡ false → w x ≡ 0) → total P v (add_flow F x) ≡ total P w F + cond (P x) 1 0
  unfolding add_flow
  total-more d z = elim (split (among x F)) [ inl m ↦ rw m (total-old d m) | inr n ↦ rw n (total-new n (z n)) ]

-- ---- the sum over the flows called new
new-sum : {M : Type 0} (op : M → M → M) (e : M) (w : Key → M) → ((a b : M) → op a b ≡ op b a) → ((a b c : M) → op (op a b) c ≡ op a (op b c))
    → (P : Key → Bool) (ps : List Taken) (p : Taken)
    → let before = sum_over op e P w (new_flows_of ps) in
    sum_over op e P w (new_flows_of (ps ++ (p ∷ []))) ≡ cond (P p.key) (cond p.new (op before (w p.key)) before) before
new-sum op e w comm assoc P ps p = rw (new_flows_of-append ps p) (elim (split p.new) [
  | inl n ↦ rw n (sum-append op e w comm assoc P (new_flows_of ps) p.key)
  | inr n ↦ rw n (elim (split (P p.key)) [ inl h ↦ rw h | inr h ↦ rw h ])
])

-- ---- the cells
module _ (key_length : ℕ) (has : Placement) where
  abbrev after : List Taken → Table
  after ps = encode_cell key_length has (new_flows_of ps) (flows_of ps) (packets_of ps)

  -- cell c after one packet more, field by field
  module _ (ps : List Taken) (p : Taken) (c : ℕ) where
    xor-more : (after (ps ++ (p ∷ [])) c).flow_xor
        ≡ cond (has p.key c) (cond p.new (xor_bytes (after ps c).flow_xor p.key) (after ps c).flow_xor) (after ps c).flow_xor
    unfolding encode_cell
    xor-more = new-sum xor_bytes (replicate key_length 0) (λ k. k) xor_bytes-comm xor_bytes-assoc (λ k. has k c) ps p

    flows-more : (after (ps ++ (p ∷ [])) c).flow_count
        ≡ cond (has p.key c) (cond p.new ((after ps c).flow_count + 1) (after ps c).flow_count) (after ps c).flow_count
    unfolding encode_cell
    flows-more = new-sum ◌+◌ 0 (λ k. 1) add_comm add_assoc (λ k. has k c) ps p

    packets-more : (after (ps ++ (p ∷ [])) c).packet_count ≡ (after ps c).packet_count + cond (has p.key c) 1 0
    unfolding encode_cell
    packets-more = rw (flows_after-append [] ps p)
        (total-more (packets_of ps) (packets_of (ps ++ (p ∷ []))) p.key (packets_of-append ps p) (λ k. has k c) (flows_of ps)
        (flows-distinct ps) (others-packets ps p.key))

    take-one : take_packet has p.new p.key (after ps) c ≡ after (ps ++ (p ∷ [])) c
    unfolding take_packet take_in_cell
    take-one =
        let next = after (ps ++ (p ∷ [])) c in
        elim (split (has p.key c)) [
          | inl h ↦ rw h (cell-path _ next (sym (rw h at xor-more)) (sym (rw h at flows-more)) (sym (rw h at packets-more)))
          | inr h ↦ rw h (cell-path _ next (sym (rw h at xor-more)) (sym (rw h at flows-more)) (omega (arith, rw h at packets-more)))
        ]

  -- Theorem: the cells after any packets
  pub taken-encodes : (ps : List Taken) (c : ℕ)
      → take_packets has ps (empty_table key_length) c ≡ encode_cell key_length has (new_flows_of ps) (flows_of ps) (packets_of ps) c
  taken-encodes = append-ind (λ ps. (c : ℕ) → take_packets has ps (empty_table key_length) c ≡ after ps c)
      (λ c. unfold take_packets empty_table encode_cell new_flows_of flows_after sum_over in refl)
      (λ ps p ih c. rw (take_packets-append has ps p (empty_table key_length), fun_ext ih) (take-one ps p c))

-- the flows called new are the flows, where none was mistaken and none called new again
pub all_new : (ps : List Taken) → NeverMistaken ps → NeverRenewed ps → new_flows_of ps ≡ flows_of ps
all_new = append-ind (λ ps. NeverMistaken ps → NeverRenewed ps → new_flows_of ps ≡ flows_of ps)
    (λ m r. unfold new_flows_of flows_after in refl)
    (λ ps p ih m r. rw (
      new_flows_of-append ps p,
      flows_after-append [] ps p,
      ih (each-before NewIsNew [] ps p m) (each-before OldIsOld [] ps p r),
    ) (
    unfold add_flow in elim (split (among p.key (flows_of ps))) [
      | inl a ↦ rw (a, each_last OldIsOld [] ps p r a)
      | inr a ↦ rw (a, each_last NewIsNew [] ps p m a)
    ]))

-- Theorem: where the filter never took a new flow for an old one, the cells encode exactly the flows
pub clean-encodes : (key_length : ℕ) (has : Placement) (ps : List Taken) → NeverMistaken ps → NeverRenewed ps
    → take_packets has ps (empty_table key_length) ≡ encode key_length has (flows_of ps) (packets_of ps)
unfolding encode
clean-encodes key_length has ps m r = fun_ext (λ c. taken-encodes key_length has ps c
    ∙ ap (λ l. encode_cell key_length has l (flows_of ps) (packets_of ps) c) (all_new ps m r))
