-- What one packet more does to the table and to the flows; the flows of the packets are distinct and have packets.
use mathlib.Core.Path.{◌≡◌, refl, sym, ◌∙◌}
use mathlib.Core.Logic.{inl, inr}
use mathlib.Core.Bool.{true, false, cond, ◌||◌}
use mathlib.Core.List.{List, [], ◌∷◌, ◌++◌}
use Prim.Native.Nat.{ℕ, ◌+◌, ◌≤◌}
use native.Mathlib.Omega.{arith}
use lib.ListN.{length}
use Rattle.laws.proofs.Bools.{split, or-e, or-f, or-fl, or-fr}
use Rattle.theory.specs.Encode.{Key, same_key, among, Distinct, Table, Placement, take_packet, Taken, take_packets, add_flow, flows_after, flows_of, new_flows_of, packets_of, EachTaken, HasLength, Sized, FlowSet}
use Rattle.theory.proofs.Flow.{same-eq, among_none, among-append, distinct_append}
use Rattle.laws.proofs.Lists.{append-ind}

-- ---- one packet more
pub take_packets-append : (has : Placement) (ps : List Taken) (p : Taken) (t : Table)
    → take_packets has (ps ++ (p ∷ [])) t ≡ take_packet has p.new p.key (take_packets has ps t)
unfolding take_packets
take_packets-append has [] p t = refl
take_packets-append has (q ∷ ps) p t = take_packets-append has ps p (take_packet has q.new q.key t)

pub flows_after-append : (F : List Key) (ps : List Taken) (p : Taken) → flows_after F (ps ++ (p ∷ [])) ≡ add_flow (flows_after F ps) p.key
unfolding flows_after
flows_after-append F [] p = refl
flows_after-append F (q ∷ ps) p = flows_after-append (add_flow F q.key) ps p

pub new_flows_of-append : (ps : List Taken) (p : Taken)
    → new_flows_of (ps ++ (p ∷ [])) ≡ cond p.new (new_flows_of ps ++ (p.key ∷ [])) (new_flows_of ps)
unfolding new_flows_of
new_flows_of-append [] p = elim (split p.new) [ inl n ↦ rw n | inr n ↦ rw n ]
new_flows_of-append (q ∷ ps) p = rw (new_flows_of-append ps p) (elim (split p.new) [
  | inl n ↦ rw n (elim (split q.new) [ inl m ↦ rw m | inr m ↦ rw m ])
  | inr n ↦ rw n
])

pub packets_of-append : (ps : List Taken) (p : Taken) (x : Key) → packets_of (ps ++ (p ∷ [])) x ≡ packets_of ps x + cond (same_key x p.key) 1 0
unfolding packets_of
packets_of-append [] p x = omega arith
packets_of-append (q ∷ ps) p x = rw (packets_of-append ps p x) (omega arith)

module _ (Fits : List Key → Taken → Type 0) where
  pub each_append : (F : List Key) (ps : List Taken) (p : Taken)
      → EachTaken Fits F ps → Fits (flows_after F ps) p → EachTaken Fits F (ps ++ (p ∷ []))
  unfolding EachTaken flows_after
  each_append F [] p e f = (f, tt)
  each_append F (q ∷ ps) p e f = (e.0, each_append (add_flow F q.key) ps p e.1 f)

  pub each-before : (F : List Key) (ps : List Taken) (p : Taken) → EachTaken Fits F (ps ++ (p ∷ [])) → EachTaken Fits F ps
  unfolding EachTaken
  each-before F [] p e = tt
  each-before F (q ∷ ps) p e = (e.0, each-before (add_flow F q.key) ps p e.1)

  pub each_last : (F : List Key) (ps : List Taken) (p : Taken) → EachTaken Fits F (ps ++ (p ∷ [])) → Fits (flows_after F ps) p
  unfolding EachTaken flows_after
  each_last F [] p e = e.0
  each_last F (q ∷ ps) p e = each_last (add_flow F q.key) ps p e.1

-- ---- the flows of the packets
pub among-add : (k : Key) (F : List Key) (x : Key) → among k (add_flow F x) ≡ (among k F || same_key k x)
unfolding add_flow
among-add k F x = elim (split (among x F)) [
  | inr n ↦ rw n (among-append k F x)
  | inl m ↦ rw m (elim (split (same_key k x)) [
    | inl s ↦ rw (same-eq k x s, m)
    | inr s ↦ rw s (sym (or-f (among k F)))
  ])
]

pub distinct-add : (F : List Key) (x : Key) → Distinct F → Distinct (add_flow F x)
unfolding add_flow
distinct-add F x d = elim (split (among x F)) [ inl m ↦ rw m d | inr n ↦ rw n (distinct_append F x d n) ]

pub flows-distinct : (ps : List Taken) → Distinct (flows_of ps)
flows-distinct = append-ind (λ ps. Distinct (flows_of ps)) (unfold flows_after Distinct in tt)
    (λ ps p d. rw (flows_after-append [] ps p) (distinct-add (flows_of ps) p.key d))

-- a key is among the flows after one packet more: it was, or is the packet's
pub among-more : (k : Key) (ps : List Taken) (p : Taken) → among k (flows_of (ps ++ (p ∷ []))) ≡ (among k (flows_of ps) || same_key k p.key)
among-more k ps p = rw (flows_after-append [] ps p) (among-add k (flows_of ps) p.key)

-- a flow of the packets has a packet
pub flows-packets : (ps : List Taken) (k : Key) → among k (flows_of ps) ≡ true → 1 ≤ packets_of ps k
flows-packets = append-ind (λ ps. (k : Key) → among k (flows_of ps) ≡ true → 1 ≤ packets_of ps k)
    (λ k m. among_none k (unfold flows_after in m))
    (λ ps p ih k m. rw (packets_of-append ps p k) (
    elim (or-e (among k (flows_of ps)) (same_key k p.key) (sym (among-more k ps p) ∙ m)) [
      | inl a ↦ omega (arith, ih k a)
      | inr s ↦ rw s (omega arith)
    ]))

-- any other key has none
pub others-packets : (ps : List Taken) (k : Key) → among k (flows_of ps) ≡ false → packets_of ps k ≡ 0
others-packets = append-ind (λ ps. (k : Key) → among k (flows_of ps) ≡ false → packets_of ps k ≡ 0)
    (λ k m. unfold packets_of in refl)
    (λ ps p ih k m.
    let n = sym (among-more k ps p) ∙ m in
    rw (packets_of-append ps p k, or-fr (among k (flows_of ps)) (same_key k p.key) n)
    (omega (arith, ih k (or-fl (among k (flows_of ps)) (same_key k p.key) n))))

pub flows-sized : (key_length : ℕ) (ps : List Taken) → Sized key_length ps → (k : Key) → among k (flows_of ps) ≡ true → length k ≡ key_length
flows-sized key_length = append-ind (λ ps. Sized key_length ps → (k : Key) → among k (flows_of ps) ≡ true → length k ≡ key_length)
    (λ z k m. among_none k (unfold flows_after in m))
    (λ ps p ih z k m. elim (or-e (among k (flows_of ps)) (same_key k p.key) (sym (among-more k ps p) ∙ m)) [
      | inl a ↦ ih (each-before (HasLength key_length) [] ps p z) k a
      | inr s ↦ rw (same-eq k p.key s) (each_last (HasLength key_length) [] ps p z)
    ])

-- the flows of packets whose keys have the length, each with its packets, are a flowset
pub flows-set : (key_length : ℕ) (ps : List Taken) → Sized key_length ps → FlowSet key_length (flows_of ps) (packets_of ps)
flows-set key_length ps z = record { apart = flows-distinct ps; sized = flows-sized key_length ps z; some-packet = flows-packets ps }
