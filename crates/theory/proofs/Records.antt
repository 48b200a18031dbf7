-- The list of records: one record appended, one count made known.
use mathlib.Core.Path.{◌≡◌, refl, sym, ap, ◌∙◌}
use mathlib.Core.Logic.{inl, inr}
use mathlib.Core.Bool.{Bool, true, false, not, cond, ◌&&◌, ◌||◌, or-true}
use mathlib.Core.List.{List, [], ◌∷◌, ◌++◌}
use mathlib.Core.Option.{some, none}
use Prim.Native.Nat.{ℕ, ◌+◌, ◌≤◌, ◌<◌}
use native.Mathlib.Nat.{le_refl}
use native.Mathlib.Omega.{arith}
use lib.ListN.{length, length-append}
use Rattle.laws.proofs.Bools.{split, clash, and-f, or-fl, or-fr}
use Rattle.theory.specs.Encode.{Key, same_key, among, Distinct, Placement}
use Rattle.theory.specs.Session.{Record, Session, keys_of, keys_where, unknowns_of, handed_of, peeled_of, listed, unknown, handed_over, counted, count_of, new_record, take_out, with_count, set_count}
use Rattle.theory.specs.Invariant.{CountsRight}
use Rattle.theory.proofs.Flow.{same_refl, same-eq, among-here, among_there, among_cases, among_none, among-append, distinct_append}

-- ---- the keys
pub keys-append : (rs : List Record) (r : Record) → keys_of (rs ++ (r ∷ [])) ≡ keys_of rs ++ (r.key ∷ [])
unfolding keys_of
keys-append [] r = refl
keys-append (q ∷ rs) r = ap (◌∷◌ q.key) (keys-append rs r)

pub keys-count : (x : Key) (v : ℕ) (rs : List Record) → keys_of (with_count x v rs) ≡ keys_of rs
unfolding keys_of with_count
keys-count x v [] = refl
keys-count x v (r ∷ rs) = elim (split (same_key r.key x)) [ inl p ↦ rw (p, keys-count x v rs) | inr p ↦ rw (p, keys-count x v rs) ]

pub keys_length : (rs : List Record) → length (keys_of rs) ≡ length rs
unfolding keys_of
keys_length [] = refl
keys_length (r ∷ rs) = rw (keys_length rs)

-- each listed flow was handed over or peeled
pub list-parts : (rs : List Record) → length rs ≡ length (handed_of rs) + length (peeled_of rs)
unfolding keys_where
list-parts [] = refl
list-parts (r ∷ rs) = let ih = list-parts rs in elim (split r.handed) [ inl h ↦ rw h (omega arith) | inr h ↦ rw h (omega arith) ]

module _ (test : Record → Bool) where
  pub where-append : (rs : List Record) (r : Record)
      → keys_where test (rs ++ (r ∷ [])) ≡ cond (test r) (keys_where test rs ++ (r.key ∷ [])) (keys_where test rs)
  unfolding keys_where
  where-append [] r = refl
  where-append (q ∷ rs) r = rw (where-append rs r) (elim (split (test q)) [
    | inl p ↦ rw p (elim (split (test r)) [ inl t ↦ rw t | inr t ↦ rw t ])
    | inr p ↦ rw p
  ])

  pub where-listed : (rs : List Record) (k : Key) → among k (keys_where test rs) ≡ true → among k (keys_of rs) ≡ true
  unfolding keys_where keys_of
  where-listed [] k m = m
  where-listed (r ∷ rs) k m = elim (split (test r)) [
    | inr p ↦ among_there k r.key (keys_of rs) (where-listed rs k (rw p at m))
    | inl p ↦ elim (among_cases k r.key (keys_where test rs) (rw p at m)) [
      | inl e ↦ rw e (among-here r.key (keys_of rs))
      | inr h ↦ among_there k r.key (keys_of rs) (where-listed rs k h)
    ]
  ]

  pub where-not : (rs : List Record) (k : Key) → among k (keys_of rs) ≡ false → among k (keys_where test rs) ≡ false
  where-not rs k n = elim (split (among k (keys_where test rs))) [ inl h ↦ clash (where-listed rs k h) n | inr h ↦ h ]

  pub where-distinct : (rs : List Record) → Distinct (keys_of rs) → Distinct (keys_where test rs)
  unfolding keys_where keys_of Distinct
  where-distinct [] d = tt
  where-distinct (r ∷ rs) d = elim (split (test r)) [
    | inr p ↦ rw p (where-distinct rs d.1)
    | inl p ↦ rw p (where-not rs r.key d.0, where-distinct rs d.1)
  ]

  -- a test that looks at neither the count nor whether it is known
  pub where-count : ((r : Record) (v : ℕ) → test (record { key = r.key; count = v; known = true; handed = r.handed }) ≡ test r)
      → (x : Key) (v : ℕ) (rs : List Record) → keys_where test (with_count x v rs) ≡ keys_where test rs
  unfolding keys_where with_count
  where-count same x v [] = refl
  where-count same x v (r ∷ rs) = elim (split (same_key r.key x)) [
    | inl p ↦ rw (p, same r v, where-count same x v rs)
    | inr p ↦ rw (p, where-count same x v rs)
  ]

pub unknowns-count : (x : Key) (v : ℕ) (rs : List Record) (k : Key)
    → among k (unknowns_of (with_count x v rs)) ≡ (among k (unknowns_of rs) && not (same_key k x))
unfolding keys_where with_count among
unknowns-count x v [] k = refl
unknowns-count x v (r ∷ rs) k = elim (split (same_key r.key x)) [
  | inl p ↦ elim (split r.known) [
    | inl q ↦ rw (p, q) (unknowns-count x v rs k)
    | inr q ↦ elim (split (same_key k x)) [
      | inl t ↦ rw (p, q, unknowns-count x v rs k, t) (and-f (among k (unknowns_of rs)) ∙ sym (and-f (same_key k r.key || among k (unknowns_of rs))))
      | inr t ↦ rw (p, q, unknowns-count x v rs k, same-eq r.key x p, t)
    ]
  ]
  | inr p ↦ elim (split r.known) [
    | inl q ↦ rw (p, q) (unknowns-count x v rs k)
    | inr q ↦ elim (split (same_key k r.key)) [
      | inl t ↦ rw (p, q, t, same-eq k r.key t, p)
      | inr t ↦ rw (p, q, unknowns-count x v rs k, t)
    ]
  ]
]

-- a count made known leaves fewer unknown
unknowns-le : (x : Key) (v : ℕ) (rs : List Record) → length (unknowns_of (with_count x v rs)) ≤ length (unknowns_of rs)
unfolding keys_where with_count
unknowns-le x v [] = le_refl 0
unknowns-le x v (r ∷ rs) = let ih = unknowns-le x v rs in elim (split (same_key r.key x)) [
  | inl p ↦ elim (split r.known) [ inl q ↦ rw (p, q) ih | inr q ↦ rw (p, q) (omega arith) ]
  | inr p ↦ elim (split r.known) [ inl q ↦ rw (p, q) ih | inr q ↦ rw (p, q) (omega arith) ]
]

pub unknowns-fewer : (x : Key) (v : ℕ) (rs : List Record) → among x (unknowns_of rs) ≡ true
    → length (unknowns_of (with_count x v rs)) < length (unknowns_of rs)
unfolding keys_where with_count
unknowns-fewer x v [] m = among_none x m
unknowns-fewer x v (r ∷ rs) m = elim (split r.known) [
  | inl q ↦ (let ih = unknowns-fewer x v rs (rw q at m) in elim (split (same_key r.key x)) [ inl p ↦ rw (p, q) ih | inr p ↦ rw (p, q) ih ])
  | inr q ↦ elim (split (same_key r.key x)) [
    | inl p ↦ (let ih = unknowns-le x v rs in rw (p, q) (omega arith))
    | inr p ↦ (let ih = unknowns-fewer x v rs (elim (among_cases x r.key (unknowns_of rs) (rw q at m)) [
      | inl e ↦ clash (rw e (same_refl r.key)) p
      | inr h ↦ h
    ]) in
        rw (p, q) (omega arith))
  ]
]

-- ---- keys, listed, unknown, counted and handed after each change
module _ (has : Placement) (s : Session) (x : Key) where
  pub keys-take : (flag : Bool) → keys_of (take_out has flag x s).list ≡ keys_of s.list ++ (x ∷ [])
  unfolding take_out
  keys-take flag = keys-append s.list (new_record flag x)

  -- taking out keeps every PacketCount, and a count every FlowXOR and FlowCount
  pub packets-take : (flag : Bool) (c : ℕ) → ((take_out has flag x s).cells c).packet_count ≡ (s.cells c).packet_count
  unfolding take_out
  packets-take flag c = elim (split (has x c)) [ inl p ↦ rw p | inr p ↦ rw p ]

  pub flows-told : (v : ℕ) (c : ℕ)
      → (((set_count has x v s).cells c).flow_xor ≡ (s.cells c).flow_xor) × (((set_count has x v s).cells c).flow_count ≡ (s.cells c).flow_count)
  unfolding set_count
  flows-told v c = elim (split (has x c)) [ inl p ↦ (rw p, rw p) | inr p ↦ (rw p, rw p) ]

  pub keys-told : (v : ℕ) → keys_of (set_count has x v s).list ≡ keys_of s.list
  unfolding set_count
  keys-told v = keys-count x v s.list

  module _ (flag : Bool) where
    pub listed-take : (k : Key) → listed (take_out has flag x s) k ≡ (listed s k || same_key k x)
    listed-take k = rw (keys-take flag) (among-append k (keys_of s.list) x)

    pub unknown-take : (k : Key) → unknown (take_out has flag x s) k ≡ (unknown s k || same_key k x)
    unfolding take_out
    unknown-take k = rw (where-append (λ r. not r.known) s.list (new_record flag x)) (among-append k (unknowns_of s.list) x)

    pub counted-take : listed s x ≡ false → (k : Key) → counted (take_out has flag x s) k ≡ counted s k
    unfolding counted
    counted-take n k = elim (split (same_key k x)) [
      | inl h ↦ rw (listed-take k, unknown-take k, same-eq k x h, n, same_refl x) (rw (or-true (unknown s x)) refl)
      | inr h ↦ rw (listed-take k, unknown-take k, h) (bools (listed s k) (unknown s k))
    ]
      where
        bools : (l u : Bool) → ((l || false) && not (u || false)) ≡ (l && not u)
        bools false u = refl
        bools true false = refl
        bools true true = refl

  pub handed_out : handed_of (take_out has true x s).list ≡ handed_of s.list ++ (x ∷ [])
  unfolding take_out
  handed_out = where-append (λ r. r.handed) s.list (new_record true x)

  pub handed-take : (k : Key) → handed_over (take_out has true x s) k ≡ (handed_over s k || same_key k x)
  handed-take k = rw handed_out (among-append k (handed_of s.list) x)

  pub handed-more : length (handed_of (take_out has true x s).list) ≡ length (handed_of s.list) + 1
  handed-more = rw handed_out (simp length-append)

  pub handed-peel : handed_of (take_out has false x s).list ≡ handed_of s.list
  unfolding take_out
  handed-peel = rw (where-append (λ r. r.handed) s.list (new_record false x))

  pub peeled-hand : peeled_of (take_out has true x s).list ≡ peeled_of s.list
  unfolding take_out
  peeled-hand = rw (where-append (λ r. not r.handed) s.list (new_record true x))

  module _ (v : ℕ) where
    pub listed-count : (k : Key) → listed (set_count has x v s) k ≡ listed s k
    listed-count k = rw (keys-told v)

    pub unknown-count : (k : Key) → unknown (set_count has x v s) k ≡ (unknown s k && not (same_key k x))
    unfolding set_count
    unknown-count k = unknowns-count x v s.list k

    pub handed-count : handed_of (set_count has x v s).list ≡ handed_of s.list
    unfolding set_count
    handed-count = where-count (λ r. r.handed) (λ r u. refl) x v s.list

    pub peeled-count : peeled_of (set_count has x v s).list ≡ peeled_of s.list
    unfolding set_count
    peeled-count = where-count (λ r. not r.handed) (λ r u. refl) x v s.list

    pub counted-count : listed s x ≡ true → (k : Key) → counted (set_count has x v s) k ≡ (counted s k || same_key k x)
    unfolding counted
    counted-count n k = elim (split (same_key k x)) [
      | inl h ↦ rw (listed-count k, unknown-count k, h, same-eq k x h, n) (bools (unknown s x))
      | inr h ↦ rw (listed-count k, unknown-count k, h) (bools2 (listed s k) (unknown s k))
    ]
      where
        bools : (u : Bool) → not (u && false) ≡ (not u || true)
        bools true = refl
        bools false = refl

        bools2 : (l u : Bool) → (l && not (u && true)) ≡ (l && not u || false)
        bools2 false u = refl
        bools2 true false = refl
        bools2 true true = refl

-- ---- the keys stay distinct
pub take-distinct : (has : Placement) (flag : Bool) (x : Key) (s : Session) → Distinct (keys_of s.list) → listed s x ≡ false
    → Distinct (keys_of (take_out has flag x s).list)
take-distinct has flag x s d n = rw (keys-take has s x flag) (distinct_append (keys_of s.list) x d n)

pub count-distinct : (has : Placement) (x : Key) (v : ℕ) (s : Session) → Distinct (keys_of s.list) → Distinct (keys_of (set_count has x v s).list)
count-distinct has x v s d = rw (keys-told has s x v) d

-- ---- the known counts
pub right-append : (packets : Key → ℕ) (rs : List Record) (flag : Bool) (x : Key) → CountsRight packets rs
    → CountsRight packets (rs ++ (new_record flag x ∷ []))
unfolding CountsRight
right-append packets [] flag x h = (λ p. clash p refl, tt)
right-append packets (r ∷ rs) flag x h = (h.0, right-append packets rs flag x h.1)

pub right-count : (packets : Key → ℕ) (rs : List Record) (x : Key) → CountsRight packets rs → CountsRight packets (with_count x (packets x) rs)
unfolding CountsRight with_count
right-count packets [] x h = tt
right-count packets (r ∷ rs) x h = elim (split (same_key r.key x)) [
  | inl p ↦ rw p ((λ _. ap packets (sym (same-eq r.key x p))), right-count packets rs x h.1)
  | inr p ↦ rw p (h.0, right-count packets rs x h.1)
]

pub none-known : (rs : List Record) (k : Key) → among k (keys_of rs) ≡ false → count_of rs k ≡ none
unfolding count_of keys_of among
none-known [] k m = refl
none-known (r ∷ rs) k m =
    rw (or-fl (same_key k r.key) (among k (keys_of rs)) m) (none-known rs k (or-fr (same_key k r.key) (among k (keys_of rs)) m))

says : (packets : Key → ℕ) (rs : List Record) → Distinct (keys_of rs) → CountsRight packets rs → (k : Key)
    → count_of rs k ≡ cond (among k (keys_of rs) && not (among k (unknowns_of rs))) (some (packets k)) none
unfolding count_of keys_of keys_where among CountsRight Distinct
says packets [] d h k = refl
says packets (r ∷ rs) d h k =
    let ih = says packets rs d.1 h.1 k in
    elim (split r.known) [
      | inl q ↦ elim (split (same_key k r.key)) [
        | inl p ↦ (let e = same-eq k r.key p in rw (q, p, e, where-not (λ t. not t.known) rs r.key d.0, h.0 q))
        | inr p ↦ rw (q, p) ih
      ]
      | inr q ↦ elim (split (same_key k r.key)) [
        | inl p ↦ rw (q, p) (none-known rs k (rw (same-eq k r.key p) d.0))
        | inr p ↦ rw (q, p) ih
      ]
    ]

-- where the known counts are right, the list says a flow's packets if the flow is counted, and nothing else
pub counts-said : (packets : Key → ℕ) (s : Session) → Distinct (keys_of s.list) → CountsRight packets s.list → (k : Key)
    → count_of s.list k ≡ cond (counted s k) (some (packets k)) none
unfolding counted
counts-said packets s = says packets s.list
