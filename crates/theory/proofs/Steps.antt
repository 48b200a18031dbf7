-- One peel and one count step on any session, clean or not: what they start from, what they lower, the room they keep.
use mathlib.Core.Path.{◌≡◌, refl, ap, subst}
use mathlib.Core.Logic.{inl, inr}
use mathlib.Core.Bool.{Bool, true, false, not, ◌&&◌}
use mathlib.Core.List.{List, [], ◌∷◌}
use Prim.Native.Nat.{ℕ, ◌+◌, ◌-◌, ◌*◌, ◌≤◌, ◌<◌}
use native.Mathlib.Omega.{arith}
use lib.ListN.{length, length-append}
use lib.Dec.{eqb, ltb}
use Rattle.laws.specs.Upto.{any_upto, lowest, number_upto}
use Rattle.laws.proofs.Bools.{split, clash, or-fl, positive_of}
use Rattle.laws.proofs.Upto.{any-no}
use Rattle.theory.specs.Encode.{Key, among, Placement}
use Rattle.theory.specs.Session.{Session, unknowns_of, peeled_of, unknown, pure, ready, the_unknown, open_cells, new_record, take_out, set_count, Step, quiet, damaged, next, peel_damaged, peel_at, peel, peel_pure, count_damaged, count_at, count_step}
use Rattle.theory.specs.Fits.{Fits}
use Rattle.theory.proofs.Flow.{find}
use Rattle.theory.proofs.Sums.{sum-none}
use Rattle.theory.proofs.Records.{list-parts, where-append, peeled-count, unknowns-fewer, handed-peel, handed-count}
use Rattle.theory.proofs.Single.{first-ok, pure-one, pure-has, ready-one}
use borrow.Author.Tests.{ltb-true, lt-ltb}
use Rattle.laws.proofs.Lowest.{lowest-lt, lowest-hit, number-le, number_lt, number-some}

-- ---- a count changes no FlowXOR and no FlowCount, so it makes no cell pure
pub flows-told : (has : Placement) (s : Session) (x : Key) (v c : ℕ) → ((set_count has x v s).cells c).flow_count ≡ (s.cells c).flow_count
unfolding set_count
flows-told has s x v c = elim (split (has x c)) [ inl h ↦ rw h | inr h ↦ rw h ]

pub pure-count : (has : Placement) (s : Session) (x : Key) (v c : ℕ) → pure has (set_count has x v s).cells c ≡ pure has s.cells c
unfolding pure set_count
pure-count has s x v c = elim (split (has x c)) [ inl h ↦ rw h | inr h ↦ rw h ]

-- ---- the cells with FlowCount above 0
module _ (n : ℕ) (has : Placement) (s : Session) (x : Key) where
  open-below : (flag : Bool) (j : ℕ) → ltb 0 ((take_out has flag x s).cells j).flow_count ≡ true → ltb 0 (s.cells j).flow_count ≡ true
  unfolding take_out
  open-below flag j h = elim (split (has x j)) [
    | inl p ↦ lt-ltb 0 (s.cells j).flow_count (let r = ltb-true 0 ((s.cells j).flow_count - 1) (rw p at h) in omega arith)
    | inr p ↦ rw p at h
  ]

  pub open-take : (flag : Bool) → open_cells n (take_out has flag x s).cells ≤ open_cells n s.cells
  unfolding open_cells
  open-take flag = number-le n (λ c. ltb 0 ((take_out has flag x s).cells c).flow_count) (λ c. ltb 0 (s.cells c).flow_count) (open-below flag)

  -- the cell that a peel starts from is emptied
  pub open-peel : (c : ℕ) → c < n → has x c ≡ true → (s.cells c).flow_count ≡ 1 → open_cells n (take_out has false x s).cells < open_cells n s.cells
  unfolding open_cells
  open-peel c l h one = number_lt n
      (λ j. ltb 0 ((take_out has false x s).cells j).flow_count) (λ j. ltb 0 (s.cells j).flow_count) (open-below false) c l
      (unfold take_out in rw (h, one)) (rw one)

  pub open-count : (v : ℕ) → open_cells n (set_count has x v s).cells ≡ open_cells n s.cells
  unfolding open_cells
  open-count v = ap (number_upto n) (λ i c. ltb 0 (flows-told has s x v c i))

-- ---- one peel, for any marks
pub record Peels (n : ℕ) (has : Placement) (marks : ℕ → Bool) (s t : Session) : Type 0 where
  pub marked : any_upto n marks ≡ true
  pub sound : peel_damaged n has s (s.cells (lowest n marks)).flow_xor ≡ false
  pub result : t ≡ take_out has false (s.cells (lowest n marks)).flow_xor s

-- the ways a peel ends
pub data Peeling (n : ℕ) (has : Placement) (marks : ℕ → Bool) (s : Session) : Step Session → Type 0 where
  none-marked : any_upto n marks ≡ false → Peeling n has marks s quiet
  broken : any_upto n marks ≡ true → peel_damaged n has s (s.cells (lowest n marks)).flow_xor ≡ true
      → Peeling n has marks s (damaged (lowest n marks))
  taken : {t : Session} → Peels n has marks s t → Peeling n has marks s (next t)

module _ (n : ℕ) (has : Placement) (marks : ℕ → Bool) (s : Session) where
  pub peeling : Peeling n has marks s (peel n has marks s)
  unfolding peel peel_at
  peeling = elim (split (any_upto n marks)) [
    | inr a ↦ rw a (none-marked a)
    | inl a ↦ elim (split (peel_damaged n has s (s.cells (lowest n marks)).flow_xor)) [
      | inl d ↦ rw (a, d) (broken a d)
      | inr d ↦ rw (a, d) (taken (record { marked = a; sound = d; result = refl }))
    ]
  ]

  pub peel-next : (t : Session) → peel n has marks s ≡ next t → Peels n has marks s t
  peel-next t e = go (subst (Peeling n has marks s) e peeling)
    where
      go : Peeling n has marks s (next t) → Peels n has marks s t
      go (taken p) = p

  pub peel-quiet : peel n has marks s ≡ quiet → any_upto n marks ≡ false
  peel-quiet e = go (subst (Peeling n has marks s) e peeling)
    where
      go : Peeling n has marks s quiet → any_upto n marks ≡ false
      go (none-marked a) = a

  pub peel-damaged : (c : ℕ) → peel n has marks s ≡ damaged c
      → (any_upto n marks ≡ true) × (peel_damaged n has s (s.cells (lowest n marks)).flow_xor ≡ true)
  peel-damaged c e = go (subst (Peeling n has marks s) e peeling)
    where
      go : {d : ℕ} → Peeling n has marks s (damaged d) → (any_upto n marks ≡ true) × (peel_damaged n has s (s.cells (lowest n marks)).flow_xor ≡ true)
      go (broken a d) = (a, d)

-- ---- one count step
pub record Counts (n : ℕ) (has : Placement) (s t : Session) : Type 0 where
  pub is-ready : any_upto n (ready has s) ≡ true
  pub sound : count_damaged n has s (the_unknown has s.list (lowest n (ready has s))) (s.cells (lowest n (ready has s))).packet_count ≡ false
  pub result : t ≡ set_count has (the_unknown has s.list (lowest n (ready has s))) (s.cells (lowest n (ready has s))).packet_count s

-- the ways a count step ends
pub data Counting (n : ℕ) (has : Placement) (s : Session) : Step Session → Type 0 where
  none-ready : any_upto n (ready has s) ≡ false → Counting n has s quiet
  miscounted : any_upto n (ready has s) ≡ true
      → count_damaged n has s (the_unknown has s.list (lowest n (ready has s))) (s.cells (lowest n (ready has s))).packet_count ≡ true
      → Counting n has s (damaged (lowest n (ready has s)))
  counted_next : {t : Session} → Counts n has s t → Counting n has s (next t)

module _ (n : ℕ) (has : Placement) (s : Session) where
  pub counting : Counting n has s (count_step n has s)
  unfolding count_step count_at
  counting =
      let c = lowest n (ready has s) in
      elim (split (any_upto n (ready has s))) [
        | inr a ↦ rw a (none-ready a)
        | inl a ↦ elim (split (count_damaged n has s (the_unknown has s.list c) (s.cells c).packet_count)) [
          | inl d ↦ rw (a, d) (miscounted a d)
          | inr d ↦ rw (a, d) (counted_next (record { is-ready = a; sound = d; result = refl }))
        ]
      ]

  pub count_next : (t : Session) → count_step n has s ≡ next t → Counts n has s t
  count_next t e = go (subst (Counting n has s) e counting)
    where
      go : Counting n has s (next t) → Counts n has s t
      go (counted_next p) = p

  pub count-quiet : count_step n has s ≡ quiet → any_upto n (ready has s) ≡ false
  count-quiet e = go (subst (Counting n has s) e counting)
    where
      go : Counting n has s quiet → any_upto n (ready has s) ≡ false
      go (none-ready a) = a

  pub count-damaged : (c : ℕ) → count_step n has s ≡ damaged c → (any_upto n (ready has s) ≡ true)
      × (count_damaged n has s (the_unknown has s.list (lowest n (ready has s))) (s.cells (lowest n (ready has s))).packet_count ≡ true)
  count-damaged c e = go (subst (Counting n has s) e counting)
    where
      go : {d : ℕ} → Counting n has s (damaged d) → (any_upto n (ready has s) ≡ true)
          × (count_damaged n has s (the_unknown has s.list (lowest n (ready has s))) (s.cells (lowest n (ready has s))).packet_count ≡ true)
      go (miscounted a d) = (a, d)

  -- a count that is set is positive
  pub count-positive : (x : Key) (v : ℕ) → count_damaged n has s x v ≡ false → 1 ≤ v
  unfolding count_damaged
  count-positive x v h = positive_of v (or-fl (eqb v 0) (any_upto n (λ c. has x c && ltb (s.cells c).packet_count v)) h)

  -- the flow that a ready cell names is unknown
  pub ready-names : (c : ℕ) → ready has s c ≡ true → unknown s (the_unknown has s.list c) ≡ true
  ready-names c p = elim (find (λ k. has k c) (unknowns_of s.list)) [
    | inl h ↦ (first-ok (λ k. has k c) (unknowns_of s.list) h.0 h.1 h.2).0
    | inr h ↦ absurd (omega (arith, ready-one has s c p, sum-none ◌+◌ 0 (λ k. 1) (λ k. has k c) (unknowns_of s.list) h))
  ]

-- ---- each step lowers a number, so that settling ends
module _ (n : ℕ) (has : Placement) where
  pub peel-falls : (s t : Session) → peel_pure n has s ≡ next t → open_cells n t.cells < open_cells n s.cells
  peel-falls s t e =
      let p = peel-next n has (pure has s.cells) s t e in
      let c = lowest n (pure has s.cells) in
      let hit = lowest-hit n (pure has s.cells) p.marked in
      let l = lowest-lt n (pure has s.cells) p.marked in
      rw p.result (open-peel n has s (s.cells c).flow_xor c l (pure-has has s c hit) (pure-one has s c hit))

  -- no cell open, none pure
  pub peel-idle : (s : Session) → open_cells n s.cells ≡ 0 → peel_pure n has s ≡ quiet
  unfolding open_cells peel
  peel-idle s z = rw (any-no n (pure has s.cells) (λ c l. elim (split (pure has s.cells c)) [
    | inr q ↦ q
    | inl q ↦ absurd (omega (arith, number-some n (λ j. ltb 0 (s.cells j).flow_count) c l (rw (pure-one has s c q))))
  ]))

  pub count-falls : (s t : Session) → count_step n has s ≡ next t → length (unknowns_of t.list) < length (unknowns_of s.list)
  count-falls s t e =
      let p = count_next n has s t e in
      let c = lowest n (ready has s) in
      rw p.result (unfold set_count in unknowns-fewer (the_unknown has s.list c) (s.cells c).packet_count s.list
      (ready-names n has s c (lowest-hit n (ready has s) p.is-ready)))

  pub count-idle : (s : Session) → length (unknowns_of s.list) ≡ 0 → count_step n has s ≡ quiet
  unfolding count_step
  count-idle s z = rw (any-no n (ready has s) (λ c l. elim (split (ready has s c)) [
    | inr q ↦ q
    | inl q ↦ none (unknowns_of s.list) z (the_unknown has s.list c) (ready-names n has s c q)
  ]))
    where
      none : {A : Type 0} (l : List Key) → length l ≡ 0 → (k : Key) → among k l ≡ true → A
      none [] e k m = clash m (unfold among in refl)
      none (y ∷ l) e k m = absurd (omega arith)

-- ---- a list has room for 2 N flows
pub fits-length : (n : ℕ) (s : Session) → Fits n s → length s.list ≤ 2 * n
fits-length n s f = omega (arith, list-parts s.list, f.handed-room, f.peeled-room)

-- ---- each step keeps the room, and a peel finds some
module _ (n : ℕ) (has : Placement) where
  peeled-take : (s : Session) (x : Key) → length (peeled_of (take_out has false x s).list) ≡ length (peeled_of s.list) + 1
  unfolding take_out
  peeled-take s x = rw (where-append (λ r. not r.handed) s.list (new_record false x)) (simp length-append)

  pub peel-fits : (s t : Session) → Fits n s → peel_pure n has s ≡ next t → Fits n t
  peel-fits s t f e =
      let p = peel-next n has (pure has s.cells) s t e in
      let x = (s.cells (lowest n (pure has s.cells))).flow_xor in
      let less = rw p.result at (peel-falls n has s t e) in
      rw p.result (record {
        handed-room = rw (handed-peel has s x) f.handed-room;
        peeled-room = omega (arith, peeled-take s x, f.peeled-room, less);
      })

  pub count_fits : (s t : Session) → Fits n s → count_step n has s ≡ next t → Fits n t
  count_fits s t f e =
      let p = count_next n has s t e in
      let c = lowest n (ready has s) in
      let x = the_unknown has s.list c in
      let v = (s.cells c).packet_count in
      rw p.result (record {
        handed-room = rw (handed-count has s x v) f.handed-room;
        peeled-room = rw (open-count n has s x v, peeled-count has s x v) f.peeled-room;
      })

  -- a peel finds room in the list: the cell it starts from is open
  pub peel-room : (s : Session) → Fits n s → any_upto n (pure has s.cells) ≡ true → length s.list < 2 * n
  peel-room s f a =
      let c = lowest n (pure has s.cells) in
      let one = pure-one has s c (lowest-hit n (pure has s.cells) a) in
      let some-open : 0 < open_cells n s.cells = unfold open_cells in
      number-some n (λ j. ltb 0 (s.cells j).flow_count) c (lowest-lt n (pure has s.cells) a) (rw one) in
      omega (arith, list-parts s.list, f.handed-room, f.peeled-room)
