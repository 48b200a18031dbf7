-- Laws of the sum over the keys of a list: one key appended, one key taken out, the sum over a part, sums that are 0 or 1.
use mathlib.Core.Path.{◌≡◌, refl, sym, ap, ◌∙◌, subst}
use mathlib.Core.Logic.{inl, inr}
use mathlib.Core.Bool.{Bool, true, false, cond, ◌&&◌}
use mathlib.Core.List.{List, [], ◌∷◌, ◌++◌}
use Prim.Native.Nat.{ℕ, ◌+◌}
use native.Mathlib.Nat.{add_assoc, add_comm}
use native.Mathlib.Omega.{arith}
use lib.ListN.{length, replicate, length-replicate}
use Rattle.laws.specs.Xor.{xor_bytes}
use Rattle.laws.proofs.Xor.{xor_bytes-length}
use Rattle.laws.proofs.Bools.{split, clash, and-f, and_i}
use Rattle.theory.specs.Encode.{Key, same_key, among, Distinct, sum_over, total, count}
use Rattle.theory.proofs.Flow.{same_refl, same-eq, same-flip, among-here, among_there, among_cases, among_none, among-other, find}
use Rattle.theory.proofs.Flow.{without, without-self, without_other, without_is}

module _ {M : Type 0} (op : M → M → M) (e : M) (w : Key → M) where
  sum-yes : (P : Key → Bool) (x : Key) (l : List Key) → P x ≡ true → sum_over op e P w (x ∷ l) ≡ op (w x) (sum_over op e P w l)
  unfolding sum_over
  sum-yes P x l p = rw p

  sum-no : (P : Key → Bool) (x : Key) (l : List Key) → P x ≡ false → sum_over op e P w (x ∷ l) ≡ sum_over op e P w l
  unfolding sum_over
  sum-no P x l p = rw p

  pub sum_congr : (P Q : Key → Bool) (l : List Key) → ((k : Key) → among k l ≡ true → P k ≡ Q k) → sum_over op e P w l ≡ sum_over op e Q w l
  unfolding sum_over
  sum_congr P Q [] h = refl
  sum_congr P Q (x ∷ l) h = rw (h x (among-here x l), sum_congr P Q l (λ k m. h k (among_there k x l m)))

  pub sum-none : (P : Key → Bool) (l : List Key) → ((k : Key) → among k l ≡ true → P k ≡ false) → sum_over op e P w l ≡ e
  unfolding sum_over
  sum-none P [] h = refl
  sum-none P (x ∷ l) h = rw (h x (among-here x l)) (sum-none P l (λ k m. h k (among_there k x l m)))

  -- what holds of each summand, and is kept by the operation, holds of the sum
  pub sum-keeps : (G : M → Type 0) → G e → ((a b : M) → G a → G b → G (op a b))
      → (P : Key → Bool) (l : List Key) → ((k : Key) → among k l ≡ true → G (w k)) → G (sum_over op e P w l)
  unfolding sum_over
  sum-keeps G g0 g2 P [] h = g0
  sum-keeps G g0 g2 P (x ∷ l) h =
      let r = sum-keeps G g0 g2 P l (λ k m. h k (among_there k x l m)) in
      elim (split (P x)) [ inl p ↦ rw p (g2 (w x) (sum_over op e P w l) (h x (among-here x l)) r) | inr p ↦ rw p r ]

  module _ (comm : (a b : M) → op a b ≡ op b a) (assoc : (a b c : M) → op (op a b) c ≡ op a (op b c)) where
    swap : (a b c : M) → op a (op b c) ≡ op b (op a c)
    swap a b c = sym (assoc a b c) ∙ ap (λ t. op t c) (comm a b) ∙ assoc b a c

    -- one key appended
    pub sum-append : (P : Key → Bool) (l : List Key) (x : Key)
        → sum_over op e P w (l ++ (x ∷ [])) ≡ cond (P x) (op (sum_over op e P w l) (w x)) (sum_over op e P w l)
    unfolding sum_over
    sum-append P [] x = elim (split (P x)) [ inl p ↦ rw p (comm (w x) e) | inr p ↦ rw p ]
    sum-append P (y ∷ l) x = rw (sum-append P l x) (elim (split (P x)) [
      | inl p ↦ rw p (elim (split (P y)) [ inl q ↦ rw q (sym (assoc (w y) (sum_over op e P w l) (w x))) | inr q ↦ rw q ])
      | inr p ↦ rw p
    ])

    sum_head : (P : Key → Bool) (x : Key) (l : List Key) → among x l ≡ false → P x ≡ true
        → sum_over op e P w (x ∷ l) ≡ op (w x) (sum_over op e (without x P) w (x ∷ l))
    sum_head P x l n p =
        sum-yes P x l p ∙ ap (op (w x)) (sum_congr P (without x P) l (λ k m. sym (without_other x P k (among-other k x l m n)))
        ∙ sym (sum-no (without x P) x l (without-self x P)))

    -- one key taken out of the sum
    pub sum-split : (P : Key → Bool) (x : Key) (l : List Key) → Distinct l → among x l ≡ true → P x ≡ true
        → sum_over op e P w l ≡ op (w x) (sum_over op e (without x P) w l)
    unfolding Distinct
    sum-split P x [] d m p = among_none x m
    sum-split P x (y ∷ l) d m p = elim (split (same_key x y)) [
      | inl h ↦ subst (λ z. sum_over op e P w (z ∷ l) ≡ op (w x) (sum_over op e (without x P) w (z ∷ l))) (same-eq x y h)
          (sum_head P x l (rw (same-eq x y h) d.0) p)
      | inr h ↦
          let ih = sum-split P x l d.1 (elim (among_cases x y l m) [ inl s ↦ clash (rw s (same_refl y)) h | inr n ↦ n ]) p in
          let w-y : without x P y ≡ P y = without_other x P y (same-flip x y h) in
          elim (split (P y)) [
            | inl q ↦ sum-yes P y l q ∙ ap (op (w y)) ih ∙ swap (w y) (w x) (sum_over op e (without x P) w l)
                ∙ ap (op (w x)) (sym (sum-yes (without x P) y l (w-y ∙ q)))
            | inr q ↦ sum-no P y l q ∙ ih ∙ ap (op (w x)) (sym (sum-no (without x P) y l (w-y ∙ q)))
          ]
    ]

    -- the sum where one key alone passes
    pub sum-only : (P : Key → Bool) (x : Key) (l : List Key) → Distinct l → among x l ≡ true → P x ≡ true
        → ((k : Key) → among k l ≡ true → P k ≡ true → k ≡ x) → sum_over op e P w l ≡ op (w x) e
    sum-only P x l d m p u =
        sum-split P x l d m p ∙ ap (op (w x)) (sum-none (without x P) l (λ k n. elim (split (same_key k x)) [
          | inl s ↦ rw (same-eq k x s) (without-self x P)
          | inr s ↦ without_other x P k s ∙ elim (split (P k)) [ inl t ↦ clash (rw (u k n t) (same_refl x)) s | inr t ↦ t ]
        ]))

    -- the sum over a part of the keys, as a sum over all of them
    pub sum-part : (P : Key → Bool) (u l : List Key) → Distinct u → Distinct l → ((k : Key) → among k u ≡ true → among k l ≡ true)
        → sum_over op e P w u ≡ sum_over op e (λ k. P k && among k u) w l
    unfolding Distinct among sum_over
    sum-part P [] l d d' s = sym (sum-none (λ k. P k && false) l (λ k m. and-f (P k)))
    sum-part P (x ∷ u) l d d' s =
        let ih = sum-part P u l d.1 d' (λ k m. s k (among_there k x u m)) in
        elim (split (P x)) [
          | inl p ↦ sum-yes P x u p ∙ ap (op (w x)) (ih ∙ sum_congr (λ k. P k && among k u) (without x (λ k. P k && among k (x ∷ u))) l
              (λ k m. sym (without_is x (λ j. P j && among j (x ∷ u)) (λ j. P j && among j u) (rw d.0 (and-f (P x))) (λ j r. rw r) k)))
              ∙ sym (sum-split (λ k. P k && among k (x ∷ u)) x l d' (s x (among-here x u)) (and_i (P x) (among x (x ∷ u)) p (among-here x u)))
          | inr p ↦ sum-no P x u p ∙ ih ∙ sum_congr (λ k. P k && among k u) (λ k. P k && among k (x ∷ u)) l
              (λ k m. elim (split (same_key k x)) [ inl r ↦ rw (same-eq k x r, p) | inr r ↦ rw r ])
        ]

-- the sum by values that agree where a key passes
pub sum-values : {M : Type 0} (op : M → M → M) (e : M) (v w : Key → M) (P : Key → Bool) (l : List Key)
    → ((k : Key) → among k l ≡ true → P k ≡ true → v k ≡ w k) → sum_over op e P v l ≡ sum_over op e P w l
unfolding sum_over
sum-values op e v w P [] h = refl
sum-values op e v w P (x ∷ l) h = rw (sum-values op e v w P l (λ k m. h k (among_there k x l m))) (elim (split (P x)) [
  | inl p ↦ rw (p, h x (among-here x l) p)
  | inr p ↦ rw p
])

-- ---- sums of numbers
pub total-split : (w : Key → ℕ) (P : Key → Bool) (x : Key) (l : List Key) → Distinct l → among x l ≡ true → P x ≡ true
    → total P w l ≡ w x + total (without x P) w l
total-split w = sum-split ◌+◌ 0 w add_comm add_assoc

pub count_none : (P : Key → Bool) (l : List Key) → Distinct l → count P l ≡ 0 → (k : Key) → among k l ≡ true → P k ≡ false
count_none P l d z k m = elim (split (P k)) [ inl p ↦ absurd (omega (arith, total-split (λ j. 1) P k l d m p)) | inr p ↦ p ]

-- a number of 1 names its key
pub count-one : (P : Key → Bool) (l : List Key) → Distinct l → count P l ≡ 1
    → (x : Key) × (among x l ≡ true) × (P x ≡ true) × ((k : Key) → among k l ≡ true → P k ≡ true → k ≡ x)
count-one P l d z = elim (find P l) [
  | inr h ↦ absurd (omega (arith, sum-none ◌+◌ 0 (λ j. 1) P l h))
  | inl h ↦ (
    h.0,
    h.1,
    h.2,
    λ k m p. elim (split (same_key k h.0)) [
      | inl s ↦ same-eq k h.0 s
      | inr s ↦ clash p (sym (without_other h.0 P k s)
          ∙ count_none (without h.0 P) l d (omega (arith, total-split (λ j. 1) P h.0 l d h.1 h.2)) k m)
    ],
  )
]

-- keys of one length have an XOR of that length
pub xor-sized : (key_length : ℕ) (P : Key → Bool) (l : List Key) → ((k : Key) → among k l ≡ true → length k ≡ key_length)
    → length (sum_over xor_bytes (replicate key_length 0) P (λ k. k) l) ≡ key_length
xor-sized key_length P l = sum-keeps xor_bytes (replicate key_length 0) (λ k. k) (λ k. length k ≡ key_length) (length-replicate key_length 0)
    (λ a b p q. xor_bytes-length a b key_length p q) P l
