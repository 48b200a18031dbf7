-- Keys compared, and lists of keys as sets.
use mathlib.Core.Path.{◌≡◌, refl, sym, ap₂, ◌∙◌, fun_ext}
use mathlib.Core.Logic.{◌⊎◌, inl, inr}
use mathlib.Core.Bool.{Bool, true, false, not, ◌&&◌, ◌||◌}
use mathlib.Core.List.{List, [], ◌∷◌, ◌++◌}
use lib.Dec.{eqb, eqb→eq, eqb_refl}
use Rattle.laws.proofs.Bools.{split, clash, T→≡, ≡→T, and_l, and_r, and_i, and-f, and-t, or-e, or_r, or-fl, or-fr}
use Rattle.theory.specs.Encode.{Key, same_key, among, Distinct}

pub same_refl : (a : Key) → same_key a a ≡ true
unfolding same_key
same_refl [] = refl
same_refl (x ∷ xs) = and_i (eqb x x) (same_key xs xs) (T→≡ _ (eqb_refl x)) (same_refl xs)

pub same-eq : (a b : Key) → same_key a b ≡ true → a ≡ b
unfolding same_key
same-eq [] [] p = refl
same-eq [] (y ∷ ys) p = clash p refl
same-eq (x ∷ xs) [] p = clash p refl
same-eq (x ∷ xs) (y ∷ ys) p =
    ap₂ ◌∷◌ (eqb→eq x y (≡→T (eqb x y) (and_l (eqb x y) (same_key xs ys) p))) (same-eq xs ys (and_r (eqb x y) (same_key xs ys) p))

pub same-flip : (a b : Key) → same_key a b ≡ false → same_key b a ≡ false
same-flip a b q = elim (split (same_key b a)) [ inl h ↦ clash (rw (same-eq b a h) (same_refl a)) q | inr h ↦ h ]

-- ---- members of a list
pub among-here : (x : Key) (l : List Key) → among x (x ∷ l) ≡ true
unfolding among
among-here x l = rw (same_refl x)

pub among_there : (k x : Key) (l : List Key) → among k l ≡ true → among k (x ∷ l) ≡ true
unfolding among
among_there k x l m = or_r (same_key k x) (among k l) m

pub among_cases : (k x : Key) (l : List Key) → among k (x ∷ l) ≡ true → (k ≡ x) ⊎ (among k l ≡ true)
unfolding among
among_cases k x l m = elim (or-e (same_key k x) (among k l) m) [ inl p ↦ inl (same-eq k x p) | inr p ↦ inr p ]

pub among_none : {A : Type 0} (k : Key) → among k [] ≡ true → A
unfolding among
among_none k m = clash m refl

pub among-append : (k : Key) (l : List Key) (x : Key) → among k (l ++ (x ∷ [])) ≡ (among k l || same_key k x)
unfolding among
among-append k [] x = elim (split (same_key k x)) [ inl p ↦ rw p | inr p ↦ rw p ]
among-append k (y ∷ l) x = elim (split (same_key k y)) [ inl p ↦ rw p | inr p ↦ rw p (among-append k l x) ]

-- a member differs from what is no member
pub among-other : (k x : Key) (l : List Key) → among k l ≡ true → among x l ≡ false → same_key k x ≡ false
among-other k x l p q = elim (split (same_key k x)) [ inl h ↦ clash p (rw (← same-eq k x h) at q) | inr h ↦ h ]

pub distinct_append : (l : List Key) (x : Key) → Distinct l → among x l ≡ false → Distinct (l ++ (x ∷ []))
unfolding among Distinct
distinct_append [] x d m = (refl, tt)
distinct_append (y ∷ l) x d m = (
  rw (among-append y l x, d.0) (same-flip x y (or-fl (same_key x y) (among x l) m)),
  distinct_append l x d.1 (or-fr (same_key x y) (among x l) m),
)

-- some key of the list passes, or none does
pub find : (P : Key → Bool) (l : List Key)
    → ((x : Key) × (among x l ≡ true) × (P x ≡ true)) ⊎ ((k : Key) → among k l ≡ true → P k ≡ false)
find P [] = inr (λ k m. among_none k m)
find P (y ∷ l) = elim (split (P y)) [
  | inl p ↦ inl (y, among-here y l, p)
  | inr q ↦ elim (find P l) [
    | inl h ↦ inl (h.0, among_there _ _ _ h.1, h.2)
    | inr h ↦ inr (λ k m. elim (among_cases k y l m) [ inl s ↦ rw s q | inr n ↦ h k n ])
  ]
]

-- ---- a test that x no longer passes
unfoldable pub without : Key → (Key → Bool) → Key → Bool
without x P k = P k && not (same_key k x)

pub without-self : (x : Key) (P : Key → Bool) → without x P x ≡ false
unfolding without
without-self x P = rw (same_refl x) (and-f (P x))

pub without_other : (x : Key) (P : Key → Bool) (k : Key) → same_key k x ≡ false → without x P k ≡ P k
unfolding without
without_other x P k h = rw h (and-t (P k))

-- P without x is Q, where Q is P elsewhere and x does not pass it
pub without_is : (x : Key) (P Q : Key → Bool) → Q x ≡ false → ((k : Key) → same_key k x ≡ false → P k ≡ Q k) → (k : Key) → without x P k ≡ Q k
without_is x P Q q h k = elim (split (same_key k x)) [
  | inl s ↦ rw (same-eq k x s) (without-self x P ∙ sym q)
  | inr s ↦ without_other x P k s ∙ h k s
]

-- to take out what does not pass changes nothing
pub without-idle : (x : Key) (P : Key → Bool) → P x ≡ false → without x P ≡ P
without-idle x P q = fun_ext (without_is x P P q (λ k h. refl))
