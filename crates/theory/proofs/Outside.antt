-- The keys of a cell outside a set, as the set grows.
use mathlib.Core.Path.{◌≡◌, refl, ap, fun_ext}
use mathlib.Core.Logic.{inl, inr}
use mathlib.Core.Bool.{Bool, true, false, not, ◌&&◌, ◌||◌}
use mathlib.Core.List.{List}
use Prim.Native.Nat.{ℕ}
use Rattle.laws.proofs.Bools.{split, clash, and_l, and_r, not_t}
use Rattle.theory.specs.Encode.{Key, same_key, Placement, outside, Only}
use Rattle.theory.proofs.Flow.{without, without-idle}

module _ (has : Placement) where
  pub outside-in : (X : Key → Bool) (c : ℕ) (k : Key) → outside has X c k ≡ true → has k c ≡ true
  unfolding outside
  outside-in X c k p = and_l (has k c) (not (X k)) p

  pub outside-not : (X : Key → Bool) (c : ℕ) (k : Key) → outside has X c k ≡ true → X k ≡ false
  unfolding outside
  outside-not X c k p = not_t (X k) (and_r (has k c) (not (X k)) p)

  pub outside-make : (X : Key → Bool) (c : ℕ) (k : Key) → has k c ≡ true → X k ≡ false → outside has X c k ≡ true
  unfolding outside
  outside-make X c k p q = rw (p, q)

  -- one more key in the set
  pub outside-add : (X Y : Key → Bool) (x : Key) → ((k : Key) → Y k ≡ (X k || same_key k x)) → (c : ℕ) → outside has Y c ≡ without x (outside has X c)
  unfolding outside without
  outside-add X Y x h c = fun_ext (λ k. rw (h k) (bools (has k c) (X k) (same_key k x)))
    where
      bools : (h l e : Bool) → (h && not (l || e)) ≡ (h && not l && not e)
      bools false l e = refl
      bools true false e = refl
      bools true true e = refl

  -- a key that does not have the cell
  pub outside-idle : (X : Key → Bool) (x : Key) (c : ℕ) → has x c ≡ false → without x (outside has X c) ≡ outside has X c
  outside-idle X x c h = without-idle x (outside has X c) (unfold outside in rw h)

  pub outside-same : (X Y : Key → Bool) → ((k : Key) → Y k ≡ X k) → (c : ℕ) → outside has Y c ≡ outside has X c
  outside-same X Y h c = ap (λ Z. outside has Z c) (fun_ext h)

  -- the one flow outside X is the one outside the larger Y, if Y has it not
  pub only-mono : (F : List Key) (X Y : Key → Bool) → ((k : Key) → X k ≡ true → Y k ≡ true) → (c : ℕ) (x : Key)
      → Only (outside has X c) F x → Y x ≡ false → Only (outside has Y c) F x
  only-mono F X Y h c x o n = record {
    member = o.member;
    chosen = outside-make Y c x (outside-in X c x o.chosen) n;
    alone = λ k m u. o.alone k m (outside-make X c k (outside-in Y c k u) (elim (split (X k)) [
      | inl b ↦ clash (h k b) (outside-not Y c k u)
      | inr b ↦ b
    ]));
  }
