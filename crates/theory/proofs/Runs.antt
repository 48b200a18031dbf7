-- Every run keeps the invariant, and lists and counts no more than any closed set has.
use mathlib.Core.Path.{◌≡◌, sym, ap, ◌∙◌}
use mathlib.Core.Logic.{inl, inr}
use mathlib.Core.Bool.{Bool, true, false, not}
use Prim.Native.Nat.{ℕ}
use Rattle.laws.proofs.Bools.{split, and_l, or-e, or_l, or_r}
use Rattle.theory.specs.Encode.{Key, same_key, among, outside, Only}
use Rattle.theory.specs.Session.{Session, listed, unknown, handed_over, counted, the_unknown}
use Rattle.theory.specs.HandOver.{Switch}
use Rattle.theory.specs.Invariant.{Counted, Holds}
use Rattle.theory.specs.Runs.{Run, start, handed, peeled, told, PeelClosed}
use Rattle.theory.proofs.Flow.{same-eq}
use Rattle.theory.proofs.Records.{where-listed, listed-take, counted-take, handed-take, handed-peel, listed-count, handed-count, counted-count}
use Rattle.theory.proofs.Outside.{outside-not, only-mono}
use Rattle.theory.proofs.Invariant.{invariant-take, invariant-count}
use Rattle.theory.proofs.Single.{pure-only, ready-only, ready-unknown, ready-count}

pub counted-listed : (s : Session) (k : Key) → counted s k ≡ true → listed s k ≡ true
unfolding counted
counted-listed s k y = and_l (listed s k) (not (unknown s k)) y

module _ (w : Switch) (e : Counted w) (s₀ : Session) (i₀ : Holds w e s₀) where
  open w use {has}
  open e use {flows as F}

  -- the key of a pure cell is not listed
  pure-new : (s : Session) → Holds w e s → (c : ℕ) → Only (outside has (listed s) c) F (s.cells c).flow_xor → listed s (s.cells c).flow_xor ≡ false
  pure-new s i c o = outside-not has (listed s) c (s.cells c).flow_xor o.chosen

  pub run-invariant : {s : Session} → Run has F s₀ s → Holds w e s
  run-invariant start = i₀
  run-invariant (handed {s = s} x r m l) = invariant-take w e s (run-invariant r) true x m l
  run-invariant (peeled {s = s} c r p) =
      let i = run-invariant r in
      let o = pure-only w e s i c p in
      invariant-take w e s i false (s.cells c).flow_xor o.member (pure-new s i c o)
  run-invariant (told {s = s} c r p) =
      let i = run-invariant r in
      rw (ready-count w e s i c p)
      (invariant-count w e s i (the_unknown has s.list c) (ready-unknown w e s i c p))

  -- ---- what a run never takes back
  pub listed-stays : {s : Session} → Run has F s₀ s → (k : Key) → listed s₀ k ≡ true → listed s k ≡ true
  listed-stays start k l = l
  listed-stays (handed {s = s} x r m n) k l = listed-take has s x true k ∙ or_l (listed s k) (same_key k x) (listed-stays r k l)
  listed-stays (peeled {s = s} c r p) k l =
      listed-take has s (s.cells c).flow_xor false k ∙ or_l (listed s k) (same_key k (s.cells c).flow_xor) (listed-stays r k l)
  listed-stays (told {s = s} c r p) k l = listed-count has s (the_unknown has s.list c) (s.cells c).packet_count k ∙ listed-stays r k l

  pub counted-stays : {s : Session} → Run has F s₀ s → (k : Key) → counted s₀ k ≡ true → counted s k ≡ true
  counted-stays start k l = l
  counted-stays (handed {s = s} x r m n) k l = counted-take has s x true n k ∙ counted-stays r k l
  counted-stays (peeled {s = s} c r p) k l =
      let i = run-invariant r in
      counted-take has s (s.cells c).flow_xor false (pure-new s i c (pure-only w e s i c p)) k ∙ counted-stays r k l
  counted-stays (told {s = s} c r p) k l =
      let u = the_unknown has s.list c in
      let known = where-listed (λ q. not q.known) s.list u (ready-unknown w e s (run-invariant r) c p) in
      counted-count has s u (s.cells c).packet_count known k ∙ or_l (counted s k) (same_key k u) (counted-stays r k l)

  -- ---- what a run lists is in every closed set that has what stood there and what was handed over
  pub listed-least : (X : Key → Bool) → PeelClosed has F X → ((k : Key) → listed s₀ k ≡ true → X k ≡ true)
      → {s : Session} → Run has F s₀ s → ((k : Key) → handed_over s k ≡ true → X k ≡ true) → (k : Key) → listed s k ≡ true → X k ≡ true
  listed-least X cl x₀ start g k l = x₀ k l
  listed-least X cl x₀ (handed {s = s} x r m n) g k l =
      elim (or-e (listed s k) (same_key k x) (sym (listed-take has s x true k) ∙ l)) [
        | inl a ↦ listed-least X cl x₀ r (λ j h. g j (handed-take has s x j ∙ or_l (handed_over s j) (same_key j x) h)) k a
        | inr z ↦ g k (handed-take has s x k ∙ or_r (handed_over s k) (same_key k x) z)
      ]
  listed-least X cl x₀ (peeled {s = s} c r p) g k l =
      let x = (s.cells c).flow_xor in
      let before : (j : Key) → listed s j ≡ true → X j ≡ true
      = λ j b. listed-least X cl x₀ r (λ q h. g q (ap (among q) (handed-peel has s x) ∙ h)) j b in
      elim (or-e (listed s k) (same_key k x) (sym (listed-take has s x false k) ∙ l)) [
        | inl a ↦ before k a
        | inr z ↦ rw (same-eq k x z) (elim (split (X x)) [
          | inl y ↦ y
          | inr y ↦ absurd (cl c x (only-mono has F (listed s) X (λ j b. before j b) c x (pure-only w e s (run-invariant r) c p) y))
        ])
      ]
  listed-least X cl x₀ (told {s = s} c r p) g k l =
      let u = the_unknown has s.list c in
      let v = (s.cells c).packet_count in
      listed-least X cl x₀ r (λ j h. g j (ap (among j) (handed-count has s u v) ∙ h)) k (sym (listed-count has s u v k) ∙ l)

  -- ---- what a run counts is in every set closed under counting, whatever was handed over
  pub counted-least : (X : Key → Bool) → PeelClosed has F X → ((k : Key) → counted s₀ k ≡ true → X k ≡ true)
      → {s : Session} → Run has F s₀ s → (k : Key) → counted s k ≡ true → X k ≡ true
  counted-least X cl x₀ start k l = x₀ k l
  counted-least X cl x₀ (handed {s = s} x r m n) k l = counted-least X cl x₀ r k (sym (counted-take has s x true n k) ∙ l)
  counted-least X cl x₀ (peeled {s = s} c r p) k l =
      let i = run-invariant r in
      counted-least X cl x₀ r k (sym (counted-take has s (s.cells c).flow_xor false (pure-new s i c (pure-only w e s i c p)) k) ∙ l)
  counted-least X cl x₀ (told {s = s} c r p) k l =
      let u = the_unknown has s.list c in
      let i = run-invariant r in
      let known = where-listed (λ q. not q.known) s.list u (ready-unknown w e s i c p) in
      elim (or-e (counted s k) (same_key k u) (sym (counted-count has s u (s.cells c).packet_count known k) ∙ l)) [
        | inl a ↦ counted-least X cl x₀ r k a
        | inr z ↦ rw (same-eq k u z) (elim (split (X u)) [
          | inl y ↦ y
          | inr y ↦ absurd (cl c u (only-mono has F (counted s) X (λ j b. counted-least X cl x₀ r j b) c u (ready-only w e s i c p) y))
        ])
      ]
