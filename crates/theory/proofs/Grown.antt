-- The list only grows: calls and settlings append to the keys; a list handed over without growth was refused throughout.
use mathlib.Core.Path.{◌≡◌, refl, sym, ap, ◌∙◌}
use mathlib.Core.Logic.{inl, inr}
use mathlib.Core.Bool.{Bool, true, false}
use mathlib.Core.List.{List, [], ◌∷◌, ◌++◌, append-nil, append_assoc}
use Prim.Native.Nat.{ℕ, ◌+◌}
use native.Mathlib.Omega.{arith}
use lib.ListN.{length, length-append}
use lib.Dec.{eqb}
use Rattle.laws.proofs.Bools.{split}
use Rattle.theory.specs.Encode.{Key, among, Placement}
use Rattle.theory.specs.Session.{Session, keys_of, pure, take_out, set_count, next, peel_pure, count_step, settle}
use Rattle.theory.specs.HandOver.{Switch, hand_answer, hand_over, Call, call, calls, hand_each}
use Rattle.theory.specs.Exchange.{hand_all, twelves_in}
use Rattle.theory.proofs.Flow.{among_cases, among_none}
use Rattle.theory.proofs.Records.{keys-take, keys-told, keys_length}
use Rattle.theory.proofs.Steps.{peel-next, count_next}
use Rattle.theory.proofs.Settle.{settle-keeps}
use Rattle.theory.proofs.HandOver.{calls-keep}

-- t's keys are s's with some appended
pub record Grown (s t : Session) : Type 0 where
  pub new : List Key
  pub keys : keys_of t.list ≡ keys_of s.list ++ new

pub grown-length : (s t : Session) (g : Grown s t) → length t.list ≡ length s.list + length g.new
grown-length s t g = sym (keys_length t.list) ∙ ap length g.keys ∙ length-append (keys_of s.list) g.new
    ∙ ap (λ m. m + length g.new) (keys_length s.list)

-- no growth: the same keys
pub grown-same : (s t : Session) → Grown s t → length t.list ≡ length s.list → keys_of t.list ≡ keys_of s.list
grown-same s t g e = go g.new g.keys (omega (arith, grown-length s t g))
  where
    go : (l : List Key) → keys_of t.list ≡ keys_of s.list ++ l → length l ≡ 0 → keys_of t.list ≡ keys_of s.list
    go [] k z = k ∙ append-nil (keys_of s.list)
    go (x ∷ l) k z = absurd (omega arith)

grown-take : (has : Placement) (flag : Bool) (x : Key) (s t : Session) → Grown s t → Grown s (take_out has flag x t)
grown-take has flag x s t g = record {
  new = g.new ++ (x ∷ []);
  keys = keys-take has t x flag ∙ ap (λ l. l ++ (x ∷ [])) g.keys ∙ append_assoc (keys_of s.list) g.new (x ∷ []);
}

grown-count : (has : Placement) (x : Key) (v : ℕ) (s t : Session) → Grown s t → Grown s (set_count has x v t)
grown-count has x v s t g = record { new = g.new; keys = keys-told has t x v ∙ g.keys }

pub grown-refl : (s : Session) → Grown s s
grown-refl s = record { new = []; keys = sym (append-nil (keys_of s.list)) }

pub grown-trans : (s t u : Session) → Grown s t → Grown t u → Grown s u
grown-trans s t u g h = record {
  new = g.new ++ h.new;
  keys = h.keys ∙ ap (λ l. l ++ h.new) g.keys ∙ append_assoc (keys_of s.list) g.new h.new;
}

module _ (n : ℕ) (has : Placement) (s : Session) where
  grown-peel : (t u : Session) → Grown s t → peel_pure n has t ≡ next u → Grown s u
  grown-peel t u g e = rw (peel-next n has (pure has t.cells) t u e).result (grown-take has false _ s t g)

  grown-tell : (t u : Session) → Grown s t → count_step n has t ≡ next u → Grown s u
  grown-tell t u g e = rw (count_next n has t u e).result (grown-count has _ _ s t g)

  pub settle-grown : Grown s (settle n has s).state
  settle-grown = settle-keeps n has (Grown s) grown-peel grown-tell s (grown-refl s)

pub calls-grown : (w : Switch) (l : List Call) (s : Session) → Grown s (calls w l s)
calls-grown w l s = calls-keep w (Grown s) (grown-peel w.size w.has s) (grown-tell w.size w.has s)
    (λ x t a g. grown-take w.has true x s t g) l s (grown-refl s)

-- ---- a list handed over without growth and without an answer 12
hand-longer : (w : Switch) (x : Key) (s : Session) → eqb (hand_answer w x s) 0 ≡ true → length (hand_over w x s).list ≡ length s.list + 1
unfolding hand_over take_out
hand-longer w x s e = rw e (simp length-append)

hand-kept : (w : Switch) (x : Key) (s : Session) → eqb (hand_answer w x s) 0 ≡ false → hand_over w x s ≡ s
unfolding hand_over
hand-kept w x s e = rw e

pub record Passed (w : Switch) (l : List Key) (s : Session) : Type 0 where
  pub kept : hand_all w l s ≡ s
  pub answers : (x : Key) → among x l ≡ true → (eqb (hand_answer w x s) 0 ≡ false) × (eqb (hand_answer w x s) 12 ≡ false)

pub passed : (w : Switch) (l : List Key) (s : Session) → length (hand_all w l s).list ≡ length s.list → twelves_in w l s ≡ 0 → Passed w l s
unfolding calls call hand_each twelves_in
passed w [] s e z = record { kept = refl; answers = λ x m. among_none x m }
passed w (x ∷ l) s e z = elim (split (eqb (hand_answer w x s) 0)) [
  | inl t ↦
      let s₁ = hand_over w x s in
      absurd (omega (arith, e, hand-longer w x s t, grown-length s₁ (hand_all w l s₁) (calls-grown w (hand_each l) s₁)))
  | inr t ↦
      let same = hand-kept w x s t in
      let ih = passed w l s (ap (λ q. length (hand_all w l q).list) (sym same) ∙ e)
      (ap (twelves_in w l) (sym same) ∙ omega (arith, z)) in
      record {
        kept = ap (hand_all w l) same ∙ ih.kept;
        answers = λ y m. elim (among_cases y x l m) [
          | inl q ↦ rw q (t, elim (split (eqb (hand_answer w x s) 12)) [ inl u ↦ absurd (let h = rw u at z in omega arith) | inr u ↦ u ])
          | inr q ↦ ih.answers y q
        ];
      }
]
