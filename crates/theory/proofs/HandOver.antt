-- Hand-overs and sequences of calls: what an accepted key is, and what every call keeps.
use mathlib.Core.Path.{◌≡◌, refl, sym, ap, ◌∙◌}
use mathlib.Core.Logic.{inl, inr}
use mathlib.Core.Bool.{true, false}
use mathlib.Core.List.{List, [], ◌∷◌, ◌++◌, append-nil, append_assoc}
use Prim.Native.Nat.{◌+◌, ◌<◌}
use native.Mathlib.Omega.{arith}
use lib.ListN.{length}
use lib.Dec.{eqb, leb}
use Rattle.laws.proofs.Bools.{split, clash, or_l, or_r}
use Rattle.theory.specs.Encode.{Key, same_key}
use Rattle.theory.specs.Session.{Session, pure, handed_of, listed, handed_over, has_empty_cell, take_out, next, peel_pure, count_step}
use Rattle.theory.specs.HandOver.{Switch, hand_answer, hand_over, settle_at, Call, hand, settling, call, calls, accepted}
use Rattle.theory.specs.Fits.{Fits}
use Rattle.theory.proofs.Flow.{same_refl}
use Rattle.theory.proofs.Records.{peeled-hand, handed-take, handed_out, handed-more, handed-peel, handed-count}
use Rattle.theory.proofs.Steps.{open-take, peel-next, peel-fits, count_next, count_fits}
use Rattle.theory.proofs.Settle.{settle-keeps, settle-handed}
use borrow.Author.Tests.{leb-false, lt-leb, le-leb}

-- the key is accepted
pub record Accepts (w : Switch) (x : Key) (s : Session) : Type 0 where
  pub filtered : w.passes x ≡ true
  pub unlisted : listed s x ≡ false
  pub no-empty : has_empty_cell w.size w.has s.cells x ≡ false
  pub room : length (handed_of s.list) < w.size

pub accepts : (w : Switch) (x : Key) (s : Session) → eqb (hand_answer w x s) 0 ≡ true → Accepts w x s
unfolding hand_answer
accepts w x s e = elim (split (w.passes x)) [
  | inr a ↦ clash (rw a at e) refl
  | inl a ↦ elim (split (listed s x)) [
    | inl b ↦ clash (rw (a, b) at e) refl
    | inr b ↦ elim (split (has_empty_cell w.size w.has s.cells x)) [
      | inl c ↦ clash (rw (a, b, c) at e) refl
      | inr c ↦ elim (split (leb w.size (length (handed_of s.list)))) [
        | inl d ↦ clash (rw (a, b, c, d) at e) refl
        | inr d ↦ record { filtered = a; unlisted = b; no-empty = c; room = leb-false w.size (length (handed_of s.list)) d }
      ]
    ]
  ]
]

pub hand-taken : (w : Switch) (x : Key) (s : Session) → hand_answer w x s ≡ 0 → hand_over w x s ≡ take_out w.has true x s
unfolding hand_over
hand-taken w x s e = rw e

-- Theorem: 01 'Both sides of each edge': "Hand-over N succeeds, N + 1 is 12", of a key that 9, 10 and 11 let pass
pub hand-edge : (w : Switch) (x : Key) (s : Session) → w.passes x ≡ true → listed s x ≡ false → has_empty_cell w.size w.has s.cells x ≡ false
    → (length (handed_of s.list) + 1 ≡ w.size → hand_answer w x s ≡ 0) × (length (handed_of s.list) ≡ w.size → hand_answer w x s ≡ 12)
unfolding hand_answer
hand-edge w x s p l c = (
  λ e. rw (p, l, c, lt-leb w.size (length (handed_of s.list)) (omega arith)),
  λ e. rw (p, l, c, le-leb w.size (length (handed_of s.list)) (omega arith)),
)

pub out-fits : (w : Switch) (x : Key) (s : Session) → length (handed_of s.list) < w.size → Fits w.size s
    → Fits w.size (take_out w.has true x s)
out-fits w x s room f = record {
  handed-room = omega (arith, handed-more w.has s x, room);
  peeled-room = rw (peeled-hand w.has s x) (omega (arith, f.peeled-room, open-take w.size w.has s x true));
}

pub hand-fits : (w : Switch) (x : Key) (s : Session) → Accepts w x s → Fits w.size s → Fits w.size (take_out w.has true x s)
hand-fits w x s a = out-fits w x s a.room

-- ---- what each accepted hand-over and each step keeps, calls keep
module _ (w : Switch) (I : Session → Type 0)
    (peel-kept : (s t : Session) → I s → peel_pure w.size w.has s ≡ next t → I t)
    (count_kept : (s t : Session) → I s → count_step w.size w.has s ≡ next t → I t) where
  module _ (hand-kept : (x : Key) (s : Session) → Accepts w x s → I s → I (take_out w.has true x s)) where
    pub hand-keeps : (x : Key) (s : Session) → I s → I (hand_over w x s)
    unfolding hand_over
    hand-keeps x s i = elim (split (eqb (hand_answer w x s) 0)) [
      | inl e ↦ rw e (hand-kept x s (accepts w x s e) i)
      | inr e ↦ rw e i
    ]

    pub call-keeps : (a : Call) (s : Session) → I s → I (call w a s)
    unfolding call
    call-keeps (hand x) s i = hand-keeps x s i
    call-keeps settling s i = settle-keeps w.size w.has I peel-kept count_kept s i

    pub calls-keep : (l : List Call) (s : Session) → I s → I (calls w l s)
    unfolding calls
    calls-keep [] s i = i
    calls-keep (a ∷ l) s i = calls-keep l (call w a s) (call-keeps a s i)

-- calls after calls
pub calls-append : (w : Switch) (l m : List Call) (s : Session) → calls w (l ++ m) s ≡ calls w m (calls w l s)
unfolding calls
calls-append w [] m s = refl
calls-append w (a ∷ l) m s = calls-append w l m (call w a s)

module _ (w : Switch) where
  pub calls-fit : (l : List Call) (s : Session) → Fits w.size s → Fits w.size (calls w l s)
  calls-fit = calls-keep w (Fits w.size) (peel-fits w.size w.has) (count_fits w.size w.has) (hand-fits w)

  -- what was handed over stays handed over
  pub handed-stays : (l : List Call) (k : Key) (s : Session) → handed_over s k ≡ true → handed_over (calls w l s) k ≡ true
  handed-stays l k = calls-keep w (λ s. handed_over s k ≡ true)
      (λ s t h e. rw ((peel-next w.size w.has (pure w.has s.cells) s t e).result, handed-peel w.has s _) h)
      (λ s t h e. rw ((count_next w.size w.has s t e).result, handed-count w.has s _ _) h)
      (λ x s a h. handed-take w.has s x k ∙ or_l (handed_over s k) (same_key k x) h) l

  -- an accepted key is handed over
  pub hand-marks : (x : Key) (s : Session) → eqb (hand_answer w x s) 0 ≡ true → handed_over (hand_over w x s) x ≡ true
  unfolding hand_over
  hand-marks x s e = rw e (handed-take w.has s x x ∙ or_r (handed_over s x) (same_key x x) (same_refl x))

  -- Theorem: the flows handed over are those that were, and then the keys of the calls that were answered 0, in order
  pub accepted-handed : (l : List Call) (s : Session) → handed_of (calls w l s).list ≡ handed_of s.list ++ accepted w l s
  unfolding calls call accepted
  accepted-handed [] s = sym (append-nil (handed_of s.list))
  accepted-handed (settling ∷ l) s =
      let t = (settle_at w s).state in
      accepted-handed l t ∙ ap (λ h. h ++ accepted w l t) (settle-handed w.size w.has s)
  accepted-handed (hand x ∷ l) s = accepted-handed l (hand_over w x s) ∙ unfold hand_over in elim (split (eqb (hand_answer w x s) 0)) [
    | inr z ↦ rw z
    | inl z ↦ rw z (ap (λ h. h ++ accepted w l (take_out w.has true x s)) (handed_out w.has s x)
        ∙ append_assoc (handed_of s.list) (x ∷ []) (accepted w l (take_out w.has true x s)))
  ]
