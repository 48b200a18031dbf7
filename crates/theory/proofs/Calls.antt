-- Sequences of calls on a session of a flowset: they are runs with room, if every flow handed over was counted here.
use mathlib.Core.Path.{◌≡◌, sym, ap, ◌∙◌}
use mathlib.Core.Logic.{inl, inr}
use mathlib.Core.Bool.{true, false, ◌||◌, or_assoc}
use mathlib.Core.List.{List, [], ◌∷◌}
use Prim.Native.Nat.{◌+◌, ◌≤◌}
use native.Mathlib.Omega.{arith}
use lib.ListN.{length}
use lib.Dec.{eqb}
use Rattle.laws.proofs.Bools.{split, or-f}
use Rattle.theory.specs.Encode.{Key, same_key, among, Distinct, Placement}
use Rattle.theory.specs.Session.{Session, handed_of, listed, handed_over, take_out, settled}
use Rattle.theory.specs.HandOver.{Switch, hand_answer, hand_over, Call, hand, settling, call, calls, settle_at}
use Rattle.theory.specs.Runs.{handed, Going, AtRest}
use Rattle.theory.specs.Invariant.{Counted, Holds}
use Rattle.theory.specs.Demands.{HandedCounted, take_all_out}
use Rattle.theory.proofs.Flow.{among-here, among_there, among-other}
use Rattle.theory.proofs.Records.{listed-take, handed-take, handed-more}
use Rattle.theory.proofs.Runs.{run-invariant}
use Rattle.theory.proofs.Settle.{settle-clean}
use Rattle.theory.proofs.HandOver.{accepts, out-fits, hand-fits, hand-marks, handed-stays}

module _ (w : Switch) (e : Counted w) (s₀ : Session) (i₀ : Holds w e s₀) where
  -- a run from s₀ with room
  abbrev pub Goes : Session → Type 0
  Goes = Going w e.flows s₀

  pub goes-holds : {s : Session} → Goes s → Holds w e s
  goes-holds g = run-invariant w e s₀ i₀ g.run

  pub settle_goes : (s : Session) → Goes s → Goes (settle_at w s).state
      × ((settle_at w s).stop ≡ settled) × AtRest w.size w.has (settle_at w s).state
  settle_goes = settle-clean w e s₀ i₀

  pub hand-goes : (x : Key) (s : Session) → Goes s → (eqb (hand_answer w x s) 0 ≡ true → among x e.flows ≡ true) → Goes (hand_over w x s)
  unfolding hand_over
  hand-goes x s g mine = elim (split (eqb (hand_answer w x s) 0)) [
    | inr z ↦ rw z g
    | inl z ↦
        let a = accepts w x s z in
        rw z (record { run = handed x g.run (mine z) a.unlisted; fits = hand-fits w x s a g.fits })
  ]

  pub calls-go : (l : List Call) (s : Session) → Goes s → HandedCounted e.flows (calls w l s) → Goes (calls w l s)
  unfolding calls call
  calls-go [] s g ours = g
  calls-go (settling ∷ l) s g ours = calls-go l (settle_at w s).state (settle_goes s g).0 ours
  calls-go (hand x ∷ l) s g ours =
      calls-go l (hand_over w x s) (hand-goes x s g (λ z. ours x (handed-stays w l x (hand_over w x s) (hand-marks w x s z)))) ours

  -- ---- flows taken out in order, as the reference does
  pub all_go : (xs : List Key) (s : Session) → Goes s → Distinct xs
      → ((k : Key) → among k xs ≡ true → (among k e.flows ≡ true) × (listed s k ≡ false))
      → length (handed_of s.list) + length xs ≤ w.size → Goes (take_all_out w.has xs s)
  unfolding take_all_out Distinct
  all_go [] s g d h r = g
  all_go (x ∷ xs) s g d h r =
      let a = h x (among-here x xs) in
      let t = take_out w.has true x s in
      all_go xs t
      (record { run = handed x g.run a.0 a.1; fits = out-fits w x s (omega arith) g.fits }) d.1
      (λ j m. let b = h j (among_there j x xs m) in
      (b.0, listed-take w.has s x true j ∙ rw b.1 (among-other j x xs m d.0)))
      (omega (arith, handed-more w.has s x))

pub all-handed : (has : Placement) (xs : List Key) (s : Session) (k : Key) → handed_over (take_all_out has xs s) k ≡ (handed_over s k || among k xs)
unfolding take_all_out among
all-handed has [] s k = sym (or-f (handed_over s k))
all-handed has (x ∷ xs) s k =
    all-handed has xs (take_out has true x s) k
    ∙ ap (λ b. b || among k xs) (handed-take has s x k) ∙ or_assoc (handed_over s k) (same_key k x) (among k xs)
