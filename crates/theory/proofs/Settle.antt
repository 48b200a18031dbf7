-- Settling any session ends where no step is left or where a step stops it, and is never out of room; on a flowset's table it meets no damage.
use mathlib.Core.Path.{◌≡◌, refl, ap, ◌∙◌}
use mathlib.Core.Logic.{inl, inr}
use mathlib.Core.Bool.{true, false, ◌&&◌}
use Prim.Native.Nat.{ℕ, ◌*◌, ◌<◌}
use native.Mathlib.Nat.{le_refl}
use native.Mathlib.Omega.{arith}
use lib.ListN.{length}
use lib.Dec.{eqb, ltb}
use Rattle.laws.proofs.Bools.{split, clash, ne-is}
use Rattle.laws.proofs.Upto.{any-no, any_none}
use Rattle.theory.specs.Encode.{Key, among, Placement}
use Rattle.theory.specs.Session.{Session, unknowns_of, handed_of, listed, pure, ready, the_unknown, has_empty_cell, open_cells, quiet, damaged, next, Stop, settled, damage, repeat, peel_damaged, peel_pure, peel, count_damaged, count_step, peels, counts, then_counts, settle}
use Rattle.theory.specs.Fits.{Fits}
use Rattle.theory.specs.HandOver.{Switch}
use Rattle.theory.specs.Thirteen.{meets13, Never13}
use Rattle.theory.specs.Invariant.{Counted, Holds}
use Rattle.theory.specs.Runs.{Run, peeled, told, Going, AtRest}
use Rattle.theory.proofs.Records.{handed-peel, handed-count}
use Rattle.theory.proofs.Outside.{outside-not}
use Rattle.theory.proofs.Invariant.{count-within}
use Rattle.theory.proofs.Single.{pure-only, ready-only, ready-unknown, ready-count, unlisted-open}
use Rattle.theory.proofs.Runs.{run-invariant}
use Rattle.theory.proofs.Repeat.{step_of, repeat-keeps, repeat-ends, repeat-still}
use Rattle.theory.proofs.Steps.{pure-count, peel-next, peel-quiet, peel-falls, peel-idle, peel-fits, count_next, count-quiet, count-falls}
use Rattle.theory.proofs.Steps.{count-idle, count_fits, peel-room, peel-damaged, count-damaged}
use Rattle.laws.specs.Upto.{any_upto, lowest}
use borrow.Author.Tests.{le-ltb, lt-leb}
use Rattle.laws.proofs.Lowest.{lowest-hit, number-max}

-- where settling ends: at a peel that is answered with 14, or where no cell is pure at a count step, or with no cell ready
pub data EndsAt (n : ℕ) (has : Placement) (s : Session) : Stop → Type 0 where
  peeling-damaged : (c : ℕ) → peel_pure n has s ≡ damaged c → EndsAt n has s (damage c)
  after-peeling : (stop : Stop) → peel_pure n has s ≡ quiet → count_step n has s ≡ step_of stop → EndsAt n has s stop

-- ---- on any session
module _ (n : ℕ) (has : Placement) where
  pub peels-end : (s : Session) → peel_pure n has (peels n has s).state ≡ step_of (peels n has s).stop
  peels-end s = repeat-ends (peel_pure n has) (λ t. open_cells n t.cells) (peel-falls n has) (peel-idle n has) n s
      (unfold open_cells in number-max n (λ c. ltb 0 (s.cells c).flow_count))

  pub counts_end : (s : Session) → count_step n has (counts n has s).state ≡ step_of (counts n has s).stop
  counts_end s = repeat-ends (count_step n has) (λ t. length (unknowns_of t.list)) (count-falls n has) (count-idle n has)
      (length (unknowns_of s.list)) s (le_refl _)

  abbrev NonePure : Session → Type 0
  NonePure s = (c : ℕ) → c < n → pure has s.cells c ≡ false

  none-pure-kept : (s t : Session) → NonePure s → count_step n has s ≡ next t → NonePure t
  none-pure-kept s t q e c l = rw (count_next n has s t e).result (pure-count has s _ _ c ∙ q c l)

  then-rests : (s : Session) (stop : Stop) → peel_pure n has s ≡ step_of stop → (then_counts n has s stop).stop ≡ settled
      → AtRest n has (then_counts n has s stop).state
  unfolding then_counts
  then-rests s settled e z = record {
    none-pure = repeat-keeps (count_step n has) NonePure none-pure-kept (length (unknowns_of s.list)) s
        (any_none n (pure has s.cells) (peel-quiet n has (pure has s.cells) s e));
    none-ready = any_none n (ready has (counts n has s).state) (count-quiet n has (counts n has s).state (counts_end s ∙ ap step_of z));
  }
  then-rests s (damage c) e z = absurd (let w : ◌≡◌ {A = ℕ} 0 1 = cc in omega arith)

  -- Theorem: settling that answers 0 leaves no cell pure and none ready
  pub settled-rests : (s : Session) → (settle n has s).stop ≡ settled → AtRest n has (settle n has s).state
  unfolding settle
  settled-rests s = then-rests (peels n has s).state (peels n has s).stop (peels-end s)

  -- ---- settling again
  peels-still : (s : Session) (stop : Stop) → peel_pure n has s ≡ step_of stop → peels n has s ≡ record { state = s; stop = stop }
  peels-still s = repeat-still (peel_pure n has) (λ t. open_cells n t.cells) (peel-falls n has) (peel-idle n has) n s
      (unfold open_cells in number-max n (λ c. ltb 0 (s.cells c).flow_count))

  counts-still : (s : Session) (stop : Stop) → count_step n has s ≡ step_of stop → counts n has s ≡ record { state = s; stop = stop }
  counts-still s = repeat-still (count_step n has) (λ t. length (unknowns_of t.list)) (count-falls n has) (count-idle n has)
      (length (unknowns_of s.list)) s (le_refl _)

  -- where counts were worked out, no cell is pure still
  counts-quiet : (s : Session) → peel_pure n has s ≡ quiet → peel_pure n has (counts n has s).state ≡ quiet
  unfolding peel
  counts-quiet s e =
      let t = (counts n has s).state in
      rw (any-no n (pure has t.cells) (repeat-keeps (count_step n has) NonePure none-pure-kept (length (unknowns_of s.list)) s
      (any_none n (pure has s.cells) (peel-quiet n has (pure has s.cells) s e))))

  then-ends : (s : Session) (stop : Stop) → peel_pure n has s ≡ step_of stop → EndsAt n has (then_counts n has s stop).state (then_counts n has s stop).stop
  unfolding then_counts
  then-ends s settled e = after-peeling (counts n has s).stop (counts-quiet s e) (counts_end s)
  then-ends s (damage c) e = peeling-damaged c e

  -- Theorem: where a settling ends, the next step stops it the same way
  pub settle-ends : (s : Session) → EndsAt n has (settle n has s).state (settle n has s).stop
  unfolding settle
  settle-ends s = then-ends (peels n has s).state (peels n has s).stop (peels-end s)

  ends-still : (s : Session) (stop : Stop) → EndsAt n has s stop → settle n has s ≡ record { state = s; stop = stop }
  unfolding settle then_counts
  ends-still s stop (after-peeling _ p c) = rw (peels-still s settled p) (counts-still s stop c)
  ends-still s stop (peeling-damaged c e) = rw (peels-still s (damage c) e)

  -- Theorem: settling what a settling left changes nothing and answers the same, 14 with its cell too; whatever the cells hold
  pub settle-again : (s : Session) → settle n has (settle n has s).state ≡ settle n has s
  settle-again s = ends-still (settle n has s).state (settle n has s).stop (settle-ends s)

  -- ---- what each step keeps, settling keeps
  module _ (I : Session → Type 0) (peel-kept : (s t : Session) → I s → peel_pure n has s ≡ next t → I t)
      (count_kept : (s t : Session) → I s → count_step n has s ≡ next t → I t) where
    pub peels-keep : (s : Session) → I s → I (peels n has s).state
    peels-keep s = repeat-keeps (peel_pure n has) I peel-kept n s

    pub counts-keep : (s : Session) → I s → I (counts n has s).state
    counts-keep s = repeat-keeps (count_step n has) I count_kept (length (unknowns_of s.list)) s

    then_keeps : (s : Session) (stop : Stop) → I s → I (then_counts n has s stop).state
    unfolding then_counts
    then_keeps s settled i = counts-keep s i
    then_keeps s (damage c) i = i

    pub settle-keeps : (s : Session) → I s → I (settle n has s).state
    unfolding settle
    settle-keeps s i = then_keeps (peels n has s).state (peels n has s).stop (peels-keep s i)

    -- where no step from such a session stops it, settling answers 0
    module _ (peel-goes : (s : Session) → I s → (stop : Stop) → peel_pure n has s ≡ step_of stop → stop ≡ settled)
        (count-goes : (s : Session) → I s → (stop : Stop) → count_step n has s ≡ step_of stop → stop ≡ settled) where
      pub settle_goes : (s : Session) → I s → (settle n has s).stop ≡ settled
      unfolding settle then_counts
      settle_goes s i =
          let t = (peels n has s).state in
          let j = peels-keep s i in
          rw (peel-goes t j (peels n has s).stop (peels-end s))
          (count-goes (counts n has t).state (counts-keep t j) (counts n has t).stop (counts_end t))

  pub settle-fits : (s : Session) → Fits n s → Fits n (settle n has s).state
  settle-fits = settle-keeps (Fits n) (peel-fits n has) (count_fits n has)

  -- settling hands nothing over
  pub settle-handed : (s : Session) → handed_of (settle n has s).state.list ≡ handed_of s.list
  settle-handed s = settle-keeps (λ t. handed_of t.list ≡ handed_of s.list)
      (λ t u h e. rw (peel-next n has (pure has t.cells) t u e).result (handed-peel has t _ ∙ h))
      (λ t u h e. rw (count_next n has t u e).result (handed-count has t _ _ ∙ h)) s refl

-- Theorem: a session with the room that the test of 8 asks for never meets 13, whatever its cells hold
pub never-13 : (w : Switch) (s : Session) → Fits w.size s → Never13 w s
unfolding meets13
never-13 w s f m =
    let n = w.size in
    let t = (repeat (peel_pure n w.has) m s).state in
    let g : Fits n t = repeat-keeps (peel_pure n w.has) (Fits n) (peel-fits n w.has) m s f in
    elim (split (any_upto n (pure w.has t.cells))) [
      | inr a ↦ rw a
      | inl a ↦ rw (a, lt-leb (2 * n) (length t.list) (peel-room n w.has t g a))
    ]

-- ---- on the table of a flowset
module _ (w : Switch) (e : Counted w) (s₀ : Session) (i₀ : Holds w e s₀) where
  open w use {has, size as n}
  open e use {flows as F, flowset as fs}

  -- a flow that is not listed has no empty cell
  pub none-empty : (s : Session) → Holds w e s → (x : Key) → among x F ≡ true → listed s x ≡ false
      → has_empty_cell n has s.cells x ≡ false
  unfolding has_empty_cell
  none-empty s i x m l = any-no n (λ j. has x j && eqb (s.cells j).flow_count 0) (λ j h. elim (split (has x j)) [
    | inr b ↦ rw b
    | inl b ↦ rw b (ne-is 0 (s.cells j).flow_count (unlisted-open w e s i j x m l b))
  ])

  -- a run with room
  abbrev Goes : Session → Type 0
  Goes = Going w F s₀

  module _ (s : Session) (r : Run has F s₀ s) (c : ℕ) where
    abbrev i : Holds w e s
    i = run-invariant w e s₀ i₀ r

    -- a pure cell's key is not listed, and no cell of it is empty
    pub peel-sound : pure has s.cells c ≡ true → peel_damaged n has s (s.cells c).flow_xor ≡ false
    unfolding peel_damaged
    peel-sound p =
        let x = (s.cells c).flow_xor in
        let o = pure-only w e s i c p in
        let l = outside-not has (listed s) c x o.chosen in
        rw l (none-empty s i x o.member l)

    -- a ready cell's count is positive, and within PacketCount of the flow's cells
    pub count-sound : ready has s c ≡ true → count_damaged n has s (the_unknown has s.list c) (s.cells c).packet_count ≡ false
    unfolding count_damaged
    count-sound p =
        let x = the_unknown has s.list c in
        let v = ready-count w e s i c p in
        let u = ready-unknown w e s i c p in
        let m = (ready-only w e s i c p).member in
        rw (
          ne-is 0 (s.cells c).packet_count (omega (arith, v, fs.some-packet x m)),
          any-no n (λ j. has x j && ltb (s.cells j).packet_count (s.cells c).packet_count) (λ j h. elim (split (has x j)) [
            | inr b ↦ rw b
            | inl b ↦ rw b (le-ltb (s.cells j).packet_count (s.cells c).packet_count (omega (arith, v, count-within w e s i x u j b)))
          ]),
        )

  peel-going : (s t : Session) → Goes s → peel_pure n has s ≡ next t → Goes t
  peel-going s t g e =
      let p = peel-next n has (pure has s.cells) s t e in
      let c = lowest n (pure has s.cells) in
      record {
        run = rw p.result (peeled c g.run (lowest-hit n (pure has s.cells) p.marked));
        fits = peel-fits n has s t g.fits e;
      }

  count-going : (s t : Session) → Goes s → count_step n has s ≡ next t → Goes t
  count-going s t g e =
      let p = count_next n has s t e in
      let c = lowest n (ready has s) in
      record {
        run = rw p.result (told c g.run (lowest-hit n (ready has s) p.is-ready));
        fits = count_fits n has s t g.fits e;
      }

  peel-goes : (s : Session) → Goes s → (stop : Stop) → peel_pure n has s ≡ step_of stop → stop ≡ settled
  peel-goes s g settled e = refl
  peel-goes s g (damage c) e =
      let p = peel-damaged n has (pure has s.cells) s c e in
      clash p.1 (peel-sound s g.run (lowest n (pure has s.cells)) (lowest-hit n (pure has s.cells) p.0))

  count-goes : (s : Session) → Goes s → (stop : Stop) → count_step n has s ≡ step_of stop → stop ≡ settled
  count-goes s g settled e = refl
  count-goes s g (damage c) e =
      let p = count-damaged n has s c e in
      clash p.1 (count-sound s g.run (lowest n (ready has s)) (lowest-hit n (ready has s) p.0))

  -- Theorem: settling a run answers 0, is a run, and ends at rest
  pub settle-clean : (s : Session) → Goes s → Goes (settle n has s).state × ((settle n has s).stop ≡ settled) × AtRest n has (settle n has s).state
  settle-clean s g =
      let z = settle_goes n has Goes peel-going count-going peel-goes count-goes s g in
      (settle-keeps n has Goes peel-going count-going s g, z, settled-rests n has s z)
