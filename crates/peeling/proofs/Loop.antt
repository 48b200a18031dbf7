-- Peeling step after step, as the loop goes.
use mathlib.Core.Path.{◌≡◌, sym, ap, subst, ◌∙◌}
use mathlib.Core.List.{List}
use Prim.Native.Nat.{ℕ, zero, suc, ◌+◌, ◌-◌, ◌*◌, ◌<◌}
use native.Mathlib.Omega.{arith}
use Rattle.layout.specs.declared.Layout.{Layout}
use Rattle.layout.specs.declared.Sizes.{Sizes}
use Rattle.layout.specs.Sizes.{table_cells}
use Rattle.list.specs.Records.{Records}
use Rattle.table.specs.Table.{Tab, Bounded}
use Rattle.peeling.specs.Peel.{Fits, Steady, Step, Stop, Peeled, peeled, peel_of, Ended, ended, damage, after_peel, peels_upto, peels_of, listed_at}
use mathlib.Core.Bool.{true, false}
use Rattle.std.proofs.Common.{Ok, Err}
use Rattle.peeling.proofs.Answers.{listed_after, fits-step, has_room, bounded-step}

-- m flows are listed, and peeling goes on from here as it does from the start
pub record Going (l : Layout) (z : Sizes) (salt m : ℕ) (t : Tab) (rs : Records) (seen : List ℕ) (end : Ended) : Type 0 where
  pub steady : Steady l z salt m t rs seen
  pub goes : peels_of l z salt m t rs seen ≡ end

module _ {l : Layout} {z : Sizes} {salt m : ℕ} {t : Tab} {rs : Records} {seen : List ℕ} {end : Ended} (g : Going l z salt m t rs seen end)
    {s : Step} {t' : Tab} {rs' : Records} {seen' : List ℕ} (p : peeled s t' rs' seen' ≡ peel_of l z salt m t rs seen) where
  -- what follows the step
  follows : after_peel (peels_upto (2 * table_cells l z - m) l z salt (m + 1)) m s t' rs' seen' ≡ end
  unfolding peels_of peels_upto
  follows =
      ap (λ (x : Peeled). after_peel (peels_upto (2 * table_cells l z - m) l z salt (m + 1)) m x.answer x.table x.list x.seen) p ∙ g.goes

  step_fits : Fits l z salt (listed_after m s) t' rs' seen'
  step_fits =
      subst (λ (x : Peeled). Fits l z salt (listed_after m x.answer) x.table x.list x.seen) (sym p)
      (fits-step l z salt m t rs seen g.steady.fits (has_room l z salt m t rs seen g.steady.fits g.steady.bounded))

  step-bounded : Bounded l z salt (listed_after m s) t' rs'
  step-bounded =
      subst (λ (x : Peeled). Bounded l z salt (listed_after m x.answer) x.table x.list) (sym p)
      (bounded-step l z salt m t rs seen g.steady.fits g.steady.bounded)

  next_fits : s ≡ Ok true → Fits l z salt (m + 1) t' rs' seen'
  next_fits e = (rw e at step_fits)

  pub going-room : s ≡ Ok true → m < 2 * table_cells l z
  going-room e = let f = next_fits e in omega (arith, f.listed)

  pub going_on : s ≡ Ok true → Going l z salt (m + 1) t' rs' seen' end
  unfolding peels_of after_peel
  going_on e =
      let left : 2 * table_cells l z - m ≡ suc (2 * table_cells l z - (m + 1)) = (let h = going-room e in omega arith) in
      record { steady = record { fits = next_fits e; bounded = (rw e at step-bounded) }; goes = (rw (e, left) at follows) }

  -- a step that is not a peel ends it
  pub going-quiet : s ≡ Ok false → ended (Ok m) t' rs' seen' ≡ end
  unfolding after_peel
  going-quiet e = (rw e at follows)

  pub going-damaged : {c : ℕ} → s ≡ Err c → ended (Err (damage m c)) t' rs' seen' ≡ end
  unfolding after_peel
  going-damaged e = (rw e at follows)

-- ---- what fits, and is bounded, is so where peeling ended
abbrev SteadyAt : Layout → Sizes → ℕ → Ended → Type 0
SteadyAt l z salt e = Steady l z salt (listed_at e.answer) e.table e.list e.seen

after-keeps : (l : Layout) (z : Sizes) (salt : ℕ) (more : Tab → Records → List ℕ → Ended) (m : ℕ)
    → ((t : Tab) (rs : Records) (seen : List ℕ) → Steady l z salt (m + 1) t rs seen → SteadyAt l z salt (more t rs seen))
    → (s : Step) (t : Tab) (rs : Records) (seen : List ℕ) → Steady l z salt (listed_after m s) t rs seen → SteadyAt l z salt (after_peel more m s t rs seen)
unfolding after_peel
after-keeps l z salt more m h (Ok true) t rs seen f = h t rs seen f
after-keeps l z salt more m h (Ok false) t rs seen f = f
after-keeps l z salt more m h (Err c) t rs seen f = f

upto-keeps : (k : ℕ) (l : Layout) (z : Sizes) (salt m : ℕ) (t : Tab) (rs : Records) (seen : List ℕ) → Steady l z salt m t rs seen
    → SteadyAt l z salt (peels_upto k l z salt m t rs seen)
unfolding peels_upto
upto-keeps zero l z salt m t rs seen h = h
upto-keeps (suc k) l z salt m t rs seen h =
    let p = peel_of l z salt m t rs seen in
    after-keeps l z salt (peels_upto k l z salt (m + 1)) m (upto-keeps k l z salt (m + 1)) p.answer p.table p.list p.seen (record {
      fits = fits-step l z salt m t rs seen h.fits (has_room l z salt m t rs seen h.fits h.bounded);
      bounded = bounded-step l z salt m t rs seen h.fits h.bounded;
    })

pub ended-keeps : (l : Layout) (z : Sizes) (salt n : ℕ) (t : Tab) (rs : Records) (seen : List ℕ) {r : Stop} {t' : Tab} {rs' : Records} {seen' : List ℕ}
    → Steady l z salt n t rs seen → ended r t' rs' seen' ≡ peels_of l z salt n t rs seen → Steady l z salt (listed_at r) t' rs' seen'
unfolding peels_of
ended-keeps l z salt n t rs seen h e =
    subst (SteadyAt l z salt) (sym e) (upto-keeps (suc (2 * table_cells l z - n)) l z salt n t rs seen h)
