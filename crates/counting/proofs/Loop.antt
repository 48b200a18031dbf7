-- Counting step after step, as the loop goes.
use mathlib.Core.Path.{◌≡◌, refl, sym, ap, subst, ◌∙◌}
use mathlib.Core.Bool.{true, false}
use mathlib.Core.List.{List}
use Rattle.std.specs.Prelude.{Ok, Err}
use mathlib.Core.Logic.{inl, inr}
use Prim.Native.Nat.{ℕ, zero, suc, ◌+◌, ◌*◌, ◌≤◌}
use native.Mathlib.Numerals.{add-one}
use native.Mathlib.Omega.{arith}
use lib.Dec.{ltb}
use lib.ListN.{length, get_or, replicate}
use Rattle.laws.proofs.Bools.{split}
use Rattle.layout.specs.declared.Layout.{Layout}
use Rattle.layout.specs.declared.Sizes.{Sizes}
use Rattle.layout.specs.Sizes.{table_cells}
use Rattle.list.specs.Records.{Records, Room, is_handed}
use Rattle.list.proofs.Laws.{handed-still}
use Rattle.marks.specs.Marks.{first_mark}
use Rattle.counting.specs.Book.{Book, book, ready_upto}
use Rattle.counting.specs.Count.{Fits, Counted, counted, count_damaged, count_at, count_of, Ended, ended, stop_at, ended_at, after_count, counts_upto, counts_of, Step, Stop}
use Rattle.counting.proofs.Book.{length-upto}
use Rattle.counting.proofs.Answers.{fits-step}

-- at most m steps are left, and counting goes on from here as it does from the start
pub record Going (l : Layout) (z : Sizes) (salt n : ℕ) (flows : List ℕ) (m : ℕ) (b : Book) (rs : Records) (end : Ended) : Type 0 where
  pub fits : Fits l z n flows b rs
  pub goes : counts_upto m l z salt n flows b rs ≡ end

-- with the ready cells found
pub going : (l : Layout) (z : Sizes) (salt n : ℕ) (flows packets unknowns positions : List ℕ) (rs : Records) {cells m : ℕ} {b : Book}
    → Fits l z n flows (book packets unknowns positions (replicate 24 0)) rs → cells ≡ table_cells l z
    → b ≡ book packets unknowns positions (ready_upto flows unknowns cells) → m ≡ n
    → Going l z salt n flows m b rs (counts_of l z salt n flows packets unknowns positions rs)
unfolding counts_of
going l z salt n flows packets unknowns positions rs {cells} f s e q = rw (e, q) (record {
  fits = record {
    lays = f.lays;
    ranged = f.ranged;
    listed = f.listed;
    room = f.room;
    cells = record {
      few = f.cells.few;
      flows-fit = f.cells.flows-fit;
      packets-fit = f.cells.packets-fit;
      unknowns-fit = f.cells.unknowns-fit;
      positions-fit = f.cells.positions-fit;
      ready-fit = length-upto flows unknowns cells;
    };
  };
  goes = ap (λ c. counts_upto n l z salt n flows (book packets unknowns positions (ready_upto flows unknowns c)) rs) s;
})

-- a step that is not a count ends it
stops : (more : Book → Records → Ended) (s : Step) (b : Book) (rs : Records) → (s ≡ Ok true → ⊥)
    → ended_at s b rs ≡ after_count more s b rs
unfolding after_count
stops more (Ok false) b rs h = refl
stops more (Err c) b rs h = refl
stops more (Ok true) b rs h = absurd (h refl)

-- the two steps that end it
pub quiet-is : {s : Step} → s ≡ Ok false → (s ≡ Ok true → ⊥) × (Ok tt ≡ stop_at s)
quiet-is e = (λ h. absurd (cc), rw e refl)

pub damaged-is : {s : Step} {c : ℕ} → s ≡ Err c → (s ≡ Ok true → ⊥) × (Err c ≡ stop_at s)
damaged-is e = (λ h. absurd (cc), rw e refl)

pub going_done : {l : Layout} {z : Sizes} {salt n : ℕ} {flows : List ℕ} {m : ℕ} {b : Book} {rs : Records} {end : Ended}
    → Going l z salt n flows m b rs end → m ≤ 0 → {packets unknowns positions : List ℕ} → packets ≡ b.packets → unknowns ≡ b.unknowns
    → positions ≡ b.positions → ended (Ok tt) packets unknowns positions rs ≡ end
unfolding counts_upto
going_done {m = zero} g h x y w = rw (x, y, w) g.goes
going_done {m = suc m} g h x y w = absurd (omega arith)

-- where k steps are left after this one
module _ {l : Layout} {z : Sizes} {salt n : ℕ} {flows : List ℕ} {m : ℕ} {b : Book} {rs : Records} {end : Ended}
    (g : Going l z salt n flows m b rs end) (k : ℕ) (h : m ≡ k + 1)
    {s : Step} {b' : Book} {rs' : Records} (p : counted s b' rs' ≡ count_of l z salt n flows b rs) where
  -- what follows the step
  follows : after_count (counts_upto k l z salt n flows) s b' rs' ≡ end
  unfolding counts_upto
  follows =
      ap (λ (x : Counted). after_count (counts_upto k l z salt n flows) x.answer x.cells x.list) p ∙ (rw (h, add-one) at g.goes)

  pub going_on : s ≡ Ok true → Going l z salt n flows k b' rs' end
  unfolding after_count
  going_on e = record {
    fits = subst (λ (x : Counted). Fits l z n flows x.cells x.list) (sym p) (fits-step l z salt n flows b rs g.fits);
    goes = (rw e at follows);
  }

  pub going-stop : {r : Stop} {packets unknowns positions : List ℕ} → (s ≡ Ok true → ⊥) → r ≡ stop_at s → packets ≡ b'.packets
      → unknowns ≡ b'.unknowns → positions ≡ b'.positions → ended r packets unknowns positions rs' ≡ end
  going-stop other e x y w = rw (e, x, y, w) (stops (counts_upto k l z salt n flows) s b' rs' other ∙ follows)

-- ---- what counting leaves
-- all fits, the keys stay, and so does who was handed over
pub record Lasts (l : Layout) (z : Sizes) (before : Records) (e : Ended) : Type 0 where
  pub packets-fit : length e.packets ≡ table_cells l z
  pub unknowns-fit : length e.unknowns ≡ table_cells l z
  pub positions-fit : length e.positions ≡ table_cells l z
  pub room : Room l (2 * table_cells l z) e.list
  pub keys_kept : e.list.keys ≡ before.keys
  pub handed-kept : (i : ℕ) → is_handed e.list i ≡ is_handed before i

module _ (l : Layout) (z : Sizes) (salt n : ℕ) (flows : List ℕ) where
  step-keys : (b : Book) (rs : Records) → (count_of l z salt n flows b rs).list.keys ≡ rs.keys
  unfolding count_of count_at
  step-keys b rs =
      let c = first_mark b.ready in
      let i = get_or b.positions c 0 in
      elim (split (ltb c (table_cells l z))) [
        | inr p ↦ rw p
        | inl p ↦ elim (split (count_damaged l z salt n b.packets rs.keys i (get_or b.packets c 0))) [
          | inl q ↦ rw (p, q)
          | inr q ↦ rw (p, q)
        ]
      ]

  step-handed : (b : Book) (rs : Records) (j : ℕ) → is_handed (count_of l z salt n flows b rs).list j ≡ is_handed rs j
  unfolding count_of count_at
  step-handed b rs j =
      let c = first_mark b.ready in
      let i = get_or b.positions c 0 in
      let v = get_or b.packets c 0 in
      elim (split (ltb c (table_cells l z))) [
        | inr p ↦ rw p
        | inl p ↦ elim (split (count_damaged l z salt n b.packets rs.keys i v)) [
          | inl q ↦ rw (p, q)
          | inr q ↦ rw (p, q) (handed-still i v j rs)
        ]
      ]

  at-lasts : (s : Step) (b : Book) (rs : Records) → Fits l z n flows b rs → Lasts l z rs (ended_at s b rs)
  at-lasts s b rs f = record {
    packets-fit = f.cells.packets-fit;
    unknowns-fit = f.cells.unknowns-fit;
    positions-fit = f.cells.positions-fit;
    room = f.room;
    keys_kept = refl;
    handed-kept = λ i. refl;
  }

  after-lasts : (more : Book → Records → Ended) → ((b : Book) (rs : Records) → Fits l z n flows b rs → Lasts l z rs (more b rs)) → (s : Step)
      (b : Book) (rs : Records) → Fits l z n flows b rs
      → Lasts l z rs (after_count more s b rs)
  unfolding after_count
  after-lasts more h (Ok true) b rs f = h b rs f
  after-lasts more h (Ok false) b rs f = at-lasts (Ok false) b rs f
  after-lasts more h (Err c) b rs f = at-lasts (Err c) b rs f

  upto-lasts : (m : ℕ) (b : Book) (rs : Records) → Fits l z n flows b rs → Lasts l z rs (counts_upto m l z salt n flows b rs)
  unfolding counts_upto
  upto-lasts zero b rs f = at-lasts (Ok false) b rs f
  upto-lasts (suc m) b rs f =
      let p = count_of l z salt n flows b rs in
      let later = after-lasts (counts_upto m l z salt n flows) (upto-lasts m) p.answer p.cells p.list (fits-step l z salt n flows b rs f) in
      record {
        packets-fit = later.packets-fit;
        unknowns-fit = later.unknowns-fit;
        positions-fit = later.positions-fit;
        room = later.room;
        keys_kept = later.keys_kept ∙ step-keys b rs;
        handed-kept = λ i. later.handed-kept i ∙ step-handed b rs i;
      }

  pub counts-last : (packets unknowns positions : List ℕ) (rs : Records) → Fits l z n flows (book packets unknowns positions (replicate 24 0)) rs
      → Lasts l z rs (counts_of l z salt n flows packets unknowns positions rs)
  counts-last packets unknowns positions rs f =
      let g = going l z salt n flows packets unknowns positions rs f refl refl refl in
      subst (Lasts l z rs) g.goes
      (upto-lasts n (book packets unknowns positions (ready_upto flows unknowns (table_cells l z))) rs g.fits)
