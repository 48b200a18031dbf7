-- Keys handed over one after the other: what each needs holds again after it, and what is left is what the definition says.
use mathlib.Core.Path.{◌≡◌, refl, sym, ap, subst, ◌∙◌}
use mathlib.Core.List.{List}
use Prim.Native.Nat.{ℕ, zero, suc, ◌+◌, ◌≤◌, ◌<◌}
use native.Mathlib.Omega.{arith}
use lib.ListN.{length}
use Rattle.laws.specs.Upto.{each_upto}
use Rattle.laws.proofs.Upto.{each_same}
use Rattle.layout.specs.declared.Layout.{Layout}
use Rattle.layout.specs.declared.Sizes.{Sizes}
use Rattle.layout.specs.Sizes.{filter_bytes}
use Rattle.list.specs.Records.{key_at, handed_in}
use Rattle.peeling.specs.Peel.{Steady}
use Rattle.std.specs.Prelude.{Result, Ok, Err}
use Rattle.handing.specs.declared.HandError.{HandError}
use Rattle.handing.specs.declared.HandError.TheVariants.{NotInFilter, Listed, EmptyCell, TooMany}
use Rattle.handing.specs.Hand.{Handing, handing, hand_of, taken_by, hand_number, Hands, twelve_by}
use Rattle.handing.proofs.Laws.{hand-kept, hand-fits, hand-bounded, hand-handed}
use Rattle.parts.specs.Sides.{Switch, switch, Given, after_hand, hand_at, hand_keys}

-- ---- one key
module _ (l : Layout) (z : Sizes) (salt : ℕ) (filter : List ℕ) where
  -- a session that another key can be handed to
  abbrev pub Ready : Given → Type 0
  Ready g = Steady l z salt g.listed g.table g.list g.seen

  pub ready-hands : length filter ≡ filter_bytes z → (g : Given) → Ready g → (key : List ℕ) → length key ≡ l.key
      → Hands l z salt g.listed (handed_in g.listed g.list) key filter g.table g.list g.seen
  ready-hands f g r key k = record { steady = r; filter-fits = f; key_fits = k; handed-is = refl }

  module _ (f : length filter ≡ filter_bytes z) (g : Given) (r : Ready g) (key : List ℕ) (k : length key ≡ l.key) where
    abbrev pub o : Handing
    o = hand_of l z salt g.listed key filter g.table g.list g.seen

    -- it is ready again, and the number handed over grows with the list
    pub record Onward (a : Result Unit HandError) (h : Handing) : Type 0 where
      pub again : Ready (after_hand g h)
      pub handed : handed_in (after_hand g h).listed h.list ≡ handed_in g.listed g.list + taken_by a

    kept : (a : Result Unit HandError) → 0 < hand_number a → taken_by a ≡ 0 → o.answer ≡ a → Onward a o
    kept a h none e =
        let same : o ≡ handing o.answer g.table g.list g.seen = hand-kept l z salt g.listed key filter g.table g.list g.seen refl
        (subst (λ b. 0 < hand_number b) (sym e) h) in
        let stays : handing a g.table g.list g.seen ≡ o = sym (same ∙ ap (λ b. handing b g.table g.list g.seen) e) in
        let m : g.listed ≡ g.listed + taken_by a = omega (arith, none) in
        subst (Onward a) stays record {
          again = subst (λ n. Steady l z salt n g.table g.list g.seen) m r;
          handed = ap (λ n. handed_in n g.list) (sym m) ∙ omega (arith, none);
        }

    onward : (a : Result Unit HandError) → o.answer ≡ a → Onward a o
    onward (Ok done) e =
        let h = ready-hands f g r key k in
        let one : taken_by o.answer ≡ 1 = ap taken_by e in
        let steady : Steady l z salt (g.listed + 1) o.table o.list o.seen = record {
          fits = hand-fits l z salt g.listed key filter g.table g.list g.seen refl h e;
          bounded = hand-bounded l z salt g.listed key filter g.table g.list g.seen refl h e;
        } in
        let more = hand-handed l z salt g.listed key filter g.table g.list g.seen refl h e in
        let back : g.listed + 1 ≡ g.listed + taken_by o.answer = ap (λ n. g.listed + n) (sym one) in
        record {
          again = subst (λ n. Steady l z salt n o.table o.list o.seen) back steady;
          handed = ap (λ n. handed_in n o.list) (sym back) ∙ more;
        }
    onward (Err NotInFilter) e = kept (Err NotInFilter) (omega arith) refl e
    onward (Err Listed) e = kept (Err Listed) (omega arith) refl e
    onward (Err EmptyCell) e = kept (Err EmptyCell) (omega arith) refl e
    onward (Err TooMany) e = kept (Err TooMany) (omega arith) refl e

    pub hand-onward : Onward o.answer o
    hand-onward = onward o.answer refl

pub twelve-few : (a : Result Unit HandError) → twelve_by a ≤ 1
twelve-few (Ok done) = omega arith
twelve-few (Err NotInFilter) = omega arith
twelve-few (Err Listed) = omega arith
twelve-few (Err EmptyCell) = omega arith
twelve-few (Err TooMany) = omega arith

-- ---- many keys, one after the other
module _ (l : Layout) (z : Sizes) (salt : ℕ) (filter keys : List ℕ) (m : ℕ) where
  abbrev w : Switch
  w = switch z salt

  pub twelves-upto : (g : Given) (i : ℕ) → (each_upto i (hand_at l w filter keys) g).twelves ≤ g.twelves + i
  unfolding each_upto hand_at
  twelves-upto g zero = omega arith
  twelves-upto g (suc i) =
      let u = each_upto i (hand_at l w filter keys) g in
      omega (arith, twelves-upto g i, twelve-few (hand_of l z salt u.listed (key_at l keys i) filter u.table u.list u.seen).answer)

  pub twelves-list : (g : Given) → (hand_keys l w filter keys m g).twelves ≤ g.twelves + m
  unfolding hand_keys
  twelves-list g = twelves-upto g m

  module _ (f : length filter ≡ filter_bytes z) (sized : (i : ℕ) → i < m → length (key_at l keys i) ≡ l.key) (g : Given) where
    pub ready-upto : Ready l z salt filter g → (i : ℕ) → i ≤ m → Ready l z salt filter (each_upto i (hand_at l w filter keys) g)
    unfolding each_upto hand_at
    ready-upto r zero h = r
    ready-upto r (suc i) h =
        (hand-onward l z salt filter f (each_upto i (hand_at l w filter keys) g) (ready-upto r i (omega arith)) (key_at l keys i) (sized i (omega arith))).again

    -- and so after all of them
    pub keys-ready : Ready l z salt filter g → Ready l z salt filter (hand_keys l w filter keys m g)
    unfolding hand_keys
    keys-ready r = ready-upto r m (omega arith)

alike_at : (l : Layout) (w : Switch) (filter ks ks' : List ℕ) (m : ℕ) → ((i : ℕ) → i < m → key_at l ks i ≡ key_at l ks' i)
    → (i : ℕ) (g : Given) → i < m → hand_at l w filter ks i g ≡ hand_at l w filter ks' i g
unfolding hand_at
alike_at l w filter ks ks' m h i g q =
    ap (λ key. after_hand g (hand_of l w.sizes w.salt g.listed key filter g.table g.list g.seen)) (h i q)

-- keys that agree are handed over alike
pub keys-alike : (l : Layout) (w : Switch) (filter ks ks' : List ℕ) (m : ℕ) (g : Given) → ((i : ℕ) → i < m → key_at l ks i ≡ key_at l ks' i)
    → hand_keys l w filter ks m g ≡ hand_keys l w filter ks' m g
unfolding hand_keys
keys-alike l w filter ks ks' m g h =
    each_same m (hand_at l w filter ks) (hand_at l w filter ks') g (alike_at l w filter ks ks' m h)
