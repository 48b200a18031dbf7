-- Without a hand-over every peeled flow is counted, or the answer is 14: true of any cells, clean, damaged or made up.
use mathlib.Core.Path.{◌≡◌, refl, sym, ◌∙◌}
use mathlib.Core.Logic.{inl, inr}
use mathlib.Core.Bool.{true, false, not, ◌&&◌}
use mathlib.Core.List.{List, [], ◌∷◌, ◌++◌}
use Prim.Native.Nat.{ℕ, ◌+◌, ◌<◌}
use native.Mathlib.Omega.{arith}
use lib.Dec.{eqb, ltb}
use Rattle.laws.proofs.Bools.{split, clash, or-e, or-fr}
use Rattle.laws.proofs.Upto.{any_none}
use Rattle.theory.specs.Encode.{Key, same_key, among, sum_over, count, Table, Placement}
use Rattle.theory.specs.Session.{Record, Session, opened, keys_of, keys_where, unknowns_of, listed, pure, ready, has_empty_cell, open_cells, take_out, next, settled, peel_damaged, peel_pure, count_step, settle}
use Rattle.theory.specs.Report.{short, nothing_left, report}
use Rattle.theory.proofs.Flow.{same-eq, among-append, among_none}
use Rattle.theory.proofs.Sums.{sum-none}
use Rattle.theory.proofs.Records.{keys-take, keys-told, where-listed}
use Rattle.theory.proofs.Single.{pure-one, pure-has}
use Rattle.theory.proofs.Steps.{flows-told, peel-next, count_next}
use Rattle.theory.proofs.Settle.{settle-keeps, settled-rests}
use Rattle.laws.specs.Upto.{lowest}
use Rattle.laws.proofs.Lowest.{lowest-lt, lowest-hit}

-- a cell of x that is empty now and that none of the later keys has: the cell x was peeled from
record Home (n : ℕ) (has : Placement) (t : Table) (x : Key) (later : List Key) : Type 0 where
  pub cell : ℕ
  pub below : cell < n
  pub own : has x cell ≡ true
  pub empty : (t cell).flow_count ≡ 0
  pub others : (k : Key) → among k later ≡ true → has k cell ≡ false

abbrev Homes : ℕ → Placement → Table → List Key → Type 0
Homes n has t [] = Unit {0}
Homes n has t (x ∷ later) = Home n has t x later × Homes n has t later

module _ (n : ℕ) (has : Placement) where
  homes_same : (t u : Table) → ((c : ℕ) → (u c).flow_count ≡ (t c).flow_count) → (l : List Key) → Homes n has t l → Homes n has u l
  homes_same t u same [] h = tt
  homes_same t u same (x ∷ l) h =
      let o = h.0 in
      (record { cell = o.cell; below = o.below; own = o.own; empty = same o.cell ∙ o.empty; others = o.others }, homes_same t u same l h.1)

  -- a key with no empty cell has no cell that is another's home
  home-apart : (s : Session) (x : Key) → has_empty_cell n has s.cells x ≡ false → (c : ℕ) → c < n → (s.cells c).flow_count ≡ 0 → has x c ≡ false
  unfolding has_empty_cell
  home-apart s x none c l z = elim (split (has x c)) [
    | inr h ↦ h
    | inl h ↦ clash (rw (h, z)) (any_none n (λ j. has x j && eqb (s.cells j).flow_count 0) none c l)
  ]

  homes-append : (s : Session) (x : Key) → has_empty_cell n has s.cells x ≡ false → Home n has (take_out has false x s).cells x []
      → (l : List Key) → Homes n has s.cells l → Homes n has (take_out has false x s).cells (l ++ (x ∷ []))
  homes-append s x none new [] h = (new, tt)
  homes-append s x none new (y ∷ l) h =
      let o = h.0 in
      let away = home-apart s x none o.cell o.below o.empty in (
        record {
          cell = o.cell;
          below = o.below;
          own = o.own;
          empty = kept away ∙ o.empty;
          others = λ k m. elim (or-e (among k l) (same_key k x) (sym (among-append k l x) ∙ m)) [
            | inl a ↦ o.others k a
            | inr a ↦ rw (same-eq k x a) away
          ];
        },
        homes-append s x none new l h.1,
      )
    where
      kept : {c : ℕ} → has x c ≡ false → ((take_out has false x s).cells c).flow_count ≡ (s.cells c).flow_count
      kept {c} a = unfold take_out in rw a

  -- ---- each step keeps the homes
  peel-homes : (s t : Session) → Homes n has s.cells (keys_of s.list) → peel_pure n has s ≡ next t → Homes n has t.cells (keys_of t.list)
  peel-homes s t h e =
      let p = peel-next n has (pure has s.cells) s t e in
      let c = lowest n (pure has s.cells) in
      let x = (s.cells c).flow_xor in
      let hit = lowest-hit n (pure has s.cells) p.marked in
      let none : has_empty_cell n has s.cells x ≡ false = unfold peel_damaged in or-fr (listed s x) (has_empty_cell n has s.cells x) p.sound in
      let new : Home n has (take_out has false x s).cells x [] = record {
        cell = c;
        below = lowest-lt n (pure has s.cells) p.marked;
        own = pure-has has s c hit;
        empty = emptied s x c (pure-has has s c hit) (pure-one has s c hit);
        others = λ k m. among_none k m;
      } in
      rw (p.result, keys-take has s x false) (homes-append s x none new (keys_of s.list) h)
    where
      emptied : (s : Session) (x : Key) (c : ℕ) → has x c ≡ true → (s.cells c).flow_count ≡ 1 → ((take_out has false x s).cells c).flow_count ≡ 0
      emptied s x c a z = unfold take_out in rw (a, z)

  count-homes : (s t : Session) → Homes n has s.cells (keys_of s.list) → count_step n has s ≡ next t → Homes n has t.cells (keys_of t.list)
  count-homes s t h e = rw ((count_next n has s t e).result, keys-told has s _ _) (homes_same s.cells _ (flows-told has s _ _) (keys_of s.list) h)

  -- ---- the first unknown flow would be alone in its home, and the cell ready
  all_known : (t : Table) (rs : List Record) → Homes n has t (keys_of rs)
      → ((c : ℕ) → c < n → (t c).flow_count ≡ 0 → count (λ k. has k c) (unknowns_of rs) ≡ 1 → ⊥) → unknowns_of rs ≡ []
  unfolding keys_of keys_where
  all_known t [] h none = refl
  all_known t (r ∷ rs) h none = elim (split r.known) [
    | inl q ↦ rw q (all_known t rs h.1 (λ c l z one. none c l z (rw q one)))
    | inr q ↦
        let o = h.0 in
        let alone = sum-none ◌+◌ 0 (λ k. 1) (λ k. has k o.cell) (unknowns_of rs) (λ k m. o.others k (where-listed (λ p. not p.known) rs k m)) in
        absurd (none o.cell o.below o.empty (rw q (unfold sum_over in rw (o.own, alone))))
  ]

  -- Theorem: a session just opened on any cells, settled with answer 0, has no unknown count
  pub alone-known : (t : Table) → (settle n has (opened t)).stop ≡ settled → unknowns_of (settle n has (opened t)).state.list ≡ []
  alone-known t z =
      let s = (settle n has (opened t)).state in
      let h = settle-keeps n has (λ q. Homes n has q.cells (keys_of q.list)) peel-homes count-homes (opened t) (unfold keys_of in tt) in
      let rest = settled-rests n has (opened t) z in
      all_known s.cells s.list h (λ c l e one. clash (ready_made s c e one) (rest.none-ready c l))
    where
      ready_made : (s : Session) (c : ℕ) → (s.cells c).flow_count ≡ 0 → count (λ k. has k c) (unknowns_of s.list) ≡ 1 → ready has s c ≡ true
      ready_made s c e one = unfold ready in rw (e, one)

  -- Theorem: so it never reports short
  pub alone-never-short : (t : Table) → (settle n has (opened t)).stop ≡ settled → (report n (settle n has (opened t)).state).state ≡ short → ⊥
  unfolding report
  alone-never-short t z e = elim (split (ltb 0 (open_cells n (settle n has (opened t)).state.cells))) [
    | inl a ↦ (let h = rw a at e in let q : ◌≡◌ {A = ℕ} 0 1 = cc in omega arith)
    | inr a ↦ elim (split (nothing_left n (settle n has (opened t)).state.cells)) [
      | inl b ↦ (let h = rw (a, alone-known t z, b) at e in let q : ◌≡◌ {A = ℕ} 0 1 = cc in omega arith)
      | inr b ↦ (let h = rw (a, alone-known t z, b) at e in let q : ◌≡◌ {A = ℕ} 0 1 = cc in omega arith)
    ]
  ]
