-- Rounds one after the other, as the loop goes.
use Rattle.std.proofs.Common.{◌≡◌, sym, ap, subst, ◌∙◌, ℕ, suc, ◌+◌, ◌-◌, ◌*◌, ◌≤◌, ◌<◌, true, false, cond, Ok, Err, arith}
use Rattle.ending.specs.declared.Stopped.{Stopped}
use Rattle.ending.specs.Over.{Ending, is_over}
use Rattle.parts.specs.declared.Part.{Part}
use Rattle.parts.specs.Parts.{switch_in, PartKept}
use Rattle.parts.proofs.Kept.{kept-self, kept-on}
use Rattle.rounds.specs.Rounds.{Pair, Ended, ended, settle_both, round, rounds, most_rounds, then_rounds, exchange_sides}
use Rattle.rounds.specs.Meets.{pair_in, Meets}
use Rattle.rounds.proofs.Steps.{Stand, both-stand, round-stands}
use Rattle.rounds.proofs.Handed.{start-stand, meets-kept, round-kept, rounds-kept}

-- the two sessions as the loop found them, and as it left them before a turn
module _ (a b : Part) (twelves most : ℕ) where
  abbrev upto : ℕ → Pair → Ended
  upto n p = rounds n a.placing.shape.layout (switch_in a) a.filter.now (switch_in b) b.filter.now p

  pub record Going (i : ℕ) (a' b' : Part) (n : ℕ) : Type 0 where
    pub meets : Meets a' b'
    pub kept-a : PartKept a' a
    pub kept_b : PartKept b' b
    pub goes : upto (most - i) (pair_in a' b' n) ≡ upto most (pair_in a b twelves)
    pub few : n ≤ 6144 * i

  pub going-start : Meets a b → twelves ≡ 0 → Going 0 a b twelves
  going-start h none = let all : most - 0 ≡ most = omega arith in record {
    meets = h;
    kept-a = kept-self a;
    kept_b = kept-self b;
    goes = ap (λ v. upto v (pair_in a b twelves)) all;
    few = omega (arith, none);
  }

  module _ (h : Meets a b) {i : ℕ} {a' b' : Part} {n : ℕ} (g : Going i a' b' n) where
    -- no round is left
    pub going-done : most ≤ i → ended (Ok tt) (pair_in a' b' n) ≡ upto most (pair_in a b twelves)
    unfolding rounds
    going-done q = let none : most - i ≡ 0 = omega (arith, q) in sym (ap (λ v. upto v (pair_in a' b' n)) none) ∙ g.goes

    module _ (lt : i < most) (a'' b'' : Part) (n' : ℕ) (k : PartKept a'' a') (m : PartKept b'' b') {o : Ending}
        (e : ended o (pair_in a'' b'' n') ≡ round a'.placing.shape.layout (switch_in a') a'.filter.now (switch_in b') b'.filter.now (pair_in a' b' n)) where
      y-is : ended o (pair_in a'' b'' n') ≡ round a.placing.shape.layout (switch_in a) a.filter.now (switch_in b) b.filter.now (pair_in a' b' n)
      y-is = e ∙ round-kept a b a' b' g.kept-a g.kept_b (pair_in a' b' n)

      -- one round less is left
      one-more : cond (is_over a'.listed b'.listed a''.listed b''.listed o) (ended o (pair_in a'' b'' n')) (upto (most - (i + 1)) (pair_in a'' b'' n'))
          ≡ upto most (pair_in a b twelves)
      unfolding rounds
      one-more =
          let less : most - i ≡ suc (most - (i + 1)) = omega (arith, lt) in
          ap (λ (y : Ended). let q = y.pair in cond (is_over a'.listed b'.listed q.a.listed q.b.listed y.ending) y (upto (most - (i + 1)) q)) y-is
          ∙ sym (ap (λ v. upto v (pair_in a' b' n)) less) ∙ g.goes

      -- a 14, or neither list grew
      pub going-over : true ≡ is_over a'.listed b'.listed a''.listed b''.listed o → ended o (pair_in a'' b'' n') ≡ upto most (pair_in a b twelves)
      going-over q = ap (λ v. cond v (ended o (pair_in a'' b'' n')) (upto (most - (i + 1)) (pair_in a'' b'' n'))) q ∙ one-more

      pub going-on : false ≡ is_over a'.listed b'.listed a''.listed b''.listed o → n' ≤ n + 6144 → Going (i + 1) a'' b'' n'
      going-on q more =
          let start = start-stand a' b' g.meets n in
          let f = g.meets.filter-a in
          let stand = round-stands a'.placing.shape.layout (switch_in a') (switch_in b') a'.filter.now b'.filter.now f g.meets.filter-b (pair_in a' b' n) start in
          let left = sym (ap (λ (x : Ended). x.pair) e) in
          let now : Stand a'.placing.shape.layout (switch_in a') (switch_in b') (pair_in a'' b'' n') = subst (Stand a'.placing.shape.layout (switch_in a') (switch_in b')) left stand in
          record {
            meets = meets-kept a' b' a'' b'' g.meets k m now.stands-a now.stands_b;
            kept-a = kept-on a'' a' a k g.kept-a;
            kept_b = kept-on b'' b' b m g.kept_b;
            goes = ap (λ v. cond v (ended o (pair_in a'' b'' n')) (upto (most - (i + 1)) (pair_in a'' b'' n'))) q ∙ one-more;
            few = omega (arith, g.few, more);
          }

-- ---- the two settlings before the rounds
module _ (a b : Part) (n : ℕ) (h : Meets a b) (a' b' : Part) (k : PartKept a' a) (m : PartKept b' b) {o : Ending}
    (e : ended o (pair_in a' b' n) ≡ settle_both a.placing.shape.layout (switch_in a) (switch_in b) (pair_in a b n)) where
  pub settled-meets : Meets a' b'
  settled-meets =
      let stand = subst (Stand a.placing.shape.layout (switch_in a) (switch_in b)) (sym (ap (λ (x : Ended). x.pair) e)) (both-stand a.placing.shape.layout (switch_in a) (switch_in b) (pair_in a b n) (start-stand a b h n)) in
      meets-kept a b a' b' h k m stand.stands-a stand.stands_b

  abbrev sides : Ended
  sides = exchange_sides a.placing.shape.layout (switch_in a) a.filter.now (switch_in b) b.filter.now (pair_in a b n)

  then-is : then_rounds a.placing.shape.layout (switch_in a) a.filter.now (switch_in b) b.filter.now (pair_in a' b' n) o ≡ sides
  unfolding exchange_sides
  then-is = ap (λ (x : Ended). then_rounds a.placing.shape.layout (switch_in a) a.filter.now (switch_in b) b.filter.now x.pair x.ending) e

  pub sides-stopped : {d : Stopped} → o ≡ Err d → ended (Err d) (pair_in a' b' n) ≡ sides
  unfolding then_rounds
  sides-stopped q = sym (ap (then_rounds a.placing.shape.layout (switch_in a) a.filter.now (switch_in b) b.filter.now (pair_in a' b' n)) q) ∙ then-is

  pub sides-settled : {u : Unit {0}} → o ≡ Ok u → {most : ℕ} → most ≡ most_rounds a.placing.shape.layout (switch_in a) (switch_in b) → {x : Ended}
      → x ≡ rounds most a'.placing.shape.layout (switch_in a') a'.filter.now (switch_in b') b'.filter.now (pair_in a' b' n) → x ≡ sides
  unfolding then_rounds
  sides-settled q {most} i {x} j =
      j ∙ rounds-kept a b a' b' k m most (pair_in a' b' n)
      ∙ ap (λ v. rounds v a.placing.shape.layout (switch_in a) a.filter.now (switch_in b) b.filter.now (pair_in a' b' n)) i
      ∙ sym (ap (then_rounds a.placing.shape.layout (switch_in a) a.filter.now (switch_in b) b.filter.now (pair_in a' b' n)) q) ∙ then-is
