-- The exchange on lists is the theory's exchange on what is seen of them.
use mathlib.Core.Path.{◌≡◌, refl, sym, ap, subst, ◌∙◌}
use mathlib.Core.Bool.{not, cond, ◌&&◌, ◌||◌}
use mathlib.Core.List.{List, [], ◌∷◌, ◌++◌}
use mathlib.Core.Logic.{inl, inr}
use Prim.Native.Nat.{ℕ, zero, suc, ◌+◌, ◌*◌, ◌≤◌, ◌<◌}
use native.Mathlib.Omega.{arith}
use native.Mathlib.Nat.{le_refl}
use native.Mathlib.Decide.{dec_lt}
use borrow.Author.Tests.{eq-eqb, ne_eqb, lt-ltb, le-ltb}
use lib.Dec.{eqb, ltb}
use lib.ListN.{length}
use Rattle.laws.specs.Upto.{list_upto, each_upto}
use Rattle.laws.proofs.Bools.{split, and-f}
use Rattle.laws.proofs.Upto.{length-list}
use Rattle.std.specs.Prelude.{Result, Ok, Err}
use Rattle.layout.specs.declared.Layout.{Layout}
use Rattle.layout.specs.Sizes.{table_cells}
use Rattle.list.specs.Records.{Records, key_at}
use Rattle.peeling.specs.Peel.{Stop}
use Rattle.test8.proofs.Answers.{passed}
use Rattle.test8.proofs.Passed.{listed-few}
use Rattle.handing.specs.declared.HandError.{HandError}
use Rattle.handing.specs.declared.HandError.TheVariants.{NotInFilter, Listed, EmptyCell, TooMany}
use Rattle.handing.specs.Hand.{hand_of, hand_number, twelve_by}
use Rattle.parts.specs.Sides as sides
use Rattle.parts.specs.Sides.{Side, settle_side, Given, given, hand_at, hand_keys, hand_list, with_given}
use Rattle.ending.specs.Over as over
use Rattle.rounds.specs.Rounds as lists
use Rattle.ending.specs.Over.{Ending}
use Rattle.ending.specs.declared.Switch.{Switch as Which}
use Rattle.ending.specs.declared.Switch.TheVariants as switch
use Rattle.theory.specs.Encode.{Key}
use Rattle.theory.specs.Session.{Session, keys_of}
use Rattle.theory.specs.Session as theory
use Rattle.theory.specs.HandOver.{Switch, hand_answer, hand_over, hand_each, calls, call, settle_at}
use Rattle.theory.specs.Exchange.{hand_all, twelves_in}
use Rattle.theory.specs.Exchange as exchange
use Rattle.theory.proofs.Records.{keys-append}
use Rattle.theory.proofs.Grown.{grown-length, settle-grown, calls-grown}
use Rattle.link.specs.View.{record_at, records_of}
use Rattle.link.specs.Answers.{stop_of}
use Rattle.link.proofs.Lists.{record-length}
use Rattle.meaning.specs.View.{switch_of}
use Rattle.demands.proofs.Lists.{Shows, settle-shows, settle-stops, hand-shows, hand-number}

-- ---- a list handed over in the theory, one key more at its end
module _ (w : Switch) (x : Key) where
  hand-more : (xs : List Key) (s : Session) → hand_all w (xs ++ (x ∷ [])) s ≡ hand_over w x (hand_all w xs s)
  unfolding hand_each calls call
  hand-more [] s = refl
  hand-more (y ∷ xs) s = hand-more xs (hand_over w y s)

  twelves-more : (xs : List Key) (s : Session)
      → twelves_in w (xs ++ (x ∷ [])) s ≡ twelves_in w xs s + cond (eqb (hand_answer w x (hand_all w xs s)) 12) 1 0
  unfolding twelves_in hand_each calls call
  twelves-more [] s = omega arith
  twelves-more (y ∷ xs) s = let before = twelves-more xs (hand_over w y s) in omega arith

twelve-is : (a : Result Unit HandError) → twelve_by a ≡ cond (eqb (hand_number a) 12) 1 0
twelve-is (Ok x) = refl
twelve-is (Err NotInFilter) = refl
twelve-is (Err Listed) = refl
twelve-is (Err EmptyCell) = refl
twelve-is (Err TooMany) = refl

-- a stop at one of the two switches, as the theory has it
abbrev pub stopped_as : Which → theory.Stop → exchange.Ending
stopped_as switch.A s = exchange.stopped_a s
stopped_as switch.B s = exchange.stopped_b s

-- which ends the exchange
stopped-goes : (go : exchange.Pair → exchange.Exchanged) (q : exchange.Pair) (u : exchange.Exchanged) (w : Which) (s : theory.Stop)
    → exchange.go_on go q u (stopped_as w s) ≡ u
unfolding exchange.go_on
stopped-goes go q u switch.A s = refl
stopped-goes go q u switch.B s = refl

stopped-rounds : (a b : Switch) (m : ℕ) (u : exchange.Exchanged) (w : Which) (s : theory.Stop) → exchange.then_rounds a b m u (stopped_as w s) ≡ u
unfolding exchange.then_rounds
stopped-rounds a b m u switch.A s = refl
stopped-rounds a b m u switch.B s = refl

-- the keys of the first n records
keys-are : (l : Layout) (rs : Records) (n : ℕ) → keys_of (records_of l n rs) ≡ list_upto n (key_at l rs.keys)
unfolding list_upto keys_of record_at
keys-are l rs zero = refl
keys-are l rs (suc n) = keys-append (records_of l n rs) (record_at l rs n) ∙ ap (λ s. s ++ (key_at l rs.keys n ∷ [])) (keys-are l rs n)

module _ (l : Layout) where
  abbrev SideShows : sides.Switch → Side → Session → Type 0
  SideShows A s q = Shows l A.sizes A.salt s.listed s.table s.packets s.list q

  abbrev at : sides.Switch → List ℕ → Switch
  at A f = switch_of l A.sizes A.salt f

  -- ---- one session
  module _ (A : sides.Switch) (f : List ℕ) where
    side-settles : (s : Side) (q : Session) → SideShows A s q → SideShows A (settle_side l A s).left (settle_at (at A f) q).state
    unfolding settle_side
    side-settles s q h = subst (λ b. SideShows A (settle_side l A s).left (settle_at (at A f) b).state) h.seen_as
        (settle-shows l A.sizes A.salt f s.listed s.table s.packets s.list h.lent h.passes s.seen)

    side-stops : (s : Side) (q : Session) → SideShows A s q → stop_of (settle_side l A s).stop ≡ (settle_at (at A f) q).stop
    unfolding settle_side
    side-stops s q h = settle-stops l A.sizes A.salt f s.listed s.table s.packets s.list h.lent h.passes s.seen
        ∙ ap (λ b. (settle_at (at A f) b).stop) h.seen_as

    -- keys handed over in order
    module _ (packets keys : List ℕ) (g : Given) (q : Session) where
      abbrev GivenShows : Given → Session → Type 0
      GivenShows h r = Shows l A.sizes A.salt h.listed h.table packets h.list r

      record Hands (m : ℕ) (h : Given) : Type 0 where
        pub shows : GivenShows h (hand_all (at A f) (list_upto m (key_at l keys)) q)
        pub twelves-are : h.twelves ≡ g.twelves + twelves_in (at A f) (list_upto m (key_at l keys)) q

      hands-one : (m : ℕ) (h : Given) → length (key_at l keys m) ≡ l.key → Hands m h → Hands (suc m) (hand_at l A f keys m h)
      unfolding hand_at list_upto
      hands-one m h fits before =
          let x = key_at l keys m in
          let xs = list_upto m (key_at l keys) in
          let s = before.shows in
          let r = hand_all (at A f) xs q in
          let o = hand_of l A.sizes A.salt h.listed x f h.table h.list h.seen in
          let number = hand-number l A.sizes A.salt f h.listed h.table packets h.list s.lent s.passes h.seen x fits
          ∙ ap (hand_answer (at A f) x) s.seen_as in
          record {
            shows = subst (GivenShows (hand_at l A f keys m h)) (ap (hand_over (at A f) x) s.seen_as ∙ sym (hand-more (at A f) x xs q))
                (hand-shows l A.sizes A.salt f h.listed h.table packets h.list s.lent s.passes h.seen x fits);
            twelves-are =
                let one = twelve-is o.answer ∙ ap (λ k. cond (eqb k 12) 1 0) number in
                omega (arith, one, before.twelves-are, twelves-more (at A f) x xs q);
          }

      hands-each : (m : ℕ) → ((i : ℕ) → i < m → length (key_at l keys i) ≡ l.key) → GivenShows g q → Hands m (each_upto m (hand_at l A f keys) g)
      unfolding each_upto list_upto hand_each calls twelves_in
      hands-each zero fits s = record { shows = s; twelves-are = omega arith }
      hands-each (suc m) fits s = hands-one m (each_upto m (hand_at l A f keys) g) (fits m (omega arith)) (hands-each m (λ i h. fits i (omega arith)) s)

    record ListHands (xs : List Key) (s : Side) (q : Session) (g : Given) : Type 0 where
      pub shows : SideShows A (with_given s g) (hand_all (at A f) xs q)
      pub twelves-are : g.twelves ≡ twelves_in (at A f) xs q

    list-hands : (keys : List ℕ) (m : ℕ) → ((i : ℕ) → i < m → length (key_at l keys i) ≡ l.key) → (s : Side) (q : Session) → SideShows A s q
        → ListHands (list_upto m (key_at l keys)) s q (hand_list l A f keys m s)
    unfolding hand_list hand_keys
    list-hands keys m fits s q h =
        let e = hands-each s.packets keys (given s.listed 0 s.table s.list s.seen) q m fits h in
        record { shows = e.shows; twelves-are = omega (arith, e.twelves-are) }

  -- ---- both sessions; f and g are the received filters
  module _ (A : sides.Switch) (f : List ℕ) (B : sides.Switch) (g : List ℕ) where
    abbrev w_a : Switch
    w_a = at A f

    abbrev w_b : Switch
    w_b = at B g

    pub record PairShows (p : lists.Pair) (q : exchange.Pair) : Type 0 where
      pub shows-a : SideShows A p.a q.a
      pub shows-b : SideShows B p.b q.b
      pub twelves-are : p.twelves ≡ q.twelves

    -- the keys that a session hands over
    keys-shown : (C : sides.Switch) (s : Side) (q : Session) → SideShows C s q → list_upto s.listed (key_at l s.list.keys) ≡ keys_of q.list
    keys-shown C s q h = sym (keys-are l s.list s.listed) ∙ ap (λ (u : Session). keys_of u.list) h.seen_as

    keys-sized : (C : sides.Switch) (s : Side) (q : Session) → SideShows C s q → (i : ℕ) → i < s.listed → length (key_at l s.list.keys i) ≡ l.key
    keys-sized C s q h i lt = record-length l (2 * table_cells l C.sizes) s.listed s.list h.lent.room i
        (omega (
          arith,
          listed-few l C.sizes C.salt s.listed s.table s.list
              (passed l C.sizes C.salt s.listed s.table s.list h.passes),
        ))

    both-hand : (p : lists.Pair) (q : exchange.Pair) → PairShows p q → PairShows (lists.hand_both l A f B g p) (exchange.hand_both w_a w_b q)
    unfolding lists.hand_both exchange.hand_both
    both-hand p q h =
        let to_b = hand_list l B g p.a.list.keys p.a.listed p.b in
        let b = subst (λ xs. ListHands B g xs p.b q.b to_b) (keys-shown A p.a q.a h.shows-a)
        (list-hands B g p.a.list.keys p.a.listed (keys-sized A p.a q.a h.shows-a) p.b q.b h.shows-b) in
        let b₁ = hand_all w_b (keys_of q.a.list) q.b in
        let to_a = hand_list l A f to_b.list.keys to_b.listed p.a in
        let a = subst (λ xs. ListHands A f xs p.a q.a to_a) (keys-shown B (with_given p.b to_b) b₁ b.shows)
        (list-hands A f to_b.list.keys to_b.listed (keys-sized B (with_given p.b to_b) b₁ b.shows) p.a q.a h.shows-a) in
        record { shows-a = a.shows; shows-b = b.shows; twelves-are = omega (arith, h.twelves-are, a.twelves-are, b.twelves-are) }

    -- how it ended, as the theory has it
    abbrev pub ending_as : Ending → exchange.Ending
    ending_as (Ok done) = exchange.finished
    ending_as (Err d) = stopped_as d.switch (theory.damage d.cell)

    pub record EndShows (e : lists.Ended) (r : exchange.Exchanged) : Type 0 where
      pub pair-shows : PairShows e.pair r.pair
      pub ends_as : ending_as e.ending ≡ r.ending

    -- B's settling ended so, after A's
    after-b : (a : Side) (s : Session) (b : Side) (t : Session) (m n : ℕ) → m ≡ n → SideShows A a s → SideShows B b t → (o : Stop)
        → EndShows (lists.ended (over.ending_b o) (lists.pair a b m)) (exchange.after_b s t n (stop_of o))
    after-b a s b t m n e ha hb (Ok i) = record { pair-shows = record { shows-a = ha; shows-b = hb; twelves-are = e }; ends_as = refl }
    after-b a s b t m n e ha hb (Err d) = record { pair-shows = record { shows-a = ha; shows-b = hb; twelves-are = e }; ends_as = refl }

    -- A's settling ended so
    after-a : (a : Side) (s : Session) (b : Side) (t : Session) (m n : ℕ) → m ≡ n → SideShows A a s → SideShows B b t → (o : Stop)
        → EndShows (lists.then_b l B a b m o) (exchange.after_a w_b s t n (stop_of o))
    unfolding lists.then_b
    after-a a s b t m n e ha hb (Ok i) =
        subst (λ o. EndShows (lists.ended (over.ending_b (settle_side l B b).stop) (lists.pair a (settle_side l B b).left m))
        (exchange.after_b s (settle_at w_b t).state n o)) (side-stops B g b t hb)
        (after-b a s (settle_side l B b).left (settle_at w_b t).state m n e ha (side-settles B g b t hb) (settle_side l B b).stop)
    after-a a s b t m n e ha hb (Err d) = record { pair-shows = record { shows-a = ha; shows-b = hb; twelves-are = e }; ends_as = refl }

    both_settle : (p : lists.Pair) (q : exchange.Pair) → PairShows p q → EndShows (lists.settle_both l A B p) (exchange.settle_both w_a w_b q)
    unfolding lists.settle_both exchange.settle_both
    both_settle p q h =
        let r = settle_side l A p.a in
        subst (λ o. EndShows (lists.then_b l B r.left p.b p.twelves r.stop) (exchange.after_a w_b (settle_at w_a q.a).state q.b q.twelves o))
        (side-stops A f p.a q.a h.shows-a)
        (after-a r.left (settle_at w_a q.a).state p.b q.b p.twelves q.twelves h.twelves-are
        (side-settles A f p.a q.a h.shows-a) h.shows-b r.stop)

    one-round : (p : lists.Pair) (q : exchange.Pair) → PairShows p q → EndShows (lists.round l A f B g p) (exchange.round w_a w_b q)
    unfolding lists.round
    one-round p q h = both_settle (lists.hand_both l A f B g p) (exchange.hand_both w_a w_b q) (both-hand p q h)

    -- ---- rounds: no list ever gets shorter, so neither grew where both are as long as before
    record Longer (p q : exchange.Pair) : Type 0 where
      pub longer-a : length p.a.list ≤ length q.a.list
      pub longer-b : length p.b.list ≤ length q.b.list

    settle-longer : (w : Switch) (s : Session) → length s.list ≤ length (settle_at w s).state.list
    settle-longer w s = let t = (settle_at w s).state in omega (arith, grown-length s t (settle-grown w.size w.has s))

    hand-longer : (w : Switch) (xs : List Key) (s : Session) → length s.list ≤ length (hand_all w xs s).list
    hand-longer w xs s = omega (arith, grown-length s (hand_all w xs s) (calls-grown w (hand_each xs) s))

    b-longer : (s t : Session) (n : ℕ) (o : theory.Stop) → ((exchange.after_b s t n o).pair.a ≡ s) × ((exchange.after_b s t n o).pair.b ≡ t)
    b-longer s t n theory.settled = (refl, refl)
    b-longer s t n (theory.damage c) = (refl, refl)

    a-longer : (s t : Session) (n : ℕ) (o : theory.Stop) → let r = exchange.after_a w_b s t n o in
        (length s.list ≤ length r.pair.a.list) × (length t.list ≤ length r.pair.b.list)
    a-longer s t n theory.settled =
        let b = b-longer s (settle_at w_b t).state n (settle_at w_b t).stop in
        (rw b.0 (le_refl _), rw b.1 (settle-longer w_b t))
    a-longer s t n (theory.damage c) = (le_refl _, le_refl _)

    round-longer : (q : exchange.Pair) → Longer q (exchange.round w_a w_b q).pair
    unfolding exchange.hand_both exchange.settle_both
    round-longer q =
        let h = exchange.hand_both w_a w_b q in
        let r = a-longer (settle_at w_a h.a).state h.b h.twelves (settle_at w_a h.a).stop in
        record {
          longer-a = omega (arith, r.0, settle-longer w_a h.a, hand-longer w_a (keys_of h.b.list) q.a);
          longer-b = omega (arith, r.1, hand-longer w_b (keys_of q.a.list) q.b);
        }

    -- neither grew, by the numbers and by the lists
    grew-is : (a b a' b' : ℕ) → a ≤ a' → b ≤ b' → (eqb a' a && eqb b' b) ≡ not (ltb a a' || ltb b b')
    grew-is a b a' b' ha hb = elim (dec_lt a a') [
      | yes x ↦ rw (lt-ltb a a' x, ne_eqb a' a (λ e. omega arith))
      | no x ↦ elim (dec_lt b b') [
        | yes y ↦ rw (le-ltb a a' (omega arith), lt-ltb b b' y, ne_eqb b' b (λ e. omega arith)) (and-f (eqb a' a))
        | no y ↦ rw (le-ltb a a' (omega arith), le-ltb b b' (omega arith), eq-eqb a' a (omega arith), eq-eqb b' b (omega arith))
      ]
    ]

    -- so many flows are listed
    listed-length : (C : sides.Switch) (s : Side) (q : Session) → SideShows C s q → s.listed ≡ length q.list
    listed-length C s q h = sym (length-list s.listed (record_at l s.list)) ∙ ap (λ (u : Session). length u.list) h.seen_as

    over-is : (p : lists.Pair) (q : exchange.Pair) (t : lists.Pair) (u : exchange.Pair) → PairShows p q → PairShows t u → Longer q u
        → (eqb t.a.listed p.a.listed && eqb t.b.listed p.b.listed) ≡ not (exchange.grew q u)
    over-is p q t u h k longer = rw (
      listed-length A p.a q.a h.shows-a,
      listed-length B p.b q.b h.shows-b,
      listed-length A t.a u.a k.shows-a,
      listed-length B t.b u.b k.shows-b,
    )
        (grew-is (length q.a.list) (length q.b.list) (length u.a.list) (length u.b.list) longer.longer-a longer.longer-b)

    abbrev Rounds : (lists.Pair → lists.Ended) → (exchange.Pair → exchange.Exchanged) → Type 0
    Rounds more go = (p : lists.Pair) (q : exchange.Pair) → PairShows p q → EndShows (more p) (go q)

    -- another round, or the end
    goes_on : (more : lists.Pair → lists.Ended) (go : exchange.Pair → exchange.Exchanged) → Rounds more go
        → (p : lists.Pair) (q : exchange.Pair) → PairShows p q → (r : lists.Ended) (u : exchange.Exchanged) → EndShows r u → Longer q u.pair
        → (o : Ending) → r.ending ≡ o
        → EndShows (cond (over.is_over p.a.listed p.b.listed r.pair.a.listed r.pair.b.listed o) r (more r.pair))
        (exchange.go_on go q u (ending_as o))
    unfolding over.is_over exchange.go_on
    goes_on more go later p q h r u k longer (Ok done) e =
        rw (over-is p q r.pair u.pair h k.pair-shows longer) (elim (split (exchange.grew q u.pair)) [
          | inl y ↦ rw y (later r.pair u.pair k.pair-shows)
          | inr y ↦ rw y k
        ])
    goes_on more go later p q h r u k longer (Err d) e = subst (EndShows r) (sym (stopped-goes go q u d.switch (theory.damage d.cell))) k

    all-rounds : (m : ℕ) → Rounds (lists.rounds m l A f B g) (exchange.rounds w_a w_b m)
    unfolding lists.rounds exchange.rounds
    all-rounds zero p q h = record { pair-shows = h; ends_as = refl }
    all-rounds (suc m) p q h =
        let r = lists.round l A f B g p in
        let u = exchange.round w_a w_b q in
        let k = one-round p q h in
        subst (λ o. EndShows (lists.rounds (suc m) l A f B g p) (exchange.go_on (exchange.rounds w_a w_b m) q u o)) k.ends_as
        (goes_on (lists.rounds m l A f B g) (exchange.rounds w_a w_b m) (all-rounds m) p q h r u k (round-longer q) r.ending refl)

    then-rounds : (r : lists.Ended) (u : exchange.Exchanged) → EndShows r u → (o : Ending) → r.ending ≡ o
        → EndShows (lists.then_rounds l A f B g r.pair o) (exchange.then_rounds w_a w_b (2 * w_a.size + 2 * w_b.size + 1) u (ending_as o))
    unfolding lists.then_rounds exchange.then_rounds
    then-rounds r u k (Ok done) e = all-rounds (lists.most_rounds l A B) r.pair u.pair k.pair-shows
    then-rounds r u k (Err d) e =
        subst (EndShows (lists.ended (Err d) r.pair))
        (sym (stopped-rounds w_a w_b (2 * w_a.size + 2 * w_b.size + 1) u d.switch (theory.damage d.cell)))
        (record { pair-shows = k.pair-shows; ends_as = ap ending_as (sym e) ∙ k.ends_as })

    -- Theorem: the exchange on lists of two sessions that pass the test is the theory's
    pub exchange-shows : (p : lists.Pair) (q : exchange.Pair) → PairShows p q → EndShows (lists.exchange_sides l A f B g p) (exchange.exchange w_a w_b q)
    unfolding lists.exchange_sides exchange.exchange
    exchange-shows p q h =
        let r = lists.settle_both l A B p in
        let u = exchange.settle_both w_a w_b q in
        let k = both_settle p q h in
        subst (λ o. EndShows (lists.then_rounds l A f B g r.pair r.ending) (exchange.then_rounds w_a w_b (2 * w_a.size + 2 * w_b.size + 1) u o))
        k.ends_as (then-rounds r u k r.ending refl)
