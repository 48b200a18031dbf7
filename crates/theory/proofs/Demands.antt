-- Demands 2 and 3 of every session of a flowset, whatever calls led to it.
use mathlib.Core.Path.{◌≡◌, refl, sym, ap, ◌∙◌}
use mathlib.Core.Bool.{true, cond}
use mathlib.Core.List.{List, []}
use mathlib.Core.Option.{some, none}
use Prim.Native.Nat.{ℕ}
use native.Mathlib.Omega.{arith}
use lib.Dec.{ltb}
use Rattle.theory.specs.Encode.{Key, among, Table}
use Rattle.theory.specs.Session.{Session, opened, keys_of, keys_where, handed_of, listed, handed_over, counted, count_of, open_cells, settled}
use Rattle.theory.specs.HandOver.{Switch, Call, calls, settle_at}
use Rattle.theory.specs.Fits.{Fits}
use Rattle.theory.specs.Runs.{start, Stands, AtRest}
use Rattle.theory.specs.Invariant.{Counted, received, Holds}
use Rattle.theory.specs.Demands.{HandedCounted, Truthful, AtEnd, Yields, take_all_out, reference, Same}
use Rattle.theory.proofs.Flow.{among_none}
use Rattle.theory.proofs.Records.{where-listed, where-distinct, counts-said}
use Rattle.theory.proofs.Invariant.{invariant-opened}
use Rattle.theory.proofs.Runs.{counted-listed, listed-least, counted-least}
use Rattle.theory.proofs.Confluence.{rest-closed, counted-closed, all-counted, same-counted, same-listed, same-cells}
use Rattle.theory.proofs.Settle.{settle-handed}
use Rattle.theory.proofs.Calls.{goes-holds, settle_goes, calls-go, all_go, all-handed}
use Rattle.theory.proofs.Truthful.{left_is, stated}
use Rattle.laws.proofs.Lowest.{number-max}

-- a session just opened has room
pub opened-fits : (n : ℕ) (t : Table) → Fits n (opened t)
unfolding keys_where open_cells
opened-fits n t = record { handed-room = omega arith; peeled-room = omega (arith, number-max n (λ c. ltb 0 (t c).flow_count)) }

module _ (w : Switch) (e : Counted w) where
  abbrev pub holds₀ : Holds w e (received w e)
  holds₀ = invariant-opened w e

  none-listed : {A : Type 0} (k : Key) → listed (received w e) k ≡ true → A
  unfolding keys_of
  none-listed k m = among_none k m

  -- the received flowset, and what calls leave of a session of it where every flow accepted was counted here
  pub stands-received : Stands w e (received w e)
  stands-received = record { run = start; fits = opened-fits w.size (received w e).cells }

  pub stands-calls : (l : List Call) (s : Session) → Stands w e s → HandedCounted e.flows (calls w l s) → Stands w e (calls w l s)
  stands-calls = calls-go w e (received w e) holds₀

  -- ---- one session of the flowset
  module _ (s : Session) (g : Stands w e s) where
    abbrev pub ended : Session
    ended = (settle_at w s).state

    abbrev ending : Stands w e ended × ((settle_at w s).stop ≡ settled) × AtRest w.size w.has ended
    ending = settle_goes w e (received w e) holds₀ s g

    pub stands-settled : Stands w e ended
    stands-settled = ending.0

    -- Theorem: no damage is met
    pub answers-0 : (settle_at w s).stop ≡ settled
    answers-0 = ending.1

    pub settled-rest : AtRest w.size w.has ended
    settled-rest = ending.2

    -- Theorem: the invariant holds
    pub stands-holds : Holds w e s
    stands-holds = goes-holds w e (received w e) holds₀ g

    -- Theorem (demand 2): what it lists, states and leaves in the cells is true
    pub truthful : Truthful e.key_length w.has e.flows e.packets s
    truthful =
        let i = stands-holds in
        record {
          listed-once = i.apart;
          listed-counted = i.inside;
          counts-true = λ k n q. stated (counted s k) n (e.packets k) (sym (counts-said e.packets s i.apart i.right k) ∙ q);
          cells_left = left_is w e s i;
        }

    -- Theorem (demand 2): at rest nothing is left to do
    pub rest-ends : AtRest w.size w.has s → AtEnd w.has e.flows s
    rest-ends q = record {
      none-unlisted = rest-closed w e s stands-holds q;
      none-uncounted = λ c x full. counted-closed w e s stands-holds q c x;
    }

    -- Theorem: at rest it has just what its flowset and the flows handed over yield
    pub rest-yields : AtRest w.size w.has s → Yields w.has e.flows e.packets s
    rest-yields q =
        let i = stands-holds in
        record {
          flows-only = i.inside;
          counts-true = counts-said e.packets s i.apart i.right;
          closed = rest-closed w e s i q;
          least = λ X cl h. listed-least w e (received w e) holds₀ X cl (λ k m. none-listed k m) g.run h;
          counted-closed = counted-closed w e s i q;
          counted-least = λ X cl. counted-least w e (received w e) holds₀ X cl
              (λ k m. none-listed k (counted-listed (received w e) k m)) g.run;
        }

    -- Theorem: with no hand-over, every listed flow is counted
    pub none-short : handed_of s.list ≡ [] → (k : Key) → listed ended k ≡ true → counted ended k ≡ true
    none-short z = all-counted w e (received w e) holds₀ ending.0.run ending.2 (λ k m. none-listed k m)
        (λ k m. among_none k (rw (settle-handed w.size w.has s, z) at m))

  -- ---- two of them, at rest
  module _ (s t : Session) (g : Stands w e s) (h : Stands w e t) (p : AtRest w.size w.has s) (q : AtRest w.size w.has t) where
    counted-alike : (k : Key) → counted s k ≡ counted t k
    counted-alike = same-counted w e (received w e) holds₀ g.run h.run p q

    -- Theorem: hand-overs never add a count
    pub counts-alike : (k : Key) → count_of s.list k ≡ count_of t.list k
    counts-alike k = (rest-yields s g p).counts-true k ∙ ap (λ b. cond b (some (e.packets k)) none) (counted-alike k)
        ∙ sym ((rest-yields t h q).counts-true k)

    -- Theorem (demand 3): with the same flows handed over they are the same
    pub rest-alike : ((k : Key) → handed_over s k ≡ handed_over t k) → Same s t
    rest-alike same = record {
      first-once = (stands-holds s g).apart;
      second-once = (stands-holds t h).apart;
      same_keys = same-listed w e (received w e) holds₀ g.run h.run p q same;
      same-handed = same;
      same-counts = counts-alike;
      same-cells = same-cells w e (received w e) holds₀ g.run h.run p q same;
    }

  module _ (s : Session) (g : Stands w e s) where
    -- Theorem: the counts at rest are those that the flowset yields by itself
    pub counts_alone : AtRest w.size w.has s → (k : Key) → count_of s.list k ≡ count_of (settle_at w (received w e)).state.list k
    counts_alone q = counts-alike s (ended (received w e) stands-received) g (stands-settled (received w e) stands-received) q
        (settled-rest (received w e) stands-received)

    -- ---- the reference: the flows handed over are taken out first
    abbrev accepted : List Key
    accepted = handed_of s.list

    abbrev taken : Session
    taken = take_all_out w.has accepted (received w e)

    taken-stands : Stands w e taken
    unfolding keys_of keys_where among
    taken-stands = all_go w e (received w e) holds₀ accepted (received w e) stands-received
        (where-distinct (λ r. r.handed) s.list (stands-holds s g).apart)
        (λ k m. ((stands-holds s g).inside k (where-listed (λ r. r.handed) s.list k m), refl)) (omega (arith, g.fits.handed-room))

    -- Theorem (demand 3): after a settling the session is the one that the received flowset gives
    -- when the flows handed over are taken out first
    pub settled-alike : Same (ended s g) (reference w.size w.has (received w e).cells accepted)
    unfolding keys_where among
    settled-alike =
        let h = taken-stands in
        rest-alike (ended s g) (ended taken h) (stands-settled s g) (stands-settled taken h) (settled-rest s g) (settled-rest taken h)
        (λ k. ap (among k) (settle-handed w.size w.has s) ∙ sym (all-handed w.has accepted (received w e) k)
        ∙ ap (among k) (sym (settle-handed w.size w.has taken)))
