-- Runs: hand-overs of flows, peels and count steps at any cell, in any order; sets of flows closed under peeling and counting.
use Rattle.std.specs.Prelude.{◌≡◌, Bool, true, false, List, ℕ, ◌<◌}
use Rattle.theory.specs.Encode.{Key, among, Placement, Only, outside}
use Rattle.theory.specs.Session.{Session, listed, pure, ready, the_unknown, take_out, set_count}
use Rattle.theory.specs.HandOver.{Switch}
use Rattle.theory.specs.Fits.{Fits}
use Rattle.theory.specs.Invariant.{Counted, received}

pub data Run (has : Placement) (F : List Key) (s₀ : Session) : Session → Type 0 where
  start : Run has F s₀ s₀
  handed : {s : Session} (x : Key) → Run has F s₀ s → among x F ≡ true → listed s x ≡ false → Run has F s₀ (take_out has true x s)
  peeled : {s : Session} (c : ℕ) → Run has F s₀ s → pure has s.cells c ≡ true → Run has F s₀ (take_out has false (s.cells c).flow_xor s)
  told : {s : Session} (c : ℕ) → Run has F s₀ s → ready has s c ≡ true
      → Run has F s₀ (set_count has (the_unknown has s.list c) (s.cells c).packet_count s)

-- a run with the room that the test of 8 asks for
pub record Going (w : Switch) (F : List Key) (s₀ s : Session) : Type 0 where
  pub run : Run w.has F s₀ s
  pub fits : Fits w.size s

-- a session of the flows that a switch counted: a run from what it received
abbrev pub Stands : (w : Switch) → Counted w → Session → Type 0
Stands w e = Going w e.flows (received w e)

-- no cell has exactly one flow of F outside X
abbrev pub PeelClosed : Placement → List Key → (Key → Bool) → Type 0
PeelClosed has F X = (c : ℕ) (x : Key) → Only (outside has X c) F x → ⊥

-- no cell is pure, and none is ready
pub record AtRest (n : ℕ) (has : Placement) (s : Session) : Type 0 where
  pub none-pure : (c : ℕ) → c < n → pure has s.cells c ≡ false
  pub none-ready : (c : ℕ) → c < n → ready has s c ≡ false
