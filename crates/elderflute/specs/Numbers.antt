-- The numbers of a session and of a report as they lie behind a pointer.
use Rattle.std.specs.Prelude.{List, [], ◌∷◌, ℕ, get_or}
use Rattle.layout.specs.declared.Sizes.{Sizes}
use Rattle.room.specs.declared.Session.{Session}
use Rattle.summary.specs.declared.State.{State}
use Rattle.summary.specs.declared.State.TheVariants.{Stuck, Short, Stray, Whole}
use Rattle.summary.specs.declared.Report.{Report}

-- version 0.1.0 as one number: 1,000,000 times its first number, 1,000 times its second, and its third
abbrev pub version_number : ℕ
version_number = 1000

abbrev pub sizes_of : ℕ → ℕ → ℕ → ℕ → Sizes
sizes_of kf f k q = record { kf = kf; f = f; k = k; q = q }

-- a session from its six numbers, kf, F, k, q, salt and slot, and how many flows are listed
abbrev pub session_of : List ℕ → ℕ → Session
session_of numbers listed = record {
  sizes = sizes_of (get_or numbers 0 0) (get_or numbers 1 0) (get_or numbers 2 0) (get_or numbers 3 0);
  salt = get_or numbers 4 0;
  slot = get_or numbers 5 0;
  listed = listed;
}

-- the six numbers of an image
abbrev pub numbers_of : Sizes → ℕ → ℕ → List ℕ
numbers_of z salt slot = z.kf ∷ z.f ∷ z.k ∷ z.q ∷ salt ∷ slot ∷ []

abbrev pub state_number : State → ℕ
state_number Whole = 0
state_number Short = 1
state_number Stuck = 2
state_number Stray = 3

-- 01 'A session', Report: "listed, counted (known counts), open (cells with FlowCount above 0), .. and a state"
abbrev pub figures_of : Report → List ℕ
figures_of t = t.listed ∷ t.counted ∷ t.opens ∷ state_number t.state ∷ []
