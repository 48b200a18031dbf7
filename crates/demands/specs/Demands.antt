-- What the code shows of a session, for demands 2 and 3; how it all begins; and what a call later needs to know.
use Rattle.std.specs.Prelude.{◌≡◌, List, ℕ, ◌^◌, ◌<◌, length, replicate, Result, Ok, Err}
use Rattle.std.proofs.Math.Option.{Option, some, none}
use Rattle.layout.specs.declared.Layout.{Layout}
use Rattle.layout.specs.declared.Sizes.{Sizes}
use Rattle.layout.specs.Sizes.{table_cells}
use Rattle.meaning.specs.Meaning as encoder
use Rattle.sealing.specs.Seal.{seal_of, sealing}
use Rattle.room.specs.Memory.{Memory}
use Rattle.opening.specs.Open.{open_of, opening}
use Rattle.hash.specs.Places.{has_cell}
use Rattle.session.specs.Calls.{settle_of, settle_number, report_on}
use Rattle.session.specs.declared.SessionError.{SessionError}
use Rattle.summary.specs.declared.Report.{Report}
use Rattle.summary.specs.declared.State.{State}
use Rattle.summary.specs.declared.State.TheVariants as state
use Rattle.theory.specs.Encode.{Key, Taken, flows_of, packets_of}
use Rattle.theory.specs.HandOver.{Switch, settling}
use Rattle.theory.specs.Report as theory
use Rattle.theory.specs.Exchange.{PassesOwn}
use Rattle.theory.specs.Invariant.{Counted}
use Rattle.theory.specs.Runs.{Stands}
use Rattle.theory.specs.Demands.{Shown, Demand2, Demand3}
use Rattle.demands.specs.Calls.{Live, call_on, viewed, switch_at, Passing}

-- ---- what is received
-- working memory m was sealed, read at its slot and opened, each with answer 0; v is what stands then
pub record Received (l : Layout) (z : Sizes) (salt slot : ℕ) (m : encoder.Memory) (v : Live) : Type 0 where
  pub salt-fits : salt < 2 ^ 32
  pub slot-fits : slot < 2 ^ 32
  pub image_room : List ℕ
  pub image : List ℕ
  pub room : Memory
  pub sealed : seal_of l z salt slot m.filter m.cells image_room ≡ sealing (Ok tt) image
  pub opened : open_of l image slot room ≡ opening (Ok v.numbers) v.room

-- ---- what is shown
abbrev pub state_as : State → theory.State
state_as state.Stuck = theory.stuck
state_as state.Short = theory.short
state_as state.Stray = theory.stray
state_as state.Whole = theory.whole

-- the numbers of a report as the theory has them
abbrev pub report_as : Report → theory.Report
report_as r = record { listed = r.listed; counted = r.counted; opens = r.opens; state = state_as r.state }

-- a report that is refused tells nothing
abbrev pub told_by : Result Report SessionError → Option theory.Report
told_by (Ok r) = some (report_as r)
told_by (Err e) = none

-- 02 b: "every FlowXOR and PacketCount to be zero", and no FlowCount above 0: the cells of lent room are all zero
pub record CellsZero (m : Memory) : Type 0 where
  pub xors : m.table.xors ≡ replicate (length m.table.xors) 0
  pub flows : m.table.flows ≡ replicate (length m.table.flows) 0
  pub packets : m.packets ≡ replicate (length m.packets) 0

-- what the calls show of a session: its cells and list, the report call, and the settle call's number and what it leaves
abbrev pub shown : Layout → Live → Shown
shown l v = record {
  stands = viewed l v;
  told = told_by (report_on l v.numbers v.room);
  number = settle_number (settle_of l v.numbers v.room).answer;
  settled = viewed l (call_on l settling v);
}

-- ---- the demands, of a session v; these packets were taken, and these flows accepted
abbrev pub Demand2At : Layout → Sizes → ℕ → List Taken → Live → Type 0
Demand2At l z salt taken v = Demand2 (table_cells l z) l.key (has_cell l z salt) (flows_of taken) (packets_of taken) (shown l v)

abbrev pub Demand3At : Layout → Sizes → ℕ → List Taken → List Key → Live → Type 0
Demand3At l z salt taken accepted v = Demand3 (table_cells l z) l.key (has_cell l z salt) (flows_of taken) (packets_of taken) accepted (shown l v)

-- ---- for later calls
-- a session of the flows F that switch w counted, after any calls
pub record StandsAt (l : Layout) (w : Switch) (F : Counted w) (u : Live) : Type 0 where
  pub switch-is : switch_at l u ≡ w
  pub passing : Passing l u
  pub stands : Stands w F (viewed l u)
  pub own : PassesOwn w F
