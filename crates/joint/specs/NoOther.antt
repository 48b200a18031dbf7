-- Request m of document 02 about the calls: an image is opened, calls follow, and the report says whole.
use Rattle.std.specs.Prelude.{◌≡◌, List, ℕ, Ok}
use Rattle.laws.specs.BigEndian.{Bytes}
use Rattle.layout.specs.declared.Layout.{Layout}
use Rattle.layout.specs.declared.Sizes.{Sizes}
use Rattle.layout.specs.Sizes.{table_cells}
use Rattle.reading.specs.Read.{cells_in}
use Rattle.room.specs.Memory.{Memory}
use Rattle.opening.specs.Open.{open_of, opening}
use Rattle.session.specs.Calls.{report_on}
use Rattle.summary.specs.declared.Report.{Report}
use Rattle.summary.specs.declared.State.TheVariants.{Whole}
use Rattle.meaning.specs.View.{table_of, placement_of}
use Rattle.theory.specs.Encode.{Key}
use Rattle.theory.specs.NoOther.{EncodesTo}
use Rattle.demands.specs.Calls.{Live}
use Rattle.joint.specs.History.{History}

-- the report call says whole
pub record SaysWhole (l : Layout) (u : Live) : Type 0 where
  pub report : Report
  pub told : report_on l u.numbers u.room ≡ Ok report
  pub state-is : report.state ≡ Whole

-- 02 m: "a session of any readable image reports whole": these bytes are opened, so they are read; v is what stands then, and u what stands after any
-- hand-overs, settlings and exchanges, of which 02 m asks for settlings only
pub record ReportsWhole (l : Layout) (image : List ℕ) (slot : ℕ) (v u : Live) : Type 0 where
  pub bytes : Bytes image
  pub room : Memory
  pub opened : open_of l image slot room ≡ opening (Ok v.numbers) v.room
  pub since : History l v u
  pub says : SaysWhole l u

-- 02 m: "any collection of distinct flows with positive counts that encodes to the received cells": those that an image of these sizes and this
-- salt holds
abbrev pub EncodesToImage : Layout → Sizes → ℕ → List ℕ → List Key → (Key → ℕ) → Type 0
EncodesToImage l z salt image = EncodesTo (table_cells l z) l.key (placement_of l z salt) (table_of l z (cells_in l z image))
