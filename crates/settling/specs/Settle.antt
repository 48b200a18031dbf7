-- Settling: 01 'A session', "while a cell is marked, take out .. Then, while a cell is ready, ..".
use Rattle.std.specs.Prelude.{List, ℕ, Ok, Err}
use Rattle.layout.specs.declared.Layout.{Layout}
use Rattle.layout.specs.declared.Sizes.{Sizes}
use Rattle.list.specs.Records.{Records}
use Rattle.table.specs.Table.{Tab, tab}
use Rattle.peeling.specs.Peel.{Stop, damage, peels_of}
use Rattle.counting.specs.Count.{counts_of}
use Rattle.counting.specs.Count as counts

pub record Settled : Type 0 where
  pub answer : Stop
  pub table : Tab
  pub packets : List ℕ
  pub list : Records
  pub seen : List ℕ

abbrev pub settled : Stop → Tab → List ℕ → Records → List ℕ → Settled
settled answer t packets rs seen = record { answer = answer; table = t; packets = packets; list = rs; seen = seen }

-- how settling ends after counting, with n flows listed
abbrev pub stop_after : ℕ → counts.Stop → Stop
stop_after n (Ok u) = Ok n
stop_after n (Err c) = Err (damage n c)

-- the lists after counting; marks, FlowXOR, FlowCount and keys stay
unfoldable pub after_counts : ℕ → Tab → List ℕ → counts.Ended → Settled
after_counts n t seen e =
    settled (stop_after n e.answer) (tab t.xors t.flows e.unknowns e.positions t.marks) e.packets e.list seen

-- a 14 while peeling ends the settling
unfoldable pub then_counts : Layout → Sizes → ℕ → List ℕ → Tab → Records → List ℕ → Stop → Settled
then_counts l z salt packets t rs seen (Ok n) =
    after_counts n t seen (counts_of l z salt n t.flows packets t.unknowns t.positions rs)
then_counts l z salt packets t rs seen (Err d) = settled (Err d) t packets rs seen

-- 01 'A session', Settle
unfoldable pub settle_of : Layout → Sizes → ℕ → ℕ → Tab → List ℕ → Records → List ℕ → Settled
settle_of l z salt n t packets rs seen =
    let p = peels_of l z salt n t rs seen in
    then_counts l z salt packets p.table p.list p.seen p.answer
