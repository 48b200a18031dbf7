-- `opening::mark_pure` meets its contract.
use Rattle.std.proofs.Common.{◌≡◌}
use Rattle.table.specs.Table.{tab, tab_of, TableKept}
use Rattle.opening.proofs.Pure.{marks_to}
use Rattle.opening.proofs.mark_pure.Given as goal

abbrev pub invariant-loop-c : goal.invariant-loop-c
invariant-loop-c l =
    let t = l.initial.table in
    (tab_of l.table ≡ tab t.xors.now t.flows.now t.unknowns.now t.positions.now (marks_to l.p.shape.layout l.p.shape.sizes l.p.salt t.xors.now t.flows.now l.c))
    × TableKept l.table t
