-- `test8::CellNumbers::are_kept` meets its contract.
use Rattle.std.proofs.Common.{◌∙◌, sym, arith}
use Rattle.test8.proofs.Answers.{same-first}
use Rattle.test8.proofs.CellNumbers.are_kept.Goals as goal

pub returns-then-eq : goal.returns-then-eq
returns-then-eq c =
    let a = c.args in
    let u = same-first a.unknowns.now a.self.now.unknowns a.cells c.requires.1 (omega arith) in
    let p = same-first a.positions.now a.self.now.positions a.cells c.requires.2 (omega arith) in
    rw (sym u ∙ sym c.eq.ensures ∙ c.if-eq.true) (c.eq-then-eq.ensures ∙ p)

pub returns-else-eq : goal.returns-else-eq
returns-else-eq c =
    let a = c.args in
    let u = same-first a.unknowns.now a.self.now.unknowns a.cells c.requires.1 (omega arith) in
    rw (sym u ∙ sym c.eq.ensures ∙ c.if-eq.false) c.if-eq.false
