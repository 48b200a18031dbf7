-- One law for each way that it goes.
use native.Mathlib.Omega.{arith}
use Rattle.laws.proofs.Bools.{held, failed}
use Rattle.elderflute.proofs.Lines.{lines_fit, lines-sizes, lines-room, lines-refused, lines-done, lines-told}
use Rattle.elderflute.proofs.elderflute_lines.Goals as goal

pub returns-then-not-in_range : goal.returns-then-not-in_range
returns-then-not-in_range c =
    let a = c.args in
    lines-told a.numbers.now a.listed a.lines.now a.written.now _ c.session_of-s.ensures
    (lines-sizes _ _ _ _ (failed c.in_range.ensures c.if-not-in_range.true))

pub returns-then-lines-ne-MOST : goal.returns-then-lines-ne-MOST
returns-then-lines-ne-MOST c =
    let a = c.args in
    lines-told a.numbers.now a.listed a.lines.now a.written.now _ c.session_of-s.ensures
    (lines-room _ _ _ _ (held c.in_range.ensures c.if-not-in_range.false) c.if-lines-ne-MOST.true)

pub returns-in-Err : goal.returns-in-Err
returns-in-Err c =
    let a = c.args in
    lines-told a.numbers.now a.listed a.lines.now a.written.now _ c.session_of-s.ensures
    (lines-refused _ _ _ _ (held c.in_range.ensures c.if-not-in_range.false) c.if-lines-ne-MOST.false _ c.report.ensures
    c.in-Err.is c.number.ensures)

pub put_listed-requires : goal.put_listed-requires
put_listed-requires c =
    let q = lines_fit c.session_of-s.result _ _ c.report.ensures c.in_default.is in
    (omega (arith, c.if-lines-ne-MOST.false), q.few, q.cells, q.keys, q.counts, q.flags)

pub returns : goal.returns
returns c =
    let a = c.args in
    lines-told a.numbers.now a.listed a.lines.now a.written.now _ c.session_of-s.ensures
    (lines-done _ _ _ _ (held c.in_range.ensures c.if-not-in_range.false) c.if-lines-ne-MOST.false _ c.report.ensures
    c.in_default.is c.put_listed.ensures)
