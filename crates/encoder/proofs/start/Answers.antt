-- `encoder::start` meets its contract.
use Rattle.std.proofs.lemmas.Result.{err_from_is_err_and}
use Rattle.encoder.proofs.Answers.{start-not-lent, start-done}
use Rattle.encoder.proofs.start.Goals as goal

pub returns-in_err-lent_shape : goal.returns-in_err-lent_shape
returns-in_err-lent_shape c =
    let p = err_from_is_err_and c.from_residual.result c.from_residual.ensures.1 in
    rw (p.1, p.2) (start-not-lent c.args.z c.args.filter.now c.args.cells.now _ c.in_err-lent_shape.ensures)

pub returns : goal.returns
returns c = start-done c.args.z c.args.filter.now c.args.cells.now c.in_ok-lent_shape.ensures (c.fill.ensures.after (λ y e. e)) (c.fill-2.ensures.after (λ y e. e))
