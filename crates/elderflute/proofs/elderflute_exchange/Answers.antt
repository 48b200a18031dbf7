-- The lists of the two sessions that the numbers are are exchanged.
use Rattle.elderflute.proofs.Answers.{exchange-call}
use Rattle.elderflute.proofs.elderflute_exchange.Goals as goal

pub returns : goal.returns
returns c =
    let a = c.args in
    exchange-call a.first.now a.listed.now a.second.now a.beside.now a.told.now _ c.session_of-s.ensures c.session_of-t.ensures c.exchange-x.ensures
    c.put_exchanged.ensures
