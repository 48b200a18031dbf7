use Rattle.std.proofs.Common.{sym, ap}
use Rattle.std.proofs.lemmas.Result.{err_from_is_err_and}
use Rattle.list.specs.Found.{list_of}
use Rattle.table.specs.Table.{tab_of}
use Rattle.settling.specs.Settle.{stop_after}
use Rattle.settling.proofs.Laws.{settle-stopped, settle-counted, count_fits}
use Rattle.settling.proofs.settle_all.Goals as goal

pub returns-in_err-listed-clause-value : goal.returns-in_err-listed-clause-value
returns-in_err-listed-clause-value c =
    let a = c.args in
    let s = a.p.shape in
    let q = err_from_is_err_and c.from_residual.result c.from_residual.ensures.1 in
    rw (q.1, q.2)
    (settle-stopped s.layout s.sizes a.p.salt a.n (tab_of a.table.now) a.packets.now (list_of a.list.now) a.seen.now c.peels.ensures.value c.in_err-listed.was)

pub count_all-requires : goal.count_all-requires
count_all-requires c =
    let a = c.args in
    let s = a.p.shape in
    count_fits s.layout s.sizes a.p.salt a.n (tab_of a.table.now) a.packets.now (list_of a.list.now) a.seen.now c.peels.ensures.value c.in_ok-listed.was
    c.requires.0 c.requires.1

pub returns-in-Ok-clause-value : goal.returns-in-Ok-clause-value
returns-in-Ok-clause-value c =
    let a = c.args in
    let s = a.p.shape in
    settle-counted s.layout s.sizes a.p.salt a.n (tab_of a.table.now) a.packets.now (list_of a.list.now) a.seen.now c.peels.ensures.value c.in_ok-listed.was
    c.count_all.ensures (ap (stop_after c.in_ok-listed.listed) (sym c.in-Ok.is))

pub returns-in-Err-clause-value : goal.returns-in-Err-clause-value
returns-in-Err-clause-value c =
    let a = c.args in
    let s = a.p.shape in
    settle-counted s.layout s.sizes a.p.salt a.n (tab_of a.table.now) a.packets.now (list_of a.list.now) a.seen.now c.peels.ensures.value c.in_ok-listed.was
    c.count_all.ensures (ap (stop_after c.in_ok-listed.listed) (sym c.in-Err.is))
