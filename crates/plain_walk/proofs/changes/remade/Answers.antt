use Rattle.std.proofs.lemmas.Result.{err_from_is_err_and}
use Rattle.acts.proofs.Walk.{then_does, then_stops}
use Rattle.plain_walk.proofs.changes.remade.Goals as goal

pub returns-in_err-w : goal.returns-in_err-w
returns-in_err-w g c =
    let p = err_from_is_err_and c.from_residual.result c.from_residual.ensures.1 in rw (p.1, p.2) (then_stops _ _ _ _ _ _ _ _ c.in_err-w.ensures)

pub returns : goal.returns
returns g c = then_does _ _ _ _ _ _ _ _ _ c.in_ok-w.ensures c.put_back.ensures
