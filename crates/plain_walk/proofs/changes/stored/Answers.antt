use Rattle.std.proofs.lemmas.Result.{err_from_is_err_and}
use Rattle.acts.proofs.Walk.{then_does, then_stops}
use Rattle.plain_walk.proofs.changes.stored.Goals as goal

pub returns-in_err-block : goal.returns-in_err-block
returns-in_err-block g c =
    let p = err_from_is_err_and c.from_residual.result c.from_residual.ensures.1 in rw (p.1, p.2) (then_stops _ _ _ _ _ _ _ _ c.in_err-block.ensures)

pub returns-in_err-others : goal.returns-in_err-others
returns-in_err-others g c =
    let p = err_from_is_err_and c.from_residual-in_err-others.result c.from_residual-in_err-others.ensures.1 in rw (p.1, p.2) (then_does _ _ _ _ _ _ _ _ _ c.in_ok-block.ensures (then_stops _ _ _ _ _ _ _ _ c.in_err-others.ensures))

pub returns : goal.returns
returns g c = then_does _ _ _ _ _ _ _ _ _ c.in_ok-block.ensures (then_does _ _ _ _ _ _ _ _ _ c.in_ok-others.ensures c.rewritten.ensures)
