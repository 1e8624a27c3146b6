use Rattle.std.proofs.lemmas.Result.{err_from_is_err_and}
use Rattle.acts.proofs.Walk.{then_does, then_stops}
use Rattle.body_meaning.specs.Prelude.{changed}
use Rattle.plain_walk.proofs.changes.changed.Goals as goal

pub returns-in_err-p : goal.returns-in_err-p
unfolding changed
returns-in_err-p g c =
    let p = err_from_is_err_and c.from_residual.result c.from_residual.ensures.1 in rw (p.1, p.2) (then_stops _ _ _ _ _ _ _ _ c.in_err-p.ensures)

pub returns : goal.returns
unfolding changed
returns g c = then_does _ _ _ _ _ _ _ _ _ c.in_ok-p.ensures c.changed_at.ensures
