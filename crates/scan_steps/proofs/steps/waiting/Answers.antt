use Rattle.std.proofs.Common.{refl}
use Rattle.std.proofs.lemmas.Result.{err_from_is_err_and}
use Rattle.acts.proofs.Walk.{and_does, and_stops, does_ends_as}
use Rattle.scan_steps.proofs.steps.waiting.Goals as goal

pub returns-in_err-again : goal.returns-in_err-again
returns-in_err-again g c =
    let p = err_from_is_err_and c.from_residual.result c.from_residual.ensures.1 in rw (p.1, p.2) (and_stops _ _ _ _ _ _ _ _ c.in_err-again.ensures)

pub returns : goal.returns
returns g c = and_does _ _ _ _ _ _ _ _ _ c.in_ok-again.ensures (does_ends_as _ _ _ _ refl)
