use Rattle.std.proofs.Common.{refl}
use Rattle.std.proofs.lemmas.Result.{err_from_is_err_and}
use Rattle.acts.proofs.Walk.{does_ends_as, then_does, then_stops}
use Rattle.scan_walk.proofs.actions.+actions_done.Goals as goal

pub returns-in-None : goal.returns-in-None
returns-in-None g t c = rw c.in-None.ensures (does_ends_as _ _ _ _ refl)

pub returns-in_err-left-in-Some : goal.returns-in_err-left-in-Some
returns-in_err-left-in-Some g t c =
    let p = err_from_is_err_and c.from_residual.result c.from_residual.ensures.1 in
    rw (p.1, p.2, c.in-Some.ensures) (then_stops _ _ _ _ _ _ _ _ c.in_err-left-in-Some.ensures)

pub returns-in_ok-left-in-Some : goal.returns-in_ok-left-in-Some
returns-in_ok-left-in-Some g t c = rw c.in-Some.ensures (then_does _ _ _ _ _ _ _ _ _ c.in_ok-left-in-Some.ensures c.actions_done.ensures)
