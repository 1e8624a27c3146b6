use Rattle.std.proofs.Common.{refl}
use Rattle.std.proofs.lemmas.Result.{err_from_is_err_and}
use Rattle.scan_steps.proofs.Tries.{looked_up_tries, then_halts, then_tries, told_tries_as, tries_stops}
use Rattle.scan_walk.proofs.transition.tried.Goals as goal

pub returns-in_err-state : goal.returns-in_err-state
returns-in_err-state g c =
    let p = err_from_is_err_and c.from_residual.result c.from_residual.ensures.1 in
    rw (p.1, p.2)
    (then_halts _ _ _ _ _ _ _ _ (told_tries_as _ _ _ _ _ _ _ (rw c.known.ensures at c.in_err-state.ensures) (rw c.about.ensures at c.state_by.ensures)))

pub returns-in-None : goal.returns-in-None
returns-in-None g c =
    then_tries _ _ _ _ _ _ _ _ _ (told_tries_as _ _ _ _ _ _ _ (rw c.known.ensures at c.in_ok-state.ensures) (rw c.about.ensures at c.state_by.ensures))
    (rw (← c.in-None.ensures) (looked_up_tries _ _ _ _ _ _ (tries_stops _ _ _ _ _ refl)))

pub returns-in-Some : goal.returns-in-Some
returns-in-Some g c =
    then_tries _ _ _ _ _ _ _ _ _ (told_tries_as _ _ _ _ _ _ _ (rw c.known.ensures at c.in_ok-state.ensures) (rw c.about.ensures at c.state_by.ensures))
    (rw (← c.in-Some.ensures)
    (looked_up_tries _ _ _ _ _ _ (told_tries_as _ _ _ _ _ _ _ (rw c.known-in-Some.ensures at c.told-in-Some.ensures) c.row_tried.ensures)))
