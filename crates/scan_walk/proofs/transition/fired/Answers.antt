use Rattle.std.proofs.Common.{refl}
use Rattle.std.proofs.lemmas.Result.{err_from_is_err_and}
use Rattle.acts.proofs.Walk.{and_does, and_stops, does_ends_as, then_does, then_stops}
use Rattle.scan_walk.proofs.transition.fired.Goals as goal

pub returns-in_err-a : goal.returns-in_err-a
returns-in_err-a g c =
    let p = err_from_is_err_and c.from_residual.result c.from_residual.ensures.1 in
    rw (p.1, p.2) (then_stops _ _ _ _ _ _ _ _ (rw (c.about.ensures, c.deref.ensures) at c.in_err-a.ensures))

pub returns-in_err-state_set : goal.returns-in_err-state_set
returns-in_err-state_set g c =
    let p = err_from_is_err_and c.from_residual-in_err-state_set.result c.from_residual-in_err-state_set.ensures.1 in
    rw (p.1, p.2)
    (then_does _ _ _ _ _ _ _ _ _ (rw (c.about.ensures, c.deref.ensures) at c.in_ok-a.ensures)
    (and_stops _ _ _ _ _ _ _ _ c.in_err-state_set.ensures))

pub returns-in_err-permission_set : goal.returns-in_err-permission_set
returns-in_err-permission_set g c =
    let p = err_from_is_err_and c.from_residual-in_err-permission_set.result c.from_residual-in_err-permission_set.ensures.1 in
    rw (p.1, p.2)
    (then_does _ _ _ _ _ _ _ _ _ (rw (c.about.ensures, c.deref.ensures) at c.in_ok-a.ensures)
    (and_does _ _ _ _ _ _ _ _ _ c.in_ok-state_set.ensures
    (and_stops _ _ _ _ _ _ _ _ c.in_err-permission_set.ensures)))

pub returns : goal.returns
returns g c =
    then_does _ _ _ _ _ _ _ _ _ (rw (c.about.ensures, c.deref.ensures) at c.in_ok-a.ensures)
    (and_does _ _ _ _ _ _ _ _ _ c.in_ok-state_set.ensures
    (and_does _ _ _ _ _ _ _ _ _ c.in_ok-permission_set.ensures (does_ends_as _ _ _ _ refl)))
