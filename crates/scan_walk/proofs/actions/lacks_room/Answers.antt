use Rattle.std.proofs.Common.{refl}
use Rattle.std.proofs.lemmas.Result.{err_from_is_err_and}
use Rattle.acts.proofs.Walk.{does_ends_as, false_does, then_does, then_stops, true_does}
use Rattle.scan_walk.proofs.actions.lacks_room.Goals as goal

pub returns-in_err-short : goal.returns-in_err-short
returns-in_err-short g c =
    let p = err_from_is_err_and c.from_residual.result c.from_residual.ensures.1 in
    rw (p.1, p.2) (then_stops _ _ _ _ _ _ _ _ (rw c.deref.ensures at c.in_err-short.ensures))

pub returns-then-short : goal.returns-then-short
returns-then-short g c =
    then_does _ _ _ _ _ _ _ _ _ (rw c.deref.ensures at c.in_ok-short.ensures) (true_does _ _ _ _ _ _ _ c.if-short.true (does_ends_as _ _ _ _ refl))

pub returns : goal.returns
returns g c =
    then_does _ _ _ _ _ _ _ _ _ (rw c.deref.ensures at c.in_ok-short.ensures) (false_does _ _ _ _ _ _ _ c.if-short.false (rw c.deref-2.ensures at c.is_short-2.ensures))
