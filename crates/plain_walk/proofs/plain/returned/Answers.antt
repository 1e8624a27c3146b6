use Rattle.std.proofs.Common.{refl}
use Rattle.std.proofs.lemmas.Result.{err_from_is_err_and}
use Rattle.acts.proofs.Walk.{does_ends_as, then_does, then_stops}
use Rattle.plain_walk.proofs.plain.returned.Goals as goal

pub returns-in-None : goal.returns-in-None
returns-in-None g c = rw c.in-None.is (does_ends_as _ _ _ _ refl)

pub returns-in_err-t-in-Some : goal.returns-in_err-t-in-Some
returns-in_err-t-in-Some g c =
    let p = err_from_is_err_and c.from_residual.result c.from_residual.ensures.1 in
    rw c.in-Some.is (rw (p.1, p.2) (then_stops _ _ _ _ _ _ _ _ c.in_err-t-in-Some.ensures))

pub returns-in_ok-t-in-Some : goal.returns-in_ok-t-in-Some
returns-in_ok-t-in-Some g c = rw c.in-Some.is (then_does _ _ _ _ _ _ _ _ _ c.in_ok-t-in-Some.ensures (does_ends_as _ _ _ _ refl))
