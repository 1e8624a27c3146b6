use Rattle.std.proofs.Common.{refl}
use Rattle.std.proofs.lemmas.Result.{err_from_is_err_and}
use Rattle.acts.proofs.Walk.{does_ends_as, then_does, then_stops}
use Rattle.plain_walk.proofs.changes.put_back.Goals as goal

pub returns-in_err-x : goal.returns-in_err-x
returns-in_err-x g c =
    let p = err_from_is_err_and c.from_residual.result c.from_residual.ensures.1 in rw (p.1, p.2) (then_stops _ _ _ _ _ _ _ _ c.in_err-x.ensures)

pub returns-in_err-with_place : goal.returns-in_err-with_place
returns-in_err-with_place g c =
    let p = err_from_is_err_and c.from_residual-in_err-with_place.result c.from_residual-in_err-with_place.ensures.1 in rw (p.1, p.2) (then_does _ _ _ _ _ _ _ _ _ c.in_ok-x.ensures (then_stops _ _ _ _ _ _ _ _ c.in_err-with_place.ensures))

pub returns : goal.returns
returns g c = then_does _ _ _ _ _ _ _ _ _ c.in_ok-x.ensures (then_does _ _ _ _ _ _ _ _ _ c.in_ok-with_place.ensures (does_ends_as _ _ _ _ refl))
