use Rattle.std.proofs.Common.{refl}
use Rattle.std.proofs.lemmas.Result.{err_from_is_err_and}
use Rattle.acts.proofs.Walk.{does_ends_as, false_does, then_does, then_stops, true_does}
use Rattle.scan_walk.proofs.Short.{none_more, some_more}
use Rattle.scan_walk.proofs.actions.table_short.Goals as goal

pub returns-then-not-has_more : goal.returns-then-not-has_more
returns-then-not-has_more g c = true_does _ _ _ _ _ _ _ (none_more _ c.if-not-has_more.ensures) (does_ends_as _ _ _ _ refl)

pub returns-in_err-free : goal.returns-in_err-free
returns-in_err-free g c =
    let p = err_from_is_err_and c.from_residual.result c.from_residual.ensures.1 in
    rw (p.1, p.2) (false_does _ _ _ _ _ _ _ (some_more _ c.if-not-has_more.ensures) (then_stops _ _ _ _ _ _ _ _ c.in_err-free.ensures))

pub returns : goal.returns
returns g c =
    false_does _ _ _ _ _ _ _ (some_more _ c.if-not-has_more.ensures) (then_does _ _ _ _ _ _ _ _ _ c.in_ok-free.ensures (does_ends_as _ _ _ _ c.has_more-2.ensures))
