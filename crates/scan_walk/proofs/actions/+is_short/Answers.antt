use Rattle.std.proofs.Common.{refl}
use Rattle.std.proofs.lemmas.Result.{err_from_is_err_and}
use Rattle.acts.proofs.Walk.{does_ends_as, false_does, then_does, then_stops, true_does}
use Rattle.scan_walk.proofs.actions.+is_short.Goals as goal

pub returns-in-None : goal.returns-in-None
returns-in-None g t c = rw c.in-None.ensures (does_ends_as _ _ _ _ refl)

pub returns-in_err-short-in-Some : goal.returns-in_err-short-in-Some
returns-in_err-short-in-Some g t c =
    let p = err_from_is_err_and c.from_residual.result c.from_residual.ensures.1 in
    rw (p.1, p.2, c.in-Some.ensures) (then_stops _ _ _ _ _ _ _ _ c.in_err-short-in-Some.ensures)

pub returns-then-short : goal.returns-then-short
returns-then-short g t c =
    rw c.in-Some.ensures (then_does _ _ _ _ _ _ _ _ _ c.in_ok-short-in-Some.ensures (true_does _ _ _ _ _ _ _ c.if-short.true (does_ends_as _ _ _ _ refl)))

pub returns-else-short : goal.returns-else-short
returns-else-short g t c =
    rw c.in-Some.ensures (then_does _ _ _ _ _ _ _ _ _ c.in_ok-short-in-Some.ensures (false_does _ _ _ _ _ _ _ c.if-short.false c.is_short.ensures))
