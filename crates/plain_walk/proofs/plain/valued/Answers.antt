use Rattle.std.proofs.Common.{ap}
use Rattle.std.proofs.lemmas.Result.{err_from_is_err_and}
use Rattle.acts.proofs.Walk.{does_ends_as, then_does, then_stops}
use Rattle.body_meaning.specs.Prelude.{ended, ends_by}
use Rattle.plain_walk.proofs.plain.valued.Goals as goal

pub returns-in_err-t : goal.returns-in_err-t
unfolding ends_by
returns-in_err-t g c =
    let p = err_from_is_err_and c.from_residual.result c.from_residual.ensures.1 in rw (p.1, p.2) (then_stops _ _ _ _ _ _ _ _ c.in_err-t.ensures)

pub returns : goal.returns
unfolding ends_by
returns g c = then_does _ _ _ _ _ _ _ _ _ c.in_ok-t.ensures (does_ends_as _ _ c.flow_of.result _ (ap (ended c.args.frame.now) c.flow_of.ensures))
