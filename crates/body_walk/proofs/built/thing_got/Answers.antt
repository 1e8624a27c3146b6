use Rattle.std.proofs.Common.{refl}
use Rattle.std.proofs.lemmas.Result.{err_from_is_err_and}
use Rattle.acts.specs.Prelude.{itself}
use Rattle.acts.proofs.Walk.{does_ends_as, then_does, then_stops}
use Rattle.body_meaning.specs.Prelude.{thing_got}
use Rattle.body_walk.proofs.built.thing_got.Goals as goal

pub returns-in_err-v : goal.returns-in_err-v
unfolding thing_got
returns-in_err-v g c =
    let p = err_from_is_err_and c.from_residual.result c.from_residual.ensures.1 in rw (p.1, p.2) (then_stops _ _ _ _ _ _ _ _ c.in_err-v.ensures)

pub returns : goal.returns
unfolding thing_got
returns g c = then_does _ _ _ _ _ _ _ _ _ c.in_ok-v.ensures (does_ends_as itself _ _ _ refl)
