use Rattle.std.proofs.lemmas.Result.{err_from_is_err_and}
use Rattle.acts.specs.Prelude.{itself}
use Rattle.acts.proofs.Walk.{does_without_memory}
use Rattle.body_walk.proofs.built.permission_call.Goals as goal

pub returns-in_err-v : goal.returns-in_err-v
returns-in_err-v g c =
    let p = err_from_is_err_and c.from_residual.result c.from_residual.ensures.1 in rw (p.1, p.2) (does_without_memory itself _ _ _)

pub returns : goal.returns
returns g c = rw (← c.deref.ensures, ← c.in_ok-v.ensures) c.value_found.ensures
