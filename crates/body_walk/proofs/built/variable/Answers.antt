use Rattle.std.proofs.Common.{refl}
use Rattle.std.proofs.lemmas.Result.{err_from_is_err_and}
use Rattle.acts.specs.Prelude.{itself}
use Rattle.acts.proofs.Walk.{does_ends_as, does_without_memory}
use Rattle.body_meaning.specs.Prelude.{variable}
use Rattle.body_walk.proofs.built.variable.Goals as goal

pub returns-in_err-t : goal.returns-in_err-t
returns-in_err-t g c =
    let p = err_from_is_err_and c.from_residual.result c.from_residual.ensures.1 in rw (p.1, p.2) (does_without_memory _ _ _ _)

pub returns-in-Some : goal.returns-in-Some
unfolding variable
returns-in-Some g c = rw (← c.in_ok-t.ensures, c.in-Some.is) (does_ends_as itself _ _ _ refl)

pub returns-in-None : goal.returns-in-None
unfolding variable
returns-in-None g c = rw (← c.in_ok-t.ensures, c.in-None.is) c.declared.ensures
