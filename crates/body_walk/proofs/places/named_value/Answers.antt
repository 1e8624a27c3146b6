use Rattle.std.proofs.Common.{refl}
use Rattle.std.proofs.lemmas.Result.{err_from_is_err_and}
use Rattle.acts.specs.Prelude.{itself}
use Rattle.acts.proofs.Walk.{does_without_memory}
use Rattle.body_walk.proofs.Ends.{found_ends, found_fails}
use Rattle.body_walk.proofs.places.named_value.Goals as goal

pub returns-in_err-value_of-in-Some : goal.returns-in_err-value_of-in-Some
returns-in_err-value_of-in-Some g c =
    let p = err_from_is_err_and c.from_residual.result c.from_residual.ensures.1 in rw (p.1, p.2) (does_without_memory itself _ _ _)

pub returns-in_ok-value_of-in-Some : goal.returns-in_ok-value_of-in-Some
returns-in_ok-value_of-in-Some g c = rw c.in-Some.is (found_ends itself _ _ _ _ _ refl c.in_ok-value_of-in-Some.ensures)

pub returns-in-None : goal.returns-in-None
returns-in-None g c = rw (c.in-None.is, c.from.ensures) (found_fails itself _ _ _ _ _ refl refl)
