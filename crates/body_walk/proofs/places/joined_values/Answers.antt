use Rattle.std.proofs.Common.{refl, sym}
use Rattle.std.proofs.lemmas.Result.{err_from_is_err_and}
use Rattle.acts.specs.Prelude.{itself}
use Rattle.body_walk.proofs.Ends.{given_ends, given_fails}
use Rattle.body_walk.proofs.places.joined_values.Goals as goal

pub returns-in_err-joined : goal.returns-in_err-joined
returns-in_err-joined g c =
    let p = err_from_is_err_and c.from_residual.result c.from_residual.ensures.1 in
    rw p.1 (given_fails itself _ c.in_err-joined.field-0.0 p.0 _ _ (sym c.in_err-joined.ensures) p.2)

pub returns : goal.returns
returns g c = given_ends itself _ c.in_ok-joined.field-0 _ _ (sym c.in_ok-joined.ensures) refl
