use Rattle.std.proofs.Common.{◌≡◌, ◌∙◌, Ok, Err, refl, sym, ap}
use Rattle.std.proofs.lemmas.Result.{err_from_is_err_and}
use Rattle.acts.specs.Prelude.{ends, itself}
use Rattle.acts.proofs.Walk.{does_ends_as, given_does, given_stops}
use Rattle.body_meaning.specs.declared.thing.Thing.TheVariants as thing
use Rattle.body_meaning.specs.Prelude.{value_in}
use Rattle.body_walk.specs.Prelude.{thing_made, value_made}
use Rattle.body_walk.proofs.places.thing_made.Goals as goal

pub returns-in_err-v : goal.returns-in_err-v
unfolding thing_made
returns-in_err-v g c =
    let p = err_from_is_err_and c.from_residual.result c.from_residual.ensures.1 in
    let is : value_made c.args.unary (value_in c.args.t) ≡ Err c.in_err-v.field-0.0 = ap (value_made c.args.unary) (sym c.value_in.ensures) ∙ sym c.in_err-v.ensures in
    rw p.1 (given_stops itself (λ v. ends (thing.Value v)) _ c.in_err-v.field-0.0 p.0 _ _ is p.2)

pub returns : goal.returns
unfolding thing_made
returns g c =
    let is : value_made c.args.unary (value_in c.args.t) ≡ Ok c.in_ok-v.v = ap (value_made c.args.unary) (sym c.value_in.ensures) ∙ sym c.in_ok-v.ensures in
    given_does itself (λ v. ends (thing.Value v)) (value_made c.args.unary (value_in c.args.t)) c.in_ok-v.v (Ok (thing.Value c.in_ok-v.v)) _ _ is
    (does_ends_as itself (thing.Value c.in_ok-v.v) (thing.Value c.in_ok-v.v) _ refl)
