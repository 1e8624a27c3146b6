use Rattle.std.proofs.Common.{Ok, refl}
use Rattle.ruby_value.specs.declared.fault.Fault.TheVariants.{Reference}
use Rattle.acts.specs.declared.body_fault.BodyFault.TheVariants as own
use Rattle.acts.specs.Prelude.{ends, itself}
use Rattle.acts.proofs.Walk.{does_ends_as, found_does, found_stops}
use Rattle.body_meaning.specs.declared.thing.Thing.TheVariants as thing
use Rattle.body_meaning.specs.Prelude.{value_found}
use Rattle.body_walk.proofs.built.value_found.Goals as goal

pub returns-in_default : goal.returns-in_default
unfolding value_found
returns-in_default g c = rw c.from.ensures (found_stops itself _ _ own.Reference Reference _ _ (c.in_default.is) refl)

pub returns : goal.returns
unfolding value_found
returns g c =
    found_does itself (λ x. ends (thing.Value x)) c.args.v own.Reference c.in-Some.v (Ok (thing.Value c.in-Some.v)) _ _ c.in-Some.is
    (does_ends_as itself (thing.Value c.in-Some.v) (thing.Value c.in-Some.v) _ refl)
