use Rattle.std.proofs.Common.{Ok, refl}
use Rattle.ruby_value.specs.declared.fault.Fault.TheVariants.{Reference}
use Rattle.acts.specs.declared.body_fault.BodyFault.TheVariants as own
use Rattle.acts.specs.Prelude.{ends, itself}
use Rattle.acts.proofs.Walk.{does_ends_as, found_does, found_stops}
use Rattle.body_meaning.specs.declared.thing.Thing.TheVariants as thing
use Rattle.body_meaning.specs.Prelude.{port_thing}
use Rattle.body_walk.proofs.built.port_thing.Goals as goal

pub returns-in_default : goal.returns-in_default
unfolding port_thing
returns-in_default g c = rw c.from.ensures (found_stops itself _ _ own.Reference Reference _ _ (c.in_default.is) refl)

pub returns : goal.returns
unfolding port_thing
returns g c =
    found_does itself (λ b. ends (thing.Port b)) c.args.buffer own.Reference c.in-Some.buffer (Ok (thing.Port c.in-Some.buffer)) _ _ c.in-Some.is
    (does_ends_as itself (thing.Port c.in-Some.buffer) (thing.Port c.in-Some.buffer) _ refl)
