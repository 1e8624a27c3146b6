use Rattle.std.proofs.Common.{subst}
use Rattle.slicc_plan.specs.Prelude.{machine_declarations}
use Rattle.type_numbers.specs.Prelude.{trees_of}
use Rattle.protocol_symbols.specs.Prelude.{AddBodies, AddObjects, AddRest}
use Rattle.protocol_symbols.specs.declared.bodies.Bodies.{Bodies}
use Rattle.protocol_symbols.specs.declared.machine.Rest.{Rest}
use Rattle.protocol_symbols.specs.declared.objects.Objects.{Objects}
use Rattle.protocol_symbols.proofs.machine.machine_with.Goals as goal

pub returns : goal.returns
returns c =
    let trees = trees_of c.args.types.now in
    let m = c.args.m.now in
    let made = c.in_ok-add_parts.ensures in
    c.together.ensures trees c.args.number m c.numbers_of-numbers.ensures c.in_ok-sequencer.ensures
    (subst (λ (o : Objects). AddObjects trees c.args.number m (machine_declarations m) o c.add_parts.new.objects) c.new-objects.ensures made.objects)
    (subst (λ (b : Bodies). AddBodies trees m c.add_parts.new.objects.buffers m.declarations b c.add_parts.new.bodies) c.new-bodies.ensures made.bodies)
    (subst (λ (r : Rest). AddRest m r c.add_parts.new.rest) c.new-rest.ensures made.rest)
