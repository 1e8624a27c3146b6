use Rattle.slicc_plan.specs.Prelude.{bad_values_of, machine_declarations, within}
use Rattle.slicc_plan.proofs.Room.{values_kept}
use Rattle.declared_types.specs.Prelude.{declaration_of}
use Rattle.type_numbers.specs.Prelude.{trees_of}
use Rattle.protocol_symbols.proofs.KeptValues.{kept_at}
use Rattle.protocol_symbols.proofs.objects.add_objects.Goals as goal

pub add_object-requires-clause-values : goal.add_object-requires-clause-values
add_object-requires-clause-values c =
    let trees = trees_of c.args.types.now in
    kept_at (bad_values_of trees (within c.args.m.now)) declaration_of c.args.declarations.now (machine_declarations c.args.m.now) c.loop-d.d-index c.d-item.result c.requires.declarations (values_kept trees c.args.number c.args.m.now c.requires.types.accepted c.requires.machine) c.loop-d-test.true c.d-item.is
