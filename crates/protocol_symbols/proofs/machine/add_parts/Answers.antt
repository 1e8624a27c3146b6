use Rattle.std.proofs.Common.{List, subst}
use Rattle.ruby_symbols.specs.declared.machine.BufferSymbol.{BufferSymbol}
use Rattle.slicc_ast.specs.declared.tree.machine.Decl.{Decl}
use Rattle.slicc_plan.specs.Prelude.{Declaration}
use Rattle.type_numbers.specs.Prelude.{trees_of}
use Rattle.protocol_symbols.specs.Prelude.{AddBodies, AddObjects}
use Rattle.protocol_symbols.proofs.machine.add_parts.Goals as goal

pub returns-clause-objects : goal.returns-clause-objects
returns-clause-objects c =
    subst (λ (ds : List Declaration). AddObjects (trees_of c.args.types.now) c.args.number c.args.m.now ds c.args.objects.now c.add_objects.new.objects)
    c.requires.declarations c.in_ok-add_objects.ensures

pub returns-clause-bodies : goal.returns-clause-bodies
returns-clause-bodies c =
    subst (λ (bs : List BufferSymbol). AddBodies (trees_of c.args.types.now) c.args.m.now bs c.args.m.now.declarations c.args.bodies.now c.add_bodies.new.bodies) c.as_slice-buffers.ensures
    (subst (λ (ds : List Decl). AddBodies (trees_of c.args.types.now) c.args.m.now c.as_slice-buffers.result.now ds c.args.bodies.now c.add_bodies.new.bodies) c.as_slice-inside.ensures
    c.in_ok-add_bodies.ensures)
