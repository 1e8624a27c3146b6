use Rattle.slicc_plan.specs.Prelude.{ScopedDeclaration}
use Rattle.type_numbers.specs.Prelude.{NamesFewMembers, scoped_of, trees_of}
use Rattle.type_numbers.proofs.Lists.{seen_at}
use Rattle.protocol_symbols.proofs.types.add_structures.Goals as goal

pub add_structure-requires-clause-scope : goal.add_structure-requires-clause-scope
add_structure-requires-clause-scope c =
    seen_at (λ (d : ScopedDeclaration). NamesFewMembers (trees_of c.args.types.now) d.scope) scoped_of c.args.declared.now c.loop-d.d-index c.d-item.result c.requires.scopes c.loop-d-test.true c.d-item.is
