use Rattle.slicc_plan.specs.Prelude.{ScopedDeclaration}
use Rattle.type_numbers.specs.Prelude.{HasFewMembers, scoped_of}
use Rattle.type_numbers.proofs.Lists.{seen_at}
use Rattle.protocol_symbols.proofs.types.add_enumerations.Goals as goal

pub add_enumeration-requires-clause-members : goal.add_enumeration-requires-clause-members
add_enumeration-requires-clause-members c =
    seen_at (λ (d : ScopedDeclaration). HasFewMembers d.declaration) scoped_of c.args.declared.now c.loop-d.d-index c.d-item.result c.requires.members c.loop-d-test.true c.d-item.is
