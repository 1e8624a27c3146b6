use Rattle.slicc_plan.specs.Prelude.{ScopedDeclaration}
use Rattle.type_numbers.specs.Prelude.{HasFewMembers, scoped_of}
use Rattle.type_numbers.proofs.Lists.{seen_at}
use Rattle.type_numbers.proofs.members.defaults_of.Goals as goal

pub own_default-requires : goal.own_default-requires
own_default-requires c =
    seen_at (λ (d : ScopedDeclaration). HasFewMembers d.declaration) scoped_of c.args.enumerations.now c.loop-d.d-index c.d-item.result c.requires c.loop-d-test.true c.d-item.is
