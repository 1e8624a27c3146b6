use Rattle.slicc_plan.specs.Prelude.{broken_declarations}
use Rattle.slicc_names.proofs.FirstOfAll.{is_none}
use Rattle.slicc_types.proofs.Phases.{told_by_declarations}
use Rattle.slicc_types.proofs.resolving.told_of.Goals as goal

pub returns-in-Some : goal.returns-in-Some
returns-in-Some c =
    told_by_declarations c.args.scopes.now.trees.now c.in_ok-b.field-0 c.in-Some.b c.in_ok-b.ensures c.in-Some.is

pub told_of_bodies-requires : goal.told_of_bodies-requires
told_of_bodies-requires c =
    is_none (broken_declarations c.args.scopes.now.trees.now) c.in_ok-b.field-0 c.in_ok-b.ensures c.in-None.is
