use Rattle.slicc_plan.specs.Prelude.{broken_bodies}
use Rattle.slicc_plan.proofs.Few.{few_machines}
use Rattle.slicc_names.proofs.FirstOfAll.{is_none}
use Rattle.slicc_types.proofs.Phases.{told_by_bodies}
use Rattle.slicc_types.proofs.resolving.told_of_bodies.Goals as goal

pub broken_bodies-requires : goal.broken_bodies-requires
broken_bodies-requires c = few_machines c.args.scopes.now.trees.now c.requires

pub returns-in-Some : goal.returns-in-Some
returns-in-Some c =
    told_by_bodies c.args.scopes.now.trees.now c.in_ok-b.field-0 c.in-Some.b c.requires c.in_ok-b.ensures c.in-Some.is

pub told_of_machines-requires : goal.told_of_machines-requires
told_of_machines-requires c = record {
  declarations = c.requires;
  bodies = is_none (broken_bodies c.args.scopes.now.trees.now) c.in_ok-b.field-0 c.in_ok-b.ensures c.in-None.is;
}
