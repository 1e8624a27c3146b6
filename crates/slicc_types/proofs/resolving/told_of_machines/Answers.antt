use Rattle.slicc_plan.proofs.Few.{few_machines}
use Rattle.slicc_types.proofs.Phases.{keeps_all, told_by_machines}
use Rattle.slicc_types.proofs.resolving.told_of_machines.Goals as goal

pub broken_machines-requires : goal.broken_machines-requires
broken_machines-requires c = few_machines c.args.scopes.now.trees.now c.requires.declarations

pub returns-in-Some : goal.returns-in-Some
returns-in-Some c =
    told_by_machines c.args.scopes.now.trees.now c.requires.declarations c.requires.bodies c.in_ok-first.ensures.first c.in-Some.is

pub returns-in-None : goal.returns-in-None
returns-in-None c =
    keeps_all c.args.scopes.now.trees.now c.requires.declarations c.requires.bodies c.in_ok-first.ensures.first c.in-None.is c.in_ok-first.ensures.written
