use Rattle.std.proofs.Common.{◌≤◌, length, sym, subst}
use Rattle.slicc_plan.specs.BrokenDeclarations.{no_memory}
use Rattle.slicc_plan.specs.Prelude.{machines_of}
use Rattle.slicc_plan.proofs.Few.{few_machines}
use Rattle.slicc_flow.proofs.protocol.flow.Goals as goal

pub flow_of_trees-requires : goal.flow_of_trees-requires
flow_of_trees-requires c =
    let few = few_machines c.args.plan.now c.trees.ensures.accepted.of_declarations in
    subst (λ trees. length (machines_of trees) ≤ 16) (sym c.trees.ensures.trees) few.machines

pub returns-in-Err-all_sends : goal.returns-in-Err-all_sends
returns-in-Err-all_sends c = no_memory
