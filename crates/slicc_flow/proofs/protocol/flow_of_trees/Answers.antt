use Rattle.slicc_plan.specs.BrokenDeclarations.{no_memory}
use Rattle.slicc_flow.proofs.Flowed.{is_answered}
use Rattle.slicc_flow.proofs.protocol.flow_of_trees.Goals as goal

pub returns-in-Ok-Err : goal.returns-in-Ok-Err
returns-in-Ok-Err c =
    is_answered c.args.trees.now c.in-Ok-Err.field-0 c.in-Ok-Err.b c.refused.result c.in-Ok-Err.ensures c.in-Ok-Err.field-0-is c.refused.ensures

pub returns-in-Err : goal.returns-in-Err
returns-in-Err c = no_memory
