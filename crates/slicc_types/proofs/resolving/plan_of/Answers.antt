use Rattle.std.proofs.Common.{List, Ok, subst, sym}
use Rattle.slicc_ast.specs.declared.tree.item.Tree.{Tree}
use Rattle.slicc_plan.specs.AllRules.{keeps_all, no_memory}
use Rattle.slicc_plan.specs.Prelude.{IsPlanOf}
use Rattle.slicc_types.proofs.resolving.plan_of.Goals as goal

pub returns-in-Ok : goal.returns-in-Ok
returns-in-Ok c =
    subst (λ (ts : List Tree). IsPlanOf c.args.trees (Ok ts)) (sym c.in-Ok.ensures) (keeps_all c.requires.accepted)

pub returns-in-Err : goal.returns-in-Err
returns-in-Err c = no_memory
