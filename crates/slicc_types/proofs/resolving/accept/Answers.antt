use Rattle.std.proofs.Common.{Err, subst, sym}
use Rattle.slicc_plan.specs.declared.refusal.Refusal.{Refusal}
use Rattle.slicc_plan.specs.AllRules.{breaks_one, no_memory}
use Rattle.slicc_plan.specs.Prelude.{IsPlanOf}
use Rattle.slicc_types.specs.Prelude.{IsResolved}
use Rattle.slicc_types.proofs.resolving.accept.Goals as goal

pub returns-in-Ok-Err : goal.returns-in-Ok-Err
returns-in-Ok-Err c =
    subst (λ (r : Refusal). IsPlanOf c.args.trees.now (Err r)) (sym c.refused.ensures)
    (breaks_one (subst (IsResolved c.args.trees.now) c.in-Ok-Err.field-0-is c.in-Ok-Err.ensures))

pub returns-in-Ok-Ok : goal.returns-in-Ok-Ok
returns-in-Ok-Ok c = subst (IsResolved c.args.trees.now) c.in-Ok-Ok.field-0-is c.in-Ok-Ok.ensures

pub returns-in-Err : goal.returns-in-Err
returns-in-Err c = no_memory
