use Rattle.std.proofs.Common.{ℕ, List, Result, Some, sym, subst}
use Rattle.slicc_plan.specs.declared.broken.Broken.{Broken}
use Rattle.slicc_plan.specs.declared.refusal.Refusal.{Refusal}
use Rattle.slicc_plan.specs.BrokenDeclarations.{breaks_one, no_memory}
use Rattle.slicc_plan.specs.Prelude.{IsAnswered, broken_declarations}
use Rattle.slicc_names.specs.Prelude.{AreNamesOrBroken}
use Rattle.slicc_names.proofs.names.collect.Goals as goal

pub returns-in-Ok-Err : goal.returns-in-Ok-Err
returns-in-Ok-Err c =
    subst (λ (r : Refusal). IsAnswered (broken_declarations c.args.trees.now) (Some r)) (sym c.refused.ensures)
    (breaks_one (subst (λ (x : Result (List (List (List ℕ))) Broken). AreNamesOrBroken c.args.trees.now x) c.in-Ok-Err.field-0-is c.in-Ok-Err.ensures))

pub returns-in-Err : goal.returns-in-Err
returns-in-Err c = no_memory
