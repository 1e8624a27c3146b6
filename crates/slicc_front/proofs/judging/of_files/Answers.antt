use Rattle.slicc_front.proofs.FromPlans.{of_plan, of_refusal}
use Rattle.slicc_front.proofs.judging.of_files.Goals as goal

pub returns-in-Ok-clause-front : goal.returns-in-Ok-clause-front
returns-in-Ok-clause-front c = of_plan c.args.sources.now c.args.trees _ c.in-Ok.ensures

pub returns-in-Err-clause-front : goal.returns-in-Err-clause-front
returns-in-Err-clause-front c =
    of_refusal c.args.sources.now c.args.trees c.in-Err.why c.refused.result c.in-Err.ensures c.refused.ensures
