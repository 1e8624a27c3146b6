use Rattle.slicc_plan.proofs.Phases.{by_bodies, by_declarations, by_machines, by_none}
use Rattle.slicc_plan.proofs.answer.phases_answer.Goals as goal

pub returns-clause-declarations : goal.returns-clause-declarations
returns-clause-declarations c = by_declarations

pub returns-clause-bodies : goal.returns-clause-bodies
returns-clause-bodies c = by_bodies

pub returns-clause-machines : goal.returns-clause-machines
returns-clause-machines c = by_machines

pub returns-clause-plan : goal.returns-clause-plan
returns-clause-plan c = by_none
