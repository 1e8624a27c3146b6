use Rattle.protocol_runs.proofs.Ranges.{machine-found, machine-there}
use Rattle.protocol_runs.proofs.laws.machines_of_controllers_are_found.Goals as goal

pub returns-clause-found : goal.returns-clause-found
returns-clause-found c = λ ranges total machine controller. machine-found total ranges machine controller

pub returns-clause-some : goal.returns-clause-some
returns-clause-some c = λ ranges total controller. machine-there total ranges controller
