use Rattle.protocol_runs.specs.Prelude.{rules}
use Rattle.protocol_runs.proofs.HeldGrow.{held-controllers-grow}
use Rattle.protocol_runs.proofs.held_laws.held_controllers_grow.Goals as goal

pub returns : goal.returns
returns g c = λ p s. held-controllers-grow (rules p g.D.Driver.drive s)
