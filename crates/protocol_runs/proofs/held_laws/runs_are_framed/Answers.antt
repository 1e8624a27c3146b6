use Rattle.protocol_runs.proofs.Framings.{runs-framed}
use Rattle.protocol_runs.proofs.held_laws.runs_are_framed.Goals as goal

pub returns : goal.returns
returns g c = λ p s. runs-framed p g.D.Driver.drive g.D.Driver.least s
