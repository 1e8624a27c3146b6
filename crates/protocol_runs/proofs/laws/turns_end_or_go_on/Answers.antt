use Rattle.protocol_runs.proofs.Outcomes.{turn-outcome, turn-wakes}
use Rattle.protocol_runs.proofs.Driver.{IsDriver}
use Rattle.protocol_runs.proofs.Premises.{keeps_marks}
use Rattle.protocol_runs.specs.Prelude.{rules}
use Rattle.protocol_runs.proofs.laws.turns_end_or_go_on.Goals as goal

pub returns-clause-outcome : goal.returns-clause-outcome
returns-clause-outcome g c =
    λ p s. turn-outcome (rules p g.D.Driver.drive s)

pub returns-clause-marks : goal.returns-clause-marks
returns-clause-marks g c =
    let driver = g.met.D.Driver g.world.𝓛 g.world.𝓜 g.world.𝓡 ((λ s x. x), (λ x. x), (λ x. x), λ x. x) in
    let law : IsDriver g.D.Driver.drive g.D.Driver.needs g.D.Driver.least = record { lawful = driver.lawful; lasting = λ d seats now. (driver.lasting d seats now).0 } in
    λ p s means is. turn-wakes (rules p g.D.Driver.drive s) (keeps_marks p g.D.Driver.drive g.D.Driver.needs g.D.Driver.least s means law is)
