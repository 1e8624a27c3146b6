use Rattle.protocol_runs.proofs.Driver.{IsDriver}
use Rattle.protocol_runs.proofs.Lawful.{one_end, one_history}
use Rattle.protocol_runs.proofs.laws.one_worker_makes_one_run.Goals as goal

pub returns-clause-history : goal.returns-clause-history
returns-clause-history g c =
    let driver = g.met.D.Driver g.world.𝓛 g.world.𝓜 g.world.𝓡 ((λ s x. x), (λ x. x), (λ x. x), λ x. x) in
    let law : IsDriver g.D.Driver.drive g.D.Driver.needs g.D.Driver.least = record { lawful = driver.lawful; lasting = λ d seats now. (driver.lasting d seats now).0 } in
    λ p s means is. one_history g.D.Driver.drive g.D.Driver.needs g.D.Driver.least law p s means is

pub returns-clause-end : goal.returns-clause-end
returns-clause-end g c =
    λ p s. one_end p g.D.Driver.drive s
