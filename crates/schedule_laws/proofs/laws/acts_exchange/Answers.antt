use Rattle.protocol_runs.specs.Prelude.{rules}
use Rattle.protocol_runs.proofs.Driver.{IsDriver}
use Rattle.schedule_laws.proofs.Alike.{acts-are-events}
use Rattle.schedule_laws.proofs.OfProtocols as protocols
use Rattle.schedule_laws.proofs.laws.acts_exchange.Goals as goal

pub returns-clause-events : goal.returns-clause-events
returns-clause-events g c = λ p s. acts-are-events (rules p g.D.Driver.drive s)

pub returns-clause-exchange : goal.returns-clause-exchange
returns-clause-exchange g c =
    let driver = g.met.D.Driver g.world.𝓛 g.world.𝓜 g.world.𝓡 ((λ s x. x), (λ x. x), (λ x. x), λ x. x) in
    let law : IsDriver g.D.Driver.drive g.D.Driver.needs g.D.Driver.least = record { lawful = driver.lawful; lasting = λ d seats now. (driver.lasting d seats now).0 } in
    λ p s means framed is. protocols.acts_exchange g.D.Driver.drive g.D.Driver.needs g.D.Driver.least law p s means framed is
