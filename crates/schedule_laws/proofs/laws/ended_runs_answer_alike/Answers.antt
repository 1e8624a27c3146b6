use Rattle.protocol_runs.proofs.Driver.{IsDriver}
use Rattle.schedule_laws.proofs.OfProtocols as protocols
use Rattle.schedule_laws.proofs.laws.ended_runs_answer_alike.Goals as goal

pub returns-clause-alike : goal.returns-clause-alike
returns-clause-alike g c =
    let driver = g.met.D.Driver g.world.𝓛 g.world.𝓜 g.world.𝓡 ((λ s x. x), (λ x. x), (λ x. x), λ x. x) in
    let law : IsDriver g.D.Driver.drive g.D.Driver.needs g.D.Driver.least = record { lawful = driver.lawful; lasting = λ d seats now. (driver.lasting d seats now).0 } in
    λ p s means framed is. protocols.every_answer g.D.Driver.drive g.D.Driver.needs g.D.Driver.least law p s means framed is c.finals_follow_from_parts.ensures

pub returns-clause-one : goal.returns-clause-one
returns-clause-one g c =
    let driver = g.met.D.Driver g.world.𝓛 g.world.𝓜 g.world.𝓡 ((λ s x. x), (λ x. x), (λ x. x), λ x. x) in
    let law : IsDriver g.D.Driver.drive g.D.Driver.needs g.D.Driver.least = record { lawful = driver.lawful; lasting = λ d seats now. (driver.lasting d seats now).0 } in
    λ p s means framed is. protocols.is_one g.D.Driver.drive g.D.Driver.needs g.D.Driver.least law p s means framed is

pub returns-clause-alone : goal.returns-clause-alone
returns-clause-alone g c =
    let driver = g.met.D.Driver g.world.𝓛 g.world.𝓜 g.world.𝓡 ((λ s x. x), (λ x. x), (λ x. x), λ x. x) in
    let law : IsDriver g.D.Driver.drive g.D.Driver.needs g.D.Driver.least = record { lawful = driver.lawful; lasting = λ d seats now. (driver.lasting d seats now).0 } in
    λ p s means framed is. protocols.alone_ordered g.D.Driver.drive g.D.Driver.needs g.D.Driver.least law p s means framed is

pub returns-clause-idle : goal.returns-clause-idle
returns-clause-idle g c =
    let driver = g.met.D.Driver g.world.𝓛 g.world.𝓜 g.world.𝓡 ((λ s x. x), (λ x. x), (λ x. x), λ x. x) in
    let law : IsDriver g.D.Driver.drive g.D.Driver.needs g.D.Driver.least = record { lawful = driver.lawful; lasting = λ d seats now. (driver.lasting d seats now).0 } in
    λ p s means framed is. protocols.is_one_idle g.D.Driver.drive g.D.Driver.needs g.D.Driver.least law p s means framed is
