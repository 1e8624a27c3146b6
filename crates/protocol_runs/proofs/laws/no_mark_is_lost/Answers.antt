use Rattle.protocol_runs.proofs.Driver.{IsDriver}
use Rattle.protocol_runs.proofs.Lawful.{marks_stay}
use Rattle.protocol_runs.proofs.laws.no_mark_is_lost.Goals as goal

pub returns : goal.returns
returns g c =
    let driver = g.met.D.Driver g.world.𝓛 g.world.𝓜 g.world.𝓡 ((λ s x. x), (λ x. x), (λ x. x), λ x. x) in
    let law : IsDriver g.D.Driver.drive g.D.Driver.needs g.D.Driver.least = record { lawful = driver.lawful; lasting = λ d seats now. (driver.lasting d seats now).0 } in
    λ p s means is. marks_stay g.D.Driver.drive g.D.Driver.needs g.D.Driver.least law p s means is
