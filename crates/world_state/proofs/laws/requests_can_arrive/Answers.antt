use Rattle.protocol_runs.proofs.Driver.{IsDriver}
use Rattle.world_state.proofs.Received.{arrive}
use Rattle.world_state.proofs.laws.requests_can_arrive.Goals as goal

pub returns : goal.returns
returns g c =
    let driver = g.met.D.Driver g.world.𝓛 g.world.𝓜 g.world.𝓡 ((λ s x. x), (λ x. x), (λ x. x), λ x. x) in
    let law : IsDriver g.D.Driver.drive g.D.Driver.needs g.D.Driver.least = record { lawful = driver.lawful; lasting = λ d seats now. (driver.lasting d seats now).0 } in
    λ cycles seats old d places can act are made.
    arrive g.D.Driver.drive g.D.Driver.needs g.D.Driver.least law cycles seats can.meaning can.setting can.held old can.of_run can.goes_on can.nobody d act places are made
