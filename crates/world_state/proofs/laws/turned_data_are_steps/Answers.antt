use Rattle.protocol_runs.proofs.Driver.{IsDriver}
use Rattle.world_state.proofs.Stepped.{turn-kept, turn-steps}
use Rattle.world_state.proofs.laws.turned_data_are_steps.Goals as goal

pub returns : goal.returns
returns g c =
    let driver = g.met.D.Driver g.world.𝓛 g.world.𝓜 g.world.𝓡 ((λ s x. x), (λ x. x), (λ x. x), λ x. x) in
    let law : IsDriver g.D.Driver.drive g.D.Driver.needs g.D.Driver.least = record { lawful = driver.lawful; lasting = λ d seats now. (driver.lasting d seats now).0 } in
    λ p s held cycles worker seats verdict old new can of_run none turned. (
      turn-steps g.D.Driver.drive g.D.Driver.needs g.D.Driver.least law cycles seats p s held old of_run can.goes_on can.nobody can.rested none worker verdict new turned,
      turn-kept g.D.Driver.drive g.D.Driver.needs g.D.Driver.least law cycles seats p s held old of_run can.goes_on can.nobody can.rested none worker verdict new turned,
    )
