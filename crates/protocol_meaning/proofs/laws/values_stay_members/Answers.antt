use Rattle.protocol_runs.proofs.Driver.{IsDriver}
use Rattle.protocol_meaning.proofs.Instance.{controllers_stay, entries_stay}
use Rattle.protocol_meaning.proofs.laws.values_stay_members.Goals as goal

pub returns : goal.returns
returns g c =
    let driver = g.met.D.Driver g.world.𝓛 g.world.𝓜 g.world.𝓡 ((λ s x. x), (λ x. x), (λ x. x), λ x. x) in
    let law : IsDriver g.D.Driver.drive g.D.Driver.needs g.D.Driver.least = record { lawful = driver.lawful; lasting = λ d seats now. (driver.lasting d seats now).0 } in
    record {
      controllers = λ trees t seed cycles limit first accepted fit few enough. controllers_stay g.D.Driver.drive g.D.Driver.needs g.D.Driver.least law trees t seed cycles limit first accepted fit few enough;
      entries = λ trees t seed cycles limit first accepted fit few enough. entries_stay g.D.Driver.drive g.D.Driver.needs g.D.Driver.least law trees t seed cycles limit first accepted fit few enough;
    }
