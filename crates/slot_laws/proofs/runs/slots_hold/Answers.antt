use Rattle.protocol_runs.proofs.Driver.{IsDriver}
use Rattle.slot_laws.proofs.SlotsHeld.{slots_held}
use Rattle.slot_laws.proofs.runs.slots_hold.Goals as goal

pub returns : goal.returns
returns g c =
    let driver = g.met.D.Driver g.world.𝓛 g.world.𝓜 g.world.𝓡 ((λ s x. x), (λ x. x), (λ x. x), λ x. x) in
    let law : IsDriver g.D.Driver.drive g.D.Driver.needs g.D.Driver.least = record { lawful = driver.lawful; lasting = λ d seats now. (driver.lasting d seats now).0 } in
    λ p s means is takes. slots_held g.D.Driver.drive g.D.Driver.needs g.D.Driver.least law p s means is takes
