use Rattle.protocol_runs.specs.Prelude.{FitsRun, HasSeats, SuitsReceiver, rules}
use Rattle.protocol_runs.proofs.Driver.{IsDriver}
use Rattle.protocol_runs.proofs.HeldStays.{copies-may-come}
use Rattle.protocol_runs.proofs.Premises.{carries_mail, sound}
use Rattle.protocol_runs.proofs.held_laws.copies_may_come.Goals as goal

pub returns : goal.returns
returns g c =
    let driver = g.met.D.Driver g.world.𝓛 g.world.𝓜 g.world.𝓡 ((λ s x. x), (λ x. x), (λ x. x), λ x. x) in
    let law : IsDriver g.D.Driver.drive g.D.Driver.needs g.D.Driver.least = record { lawful = driver.lawful; lasting = λ d seats now. (driver.lasting d seats now).0 } in
    λ p s means is. copies-may-come (rules p g.D.Driver.drive s) (FitsRun s) (SuitsReceiver s) (HasSeats s g.D.Driver.least)
    (sound p g.D.Driver.drive g.D.Driver.needs g.D.Driver.least s means law is) (carries_mail p g.D.Driver.drive g.D.Driver.needs g.D.Driver.least s means law is)
