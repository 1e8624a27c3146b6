use Rattle.protocol_runs.specs.Prelude.{FitsRun, HasSeats, SuitsReceiver, rules}
use Rattle.protocol_runs.proofs.Driver.{IsDriver}
use Rattle.protocol_runs.proofs.Framings.{runs-framed}
use Rattle.protocol_runs.proofs.HeldSteps.{held-ends, held-fires, held-is-released}
use Rattle.protocol_runs.proofs.HeldStays.{others-leave-held, takes-hold}
use Rattle.protocol_runs.proofs.Premises.{carries_mail, sound}
use Rattle.protocol_runs.proofs.held_laws.workers_go_on_with_what_they_hold.Goals as goal

pub returns-clause-takes : goal.returns-clause-takes
returns-clause-takes g c =
    let driver = g.met.D.Driver g.world.𝓛 g.world.𝓜 g.world.𝓡 ((λ s x. x), (λ x. x), (λ x. x), λ x. x) in
    let law : IsDriver g.D.Driver.drive g.D.Driver.needs g.D.Driver.least = record { lawful = driver.lawful; lasting = λ d seats now. (driver.lasting d seats now).0 } in
    λ p s means is. takes-hold (rules p g.D.Driver.drive s) (FitsRun s) (SuitsReceiver s) (HasSeats s g.D.Driver.least)
    (sound p g.D.Driver.drive g.D.Driver.needs g.D.Driver.least s means law is) (carries_mail p g.D.Driver.drive g.D.Driver.needs g.D.Driver.least s means law is)

pub returns-clause-others : goal.returns-clause-others
returns-clause-others g c =
    let driver = g.met.D.Driver g.world.𝓛 g.world.𝓜 g.world.𝓡 ((λ s x. x), (λ x. x), (λ x. x), λ x. x) in
    let law : IsDriver g.D.Driver.drive g.D.Driver.needs g.D.Driver.least = record { lawful = driver.lawful; lasting = λ d seats now. (driver.lasting d seats now).0 } in
    λ p s means is. others-leave-held (rules p g.D.Driver.drive s) (FitsRun s) (SuitsReceiver s) (HasSeats s g.D.Driver.least)
    (sound p g.D.Driver.drive g.D.Driver.needs g.D.Driver.least s means law is) (carries_mail p g.D.Driver.drive g.D.Driver.needs g.D.Driver.least s means law is)

pub returns-clause-fires : goal.returns-clause-fires
returns-clause-fires g c =
    let driver = g.met.D.Driver g.world.𝓛 g.world.𝓜 g.world.𝓡 ((λ s x. x), (λ x. x), (λ x. x), λ x. x) in
    let law : IsDriver g.D.Driver.drive g.D.Driver.needs g.D.Driver.least = record { lawful = driver.lawful; lasting = λ d seats now. (driver.lasting d seats now).0 } in
    λ p s means framed is. held-fires (rules p g.D.Driver.drive s) (FitsRun s) (SuitsReceiver s) (HasSeats s g.D.Driver.least)
    (sound p g.D.Driver.drive g.D.Driver.needs g.D.Driver.least s means law is) (carries_mail p g.D.Driver.drive g.D.Driver.needs g.D.Driver.least s means law is)
    (runs-framed p g.D.Driver.drive g.D.Driver.least s is framed)

pub returns-clause-ends : goal.returns-clause-ends
returns-clause-ends g c =
    let driver = g.met.D.Driver g.world.𝓛 g.world.𝓜 g.world.𝓡 ((λ s x. x), (λ x. x), (λ x. x), λ x. x) in
    let law : IsDriver g.D.Driver.drive g.D.Driver.needs g.D.Driver.least = record { lawful = driver.lawful; lasting = λ d seats now. (driver.lasting d seats now).0 } in
    λ p s means framed is. held-ends (rules p g.D.Driver.drive s) (FitsRun s) (SuitsReceiver s) (HasSeats s g.D.Driver.least)
    (sound p g.D.Driver.drive g.D.Driver.needs g.D.Driver.least s means law is) (carries_mail p g.D.Driver.drive g.D.Driver.needs g.D.Driver.least s means law is)
    (runs-framed p g.D.Driver.drive g.D.Driver.least s is framed)

pub returns-clause-releases : goal.returns-clause-releases
returns-clause-releases g c =
    λ p s. held-is-released (rules p g.D.Driver.drive s) (FitsRun s) (SuitsReceiver s)
