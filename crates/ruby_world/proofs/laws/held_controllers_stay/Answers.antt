use Rattle.protocol_runs.proofs.Driver.{IsDriver}
use Rattle.ruby_world.proofs.Others.{have-grown, others-stay}
use Rattle.ruby_world.proofs.laws.held_controllers_stay.Goals as goal

pub returns-clause-holds : goal.returns-clause-holds
returns-clause-holds g c =
    let driver = g.met.D.Driver g.world.𝓛 g.world.𝓜 g.world.𝓡 ((λ s x. x), (λ x. x), (λ x. x), λ x. x) in
    let law : IsDriver g.D.Driver.drive g.D.Driver.needs g.D.Driver.least = record { lawful = driver.lawful; lasting = λ d seats now. (driver.lasting d seats now).0 } in
    λ old new rest worker h w v means lawful is leads added others holds.
    others-stay g.D.Driver.drive g.D.Driver.needs g.D.Driver.least law old new rest worker h w v means lawful is leads added others holds

pub returns-clause-grown : goal.returns-clause-grown
returns-clause-grown g c = λ old new rest worker h w v is leads added others holds.
    have-grown g.D.Driver.drive old new rest worker h w v is leads added others holds
