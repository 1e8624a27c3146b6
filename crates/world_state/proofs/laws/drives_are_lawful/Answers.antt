use Rattle.protocol_runs.proofs.Driver.{IsDriver}
use Rattle.world_state.proofs.Acting.{finds-lines, issued-at-seats, issued-kept, issues-few, messages-count, seats-stay}
use Rattle.world_state.proofs.laws.drives_are_lawful.Goals as goal

pub returns-clause-seats : goal.returns-clause-seats
returns-clause-seats g c = λ seats held old d. seats-stay seats held old d

pub returns-clause-kept : goal.returns-clause-kept
returns-clause-kept g c = λ seats held old d. issued-kept seats held old d

pub returns-clause-issued : goal.returns-clause-issued
returns-clause-issued g c =
    let driver = g.met.D.Driver g.world.𝓛 g.world.𝓜 g.world.𝓡 ((λ s x. x), (λ x. x), (λ x. x), λ x. x) in
    let law : IsDriver g.D.Driver.drive g.D.Driver.needs g.D.Driver.least = record { lawful = driver.lawful; lasting = λ d seats now. (driver.lasting d seats now).0 } in
    λ cycles seats old d can act.
    issued-at-seats g.D.Driver.drive g.D.Driver.needs g.D.Driver.least law cycles seats can.meaning can.setting can.held old can.of_run can.goes_on can.nobody d act

pub returns-clause-few : goal.returns-clause-few
returns-clause-few g c =
    let driver = g.met.D.Driver g.world.𝓛 g.world.𝓜 g.world.𝓡 ((λ s x. x), (λ x. x), (λ x. x), λ x. x) in
    let law : IsDriver g.D.Driver.drive g.D.Driver.needs g.D.Driver.least = record { lawful = driver.lawful; lasting = λ d seats now. (driver.lasting d seats now).0 } in
    λ cycles seats old d can act.
    issues-few g.D.Driver.drive g.D.Driver.needs g.D.Driver.least law cycles seats can.meaning can.setting can.held old can.of_run can.goes_on can.nobody d act

pub returns-clause-finding : goal.returns-clause-finding
returns-clause-finding g c =
    let driver = g.met.D.Driver g.world.𝓛 g.world.𝓜 g.world.𝓡 ((λ s x. x), (λ x. x), (λ x. x), λ x. x) in
    let law : IsDriver g.D.Driver.drive g.D.Driver.needs g.D.Driver.least = record { lawful = driver.lawful; lasting = λ d seats now. (driver.lasting d seats now).0 } in
    λ cycles seats old d can act.
    finds-lines g.D.Driver.drive g.D.Driver.needs g.D.Driver.least law cycles seats can.meaning can.setting can.held old can.of_run can.goes_on can.nobody d act

pub returns-clause-messages : goal.returns-clause-messages
returns-clause-messages g c =
    let driver = g.met.D.Driver g.world.𝓛 g.world.𝓜 g.world.𝓡 ((λ s x. x), (λ x. x), (λ x. x), λ x. x) in
    let law : IsDriver g.D.Driver.drive g.D.Driver.needs g.D.Driver.least = record { lawful = driver.lawful; lasting = λ d seats now. (driver.lasting d seats now).0 } in
    λ cycles seats old d can act.
    messages-count g.D.Driver.drive g.D.Driver.needs g.D.Driver.least law cycles seats can.meaning can.setting can.held old can.of_run can.goes_on can.nobody d act
