use Rattle.protocol_runs.proofs.Driver.{IsDriver}
use Rattle.ruby_world.proofs.Openings.{opened-facts, opened-view}
use Rattle.ruby_world.proofs.world.World.new.Goals as goal

pub invariant_of-result : goal.invariant_of-result
invariant_of-result g c =
    let driver = g.met.D.Driver g.world.𝓛 g.world.𝓜 g.world.𝓡 ((λ s x. x), (λ x. x), (λ x. x), λ x. x) in
    let driving : IsDriver g.D.Driver.drive g.D.Driver.needs g.D.Driver.least = record { lawful = driver.lawful; lasting = λ d seats now. (driver.lasting d seats now).0 } in
    let a = c.args in
    let lawful = c.settings_are_lawful.ensures.enough a.plan a.topology a.limits.seed a.limits.cycles a.limits.limit a.driver c.requires.fits c.requires.cycles c.requires.seats in
    opened-facts g.D.Driver.least g.D.Driver.drive g.D.Driver.opening a.plan a.topology a.limits c.in_ok-seats.seats.items a.driver c.requires.driver
    c.in_ok-seats.state c.in_ok-seats.ensures.state g.D.Driver.needs driving (c.meanings_are_lawful.ensures a.plan) (c.meanings_are_framed.ensures a.plan) lawful
    c.requires.fits c.requires.cycles c.requires.seats c.in_ok-seats.ensures.seats c.in_ok-seats.waiting.items c.in_ok-seats.ensures.count c.in_ok-seats.ensures.none

pub returns : goal.returns
returns g c =
    opened-view g.D.Driver.least g.D.Driver.drive g.D.Driver.opening c.args.plan c.args.topology c.args.limits c.in_ok-seats.seats.items c.args.driver c.requires.driver
    c.in_ok-seats.state c.in_ok-seats.ensures.state
