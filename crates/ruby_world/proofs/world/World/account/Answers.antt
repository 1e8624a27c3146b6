use Rattle.std.proofs.Common.{Option, IsSome, subst}
use Rattle.protocol_runs.specs.Prelude.{HasEnded, rules}
use Rattle.run_journal.specs.declared.verdict.Verdict.{Verdict}
use Rattle.protocol_runs.proofs.Driver.{IsDriver}
use Rattle.protocol_meaning.specs.Prelude.{meaning_of, setting_of}
use Rattle.world_state.specs.Prelude.{IsNobody, made_in, world_of}
use Rattle.ruby_world.proofs.Closed.{ended-nobody}
use Rattle.ruby_world.proofs.Counted.{none-more}
use Rattle.ruby_world.proofs.Endings.{accounted-there}
use Rattle.ruby_world.proofs.Keeping.{laws}
use Rattle.ruby_world.proofs.Openings.{no-ctl}
use Rattle.ruby_world.proofs.ReadOff.{nobody-there}
use Rattle.ruby_world.proofs.Settling.{settled-is}
use Rattle.ruby_world.proofs.world.World.account.Goals as goal

pub account-requires-clause-nobody : goal.account-requires-clause-nobody
account-requires-clause-nobody g c =
    let w = c.self.inside in
    let facts = c.self.invariant in
    let driver = g.met.D.Driver g.world.𝓛 g.world.𝓜 g.world.𝓡 ((λ s x. x), (λ x. x), (λ x. x), λ x. x) in
    let driving : IsDriver g.D.Driver.drive g.D.Driver.needs g.D.Driver.least = record { lawful = driver.lawful; lasting = λ d seats now. (driver.lasting d seats now).0 } in
    let begun = g.D.Driver.opening w.state.driver in
    let setting = setting_of w.plan w.topology w.limits.seed w.limits.cycles w.limits.limit begun in
    let means = c.meanings_are_lawful.ensures w.plan in
    let lawful = c.settings_are_lawful.ensures.enough w.plan w.topology w.limits.seed w.limits.cycles w.limits.limit begun facts.fits facts.cycles facts.enough in
    let law = laws (meaning_of w.plan) g.D.Driver.drive setting g.D.Driver.needs g.D.Driver.least driving means (c.meanings_are_framed.ensures w.plan) lawful in
    let there : HasEnded facts.world = (rw (← c.self.view_is) at c.requires) facts.world facts.kept.run in
    let R = rules (meaning_of w.plan) g.D.Driver.drive setting in
    let nobody : IsNobody (made_in w.state.places.items) =
    nobody-there (meaning_of w.plan) g.D.Driver.drive setting law facts.world w.waiting.items w.state facts.kept
    (ended-nobody R w.state.book.history facts.world w.state.book.journal facts.kept.run there) in
    let settled =
    settled-is (meaning_of w.plan) g.D.Driver.drive setting no-ctl facts.world w.waiting.items w.state facts.kept
    (facts.kept.settled (subst (λ (o : Option Verdict). IsSome o) facts.kept.verdict there)) nobody in
    nobody

pub account-requires-clause-few : goal.account-requires-clause-few
account-requires-clause-few g c =
    let w = c.self.inside in
    let facts = c.self.invariant in
    let driver = g.met.D.Driver g.world.𝓛 g.world.𝓜 g.world.𝓡 ((λ s x. x), (λ x. x), (λ x. x), λ x. x) in
    let driving : IsDriver g.D.Driver.drive g.D.Driver.needs g.D.Driver.least = record { lawful = driver.lawful; lasting = λ d seats now. (driver.lasting d seats now).0 } in
    let begun = g.D.Driver.opening w.state.driver in
    let setting = setting_of w.plan w.topology w.limits.seed w.limits.cycles w.limits.limit begun in
    let means = c.meanings_are_lawful.ensures w.plan in
    let lawful = c.settings_are_lawful.ensures.enough w.plan w.topology w.limits.seed w.limits.cycles w.limits.limit begun facts.fits facts.cycles facts.enough in
    let law = laws (meaning_of w.plan) g.D.Driver.drive setting g.D.Driver.needs g.D.Driver.least driving means (c.meanings_are_framed.ensures w.plan) lawful in
    let there : HasEnded facts.world = (rw (← c.self.view_is) at c.requires) facts.world facts.kept.run in
    let R = rules (meaning_of w.plan) g.D.Driver.drive setting in
    let nobody : IsNobody (made_in w.state.places.items) =
    nobody-there (meaning_of w.plan) g.D.Driver.drive setting law facts.world w.waiting.items w.state facts.kept
    (ended-nobody R w.state.book.history facts.world w.state.book.journal facts.kept.run there) in
    let settled =
    settled-is (meaning_of w.plan) g.D.Driver.drive setting no-ctl facts.world w.waiting.items w.state facts.kept
    (facts.kept.settled (subst (λ (o : Option Verdict). IsSome o) facts.kept.verdict there)) nobody in
    none-more (meaning_of w.plan) g.D.Driver.drive setting no-ctl w.state.places.items w.state.book.journal nobody
    (c.accounts_for_each_message.ensures.adds_up (meaning_of w.plan) setting means lawful w.state.book.history (world_of no-ctl w.state) w.state.book.journal settled.run)

pub returns : goal.returns
returns g c =
    let w = c.self.inside in
    let facts = c.self.invariant in
    let driver = g.met.D.Driver g.world.𝓛 g.world.𝓜 g.world.𝓡 ((λ s x. x), (λ x. x), (λ x. x), λ x. x) in
    let driving : IsDriver g.D.Driver.drive g.D.Driver.needs g.D.Driver.least = record { lawful = driver.lawful; lasting = λ d seats now. (driver.lasting d seats now).0 } in
    let begun = g.D.Driver.opening w.state.driver in
    let setting = setting_of w.plan w.topology w.limits.seed w.limits.cycles w.limits.limit begun in
    let means = c.meanings_are_lawful.ensures w.plan in
    let lawful = c.settings_are_lawful.ensures.enough w.plan w.topology w.limits.seed w.limits.cycles w.limits.limit begun facts.fits facts.cycles facts.enough in
    let law = laws (meaning_of w.plan) g.D.Driver.drive setting g.D.Driver.needs g.D.Driver.least driving means (c.meanings_are_framed.ensures w.plan) lawful in
    let there : HasEnded facts.world = (rw (← c.self.view_is) at c.requires) facts.world facts.kept.run in
    let R = rules (meaning_of w.plan) g.D.Driver.drive setting in
    let nobody : IsNobody (made_in w.state.places.items) =
    nobody-there (meaning_of w.plan) g.D.Driver.drive setting law facts.world w.waiting.items w.state facts.kept
    (ended-nobody R w.state.book.history facts.world w.state.book.journal facts.kept.run there) in
    let settled =
    settled-is (meaning_of w.plan) g.D.Driver.drive setting no-ctl facts.world w.waiting.items w.state facts.kept
    (facts.kept.settled (subst (λ (o : Option Verdict). IsSome o) facts.kept.verdict there)) nobody in
    accounted-there g.D.Driver.drive g.D.Driver.opening w.plan w.topology w.limits no-ctl w.state settled.run c.args.self.now c.self.view_is c.account.result c.account.ensures
