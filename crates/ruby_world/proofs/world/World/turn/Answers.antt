use Rattle.std.proofs.Common.{List, sym, subst}
use Rattle.protocol_runs.proofs.Driver.{IsDriver}
use Rattle.protocol_meaning.specs.Prelude.{meaning_of, setting_of}
use Rattle.ruby_world.proofs.Keeping.{laws}
use Rattle.world_state.specs.declared.seat.SeatAt.{SeatAt}
use Rattle.world_state.specs.Prelude.{CanTurn}
use Rattle.ruby_world.proofs.Facts.{can-turn, mid-data, turn-settles, turned-added, turned-data, turned-nobody, turned-verdict}
use Rattle.ruby_world.proofs.world.World.turn.Goals as goal

pub settle_all-requires-clause-can : goal.settle_all-requires-clause-can
settle_all-requires-clause-can g c =
    let w = c.self.inside in
    let facts = c.self.invariant in
    let driver = g.met.D.Driver g.world.𝓛 g.world.𝓜 g.world.𝓡 ((λ s x. x), (λ x. x), (λ x. x), λ x. x) in
    let driving : IsDriver g.D.Driver.drive g.D.Driver.needs g.D.Driver.least = record { lawful = driver.lawful; lasting = λ d seats now. (driver.lasting d seats now).0 } in
    let begun = g.D.Driver.opening w.state.driver in
    let setting = setting_of w.plan w.topology w.limits.seed w.limits.cycles w.limits.limit begun in
    let means = c.meanings_are_lawful.ensures w.plan in
    let lawful = c.settings_are_lawful.ensures.enough w.plan w.topology w.limits.seed w.limits.cycles w.limits.limit begun facts.fits facts.cycles facts.enough in
    let law = laws (meaning_of w.plan) g.D.Driver.drive setting g.D.Driver.needs g.D.Driver.least driving means (c.meanings_are_framed.ensures w.plan) lawful in
    turn-settles g.D.Driver.least g.D.Driver.drive g.D.Driver.opening w.plan w.topology w.limits w.seats.items w.waiting.items w.state facts law (rw (← c.self.view_is) at c.requires)

pub invariant_of-self : goal.invariant_of-self
invariant_of-self g c =
    let w = c.self.inside in
    let facts = c.self.invariant in
    let driver = g.met.D.Driver g.world.𝓛 g.world.𝓜 g.world.𝓡 ((λ s x. x), (λ x. x), (λ x. x), λ x. x) in
    let driving : IsDriver g.D.Driver.drive g.D.Driver.needs g.D.Driver.least = record { lawful = driver.lawful; lasting = λ d seats now. (driver.lasting d seats now).0 } in
    let begun = g.D.Driver.opening w.state.driver in
    let setting = setting_of w.plan w.topology w.limits.seed w.limits.cycles w.limits.limit begun in
    let means = c.meanings_are_lawful.ensures w.plan in
    let lawful = c.settings_are_lawful.ensures.enough w.plan w.topology w.limits.seed w.limits.cycles w.limits.limit begun facts.fits facts.cycles facts.enough in
    let law = laws (meaning_of w.plan) g.D.Driver.drive setting g.D.Driver.needs g.D.Driver.least driving means (c.meanings_are_framed.ensures w.plan) lawful in
    let can = rw (← c.self.view_is) at c.requires in
    let e = c.settle_all.ensures in
    let rest = c.settle_all.new.waiting.items in
    let places = c.settle_all.new.places in
    mid-data g.D.Driver.least g.D.Driver.drive g.D.Driver.opening w.plan w.topology w.limits w.seats.items w.waiting.items w.state facts law can rest places e.made e.count e.lists e.some

pub turn-requires-after_bounds : goal.turn-requires-after_bounds
turn-requires-after_bounds g c κs within =
    let w = c.self.inside in
    let facts = c.self.invariant in
    let driver = g.met.D.Driver g.world.𝓛 g.world.𝓜 g.world.𝓡 ((λ s x. x), (λ x. x), (λ x. x), λ x. x) in
    let driving : IsDriver g.D.Driver.drive g.D.Driver.needs g.D.Driver.least = record { lawful = driver.lawful; lasting = λ d seats now. (driver.lasting d seats now).0 } in
    let begun = g.D.Driver.opening w.state.driver in
    let setting = setting_of w.plan w.topology w.limits.seed w.limits.cycles w.limits.limit begun in
    let means = c.meanings_are_lawful.ensures w.plan in
    let lawful = c.settings_are_lawful.ensures.enough w.plan w.topology w.limits.seed w.limits.cycles w.limits.limit begun facts.fits facts.cycles facts.enough in
    let law = laws (meaning_of w.plan) g.D.Driver.drive setting g.D.Driver.needs g.D.Driver.least driving means (c.meanings_are_framed.ensures w.plan) lawful in
    let can = rw (← c.self.view_is) at c.requires in
    let e = c.settle_all.ensures in
    let rest = c.settle_all.new.waiting.items in
    let places = c.settle_all.new.places in
    subst (λ (seats : List SeatAt). CanTurn g.D.Driver.least g.D.Driver.drive w.limits.cycles seats (record { now = w.state.now; places = places; driver = w.state.driver; issued = w.state.issued; next = w.state.next; verdict = w.state.verdict; book = w.state.book })) (sym c.deref.ensures.value)
    (can-turn g.D.Driver.least g.D.Driver.drive g.D.Driver.opening w.plan w.topology w.limits w.seats.items w.waiting.items w.state facts law can rest places e.made e.count e.lists e.some means lawful c.in_ok-settle_all.ensures.none)

pub invariant_of-self-2 : goal.invariant_of-self-2
invariant_of-self-2 g c =
    let w = c.self.inside in
    let facts = c.self.invariant in
    let driver = g.met.D.Driver g.world.𝓛 g.world.𝓜 g.world.𝓡 ((λ s x. x), (λ x. x), (λ x. x), λ x. x) in
    let driving : IsDriver g.D.Driver.drive g.D.Driver.needs g.D.Driver.least = record { lawful = driver.lawful; lasting = λ d seats now. (driver.lasting d seats now).0 } in
    let begun = g.D.Driver.opening w.state.driver in
    let setting = setting_of w.plan w.topology w.limits.seed w.limits.cycles w.limits.limit begun in
    let means = c.meanings_are_lawful.ensures w.plan in
    let lawful = c.settings_are_lawful.ensures.enough w.plan w.topology w.limits.seed w.limits.cycles w.limits.limit begun facts.fits facts.cycles facts.enough in
    let law = laws (meaning_of w.plan) g.D.Driver.drive setting g.D.Driver.needs g.D.Driver.least driving means (c.meanings_are_framed.ensures w.plan) lawful in
    let can = rw (← c.self.view_is) at c.requires in
    let e = c.settle_all.ensures in
    let rest = c.settle_all.new.waiting.items in
    let places = c.settle_all.new.places in
    let new = c.turn.new.st in
    let step = rw c.deref.ensures.value at c.turn.ensures.step in
    turned-data g.D.Driver.least g.D.Driver.drive g.D.Driver.opening w.plan w.topology w.limits w.seats.items w.waiting.items w.state facts law can rest places e.made e.count e.lists e.some means lawful c.in_ok-settle_all.ensures.none c.args.worker new (λ d sat n. (driver.lasting d sat n).1) c.turn.result step c.turn.ensures.made c.turn.ensures.err

pub returns-clause-added : goal.returns-clause-added
returns-clause-added g c =
    let w = c.self.inside in
    let facts = c.self.invariant in
    let driver = g.met.D.Driver g.world.𝓛 g.world.𝓜 g.world.𝓡 ((λ s x. x), (λ x. x), (λ x. x), λ x. x) in
    let driving : IsDriver g.D.Driver.drive g.D.Driver.needs g.D.Driver.least = record { lawful = driver.lawful; lasting = λ d seats now. (driver.lasting d seats now).0 } in
    let begun = g.D.Driver.opening w.state.driver in
    let setting = setting_of w.plan w.topology w.limits.seed w.limits.cycles w.limits.limit begun in
    let means = c.meanings_are_lawful.ensures w.plan in
    let lawful = c.settings_are_lawful.ensures.enough w.plan w.topology w.limits.seed w.limits.cycles w.limits.limit begun facts.fits facts.cycles facts.enough in
    let law = laws (meaning_of w.plan) g.D.Driver.drive setting g.D.Driver.needs g.D.Driver.least driving means (c.meanings_are_framed.ensures w.plan) lawful in
    let can = rw (← c.self.view_is) at c.requires in
    let e = c.settle_all.ensures in
    let rest = c.settle_all.new.waiting.items in
    let places = c.settle_all.new.places in
    let new = c.turn.new.st in
    let step = rw c.deref.ensures.value at c.turn.ensures.step in
    rw (← c.self.view_is) (turned-added g.D.Driver.least g.D.Driver.drive g.D.Driver.opening w.plan w.topology w.limits w.seats.items w.waiting.items w.state facts law can rest places e.made e.count e.lists e.some means lawful c.in_ok-settle_all.ensures.none c.args.worker new (λ d sat n. (driver.lasting d sat n).1) c.turn.result step c.turn.ensures.made)

pub returns-clause-nobody : goal.returns-clause-nobody
returns-clause-nobody g c =
    let w = c.self.inside in
    let facts = c.self.invariant in
    let driver = g.met.D.Driver g.world.𝓛 g.world.𝓜 g.world.𝓡 ((λ s x. x), (λ x. x), (λ x. x), λ x. x) in
    let driving : IsDriver g.D.Driver.drive g.D.Driver.needs g.D.Driver.least = record { lawful = driver.lawful; lasting = λ d seats now. (driver.lasting d seats now).0 } in
    let begun = g.D.Driver.opening w.state.driver in
    let setting = setting_of w.plan w.topology w.limits.seed w.limits.cycles w.limits.limit begun in
    let means = c.meanings_are_lawful.ensures w.plan in
    let lawful = c.settings_are_lawful.ensures.enough w.plan w.topology w.limits.seed w.limits.cycles w.limits.limit begun facts.fits facts.cycles facts.enough in
    let law = laws (meaning_of w.plan) g.D.Driver.drive setting g.D.Driver.needs g.D.Driver.least driving means (c.meanings_are_framed.ensures w.plan) lawful in
    let can = rw (← c.self.view_is) at c.requires in
    let e = c.settle_all.ensures in
    let rest = c.settle_all.new.waiting.items in
    let places = c.settle_all.new.places in
    let new = c.turn.new.st in
    let step = rw c.deref.ensures.value at c.turn.ensures.step in
    turned-nobody g.D.Driver.least g.D.Driver.drive g.D.Driver.opening w.plan w.topology w.limits w.seats.items w.waiting.items w.state facts law can rest places e.made e.count e.lists e.some means lawful c.in_ok-settle_all.ensures.none c.args.worker new (λ d sat n. (driver.lasting d sat n).1) c.turn.result step c.turn.ensures.made

pub returns-clause-verdict : goal.returns-clause-verdict
returns-clause-verdict g c =
    let w = c.self.inside in
    let facts = c.self.invariant in
    let driver = g.met.D.Driver g.world.𝓛 g.world.𝓜 g.world.𝓡 ((λ s x. x), (λ x. x), (λ x. x), λ x. x) in
    let driving : IsDriver g.D.Driver.drive g.D.Driver.needs g.D.Driver.least = record { lawful = driver.lawful; lasting = λ d seats now. (driver.lasting d seats now).0 } in
    let begun = g.D.Driver.opening w.state.driver in
    let setting = setting_of w.plan w.topology w.limits.seed w.limits.cycles w.limits.limit begun in
    let means = c.meanings_are_lawful.ensures w.plan in
    let lawful = c.settings_are_lawful.ensures.enough w.plan w.topology w.limits.seed w.limits.cycles w.limits.limit begun facts.fits facts.cycles facts.enough in
    let law = laws (meaning_of w.plan) g.D.Driver.drive setting g.D.Driver.needs g.D.Driver.least driving means (c.meanings_are_framed.ensures w.plan) lawful in
    let can = rw (← c.self.view_is) at c.requires in
    let e = c.settle_all.ensures in
    let rest = c.settle_all.new.waiting.items in
    let places = c.settle_all.new.places in
    let new = c.turn.new.st in
    let step = rw c.deref.ensures.value at c.turn.ensures.step in
    turned-verdict g.D.Driver.least g.D.Driver.drive g.D.Driver.opening w.plan w.topology w.limits w.seats.items w.waiting.items w.state facts law can rest places e.made e.count e.lists e.some means lawful c.in_ok-settle_all.ensures.none c.args.worker new (λ d sat n. (driver.lasting d sat n).1) c.turn.result step c.turn.ensures.made c.turn.ensures.verdict
