use Rattle.std.proofs.Common.{◌≤◌, ◌∙◌, None, length, refl, sym, slice_get, arith}
use Rattle.run_journal.specs.declared.event.Event.TheVariants as event
use Rattle.ctl_store.specs.Prelude.{ctl_of}
use Rattle.protocol_runs.proofs.Driver.{IsDriver}
use Rattle.protocol_meaning.specs.Prelude.{meaning_of, setting_of}
use Rattle.world_state.specs.declared.state.State.{State}
use Rattle.world_state.specs.Prelude.{waiting_at}
use Rattle.ruby_world.proofs.Keeping.{laws}
use Rattle.ruby_world.proofs.Facts.{free-there, home-after, running, take-settles}
use Rattle.ruby_world.proofs.Openings.{few-controllers as few-machines, few-counts}
use Rattle.ruby_world.proofs.Stays.{holds-by, next-data}
use Rattle.ruby_world.proofs.Steps.{take-holds, take-kept, take-made}
use Rattle.std.proofs.Common.{false}
use Rattle.std.proofs.lemmas.List.{append-nil}
use Rattle.run_journal.specs.Prelude.{HasRoomFor}
use Rattle.world_state.specs.Prelude.{SameCycle, Writes}
use Rattle.ruby_world.proofs.Taking.{held-now, home-mark, settled-err, settled-ok}
use Rattle.ruby_world.proofs.world.World.take.Goals as goal

pub settle_at-requires : goal.settle_at-requires
settle_at-requires g c =
    let w = c.self.inside in
    let facts = c.self.invariant in
    let driver = g.met.D.Driver g.world.𝓛 g.world.𝓜 g.world.𝓡 ((λ s x. x), (λ x. x), (λ x. x), λ x. x) in
    let driving : IsDriver g.D.Driver.drive g.D.Driver.needs g.D.Driver.least = record { lawful = driver.lawful; lasting = λ d seats now. (driver.lasting d seats now).0 } in
    let begun = g.D.Driver.opening w.state.driver in
    let setting = setting_of w.plan w.topology w.limits.seed w.limits.cycles w.limits.limit begun in
    let means = c.meanings_are_lawful.ensures w.plan in
    let lawful = c.settings_are_lawful.ensures.enough w.plan w.topology w.limits.seed w.limits.cycles w.limits.limit begun facts.fits facts.cycles facts.enough in
    let law = laws (meaning_of w.plan) g.D.Driver.drive setting g.D.Driver.needs g.D.Driver.least driving means (c.meanings_are_framed.ensures w.plan) lawful in
    take-settles g.D.Driver.least g.D.Driver.drive g.D.Driver.opening w.plan w.topology w.limits w.seats.items w.waiting.items w.state facts law c.args.c (rw (← c.self.view_is) at c.requires)

pub invariant_of-self : goal.invariant_of-self
invariant_of-self g c =
    let w = c.self.inside in
    let facts = c.self.invariant in
    let driver = g.met.D.Driver g.world.𝓛 g.world.𝓜 g.world.𝓡 ((λ s x. x), (λ x. x), (λ x. x), λ x. x) in
    let driving : IsDriver g.D.Driver.drive g.D.Driver.needs g.D.Driver.least = record { lawful = driver.lawful; lasting = λ d seats now. (driver.lasting d seats now).0 } in
    let begun = g.D.Driver.opening w.state.driver in
    let setting = setting_of w.plan w.topology w.limits.seed w.limits.cycles w.limits.limit begun in
    let means = c.meanings_are_lawful.ensures w.plan in
    let lawful = c.settings_are_lawful.ensures.enough w.plan w.topology w.limits.seed w.limits.cycles w.limits.limit begun facts.fits facts.cycles facts.enough in
    let law = laws (meaning_of w.plan) g.D.Driver.drive setting g.D.Driver.needs g.D.Driver.least driving means (c.meanings_are_framed.ensures w.plan) lawful in
    let can = rw (← c.self.view_is) at c.requires in
    let st : State _ = record { now = w.state.now; places = c.settle_at.new.places; driver = w.state.driver; issued = w.state.issued; next = w.state.next; verdict = w.state.verdict; book = w.state.book } in
    let e = c.settle_at.ensures in
    let it = c.in_err-settle_at.ensures in
    next-data g.D.Driver.least g.D.Driver.drive g.D.Driver.opening w.plan w.topology w.limits w.seats.items w.waiting.items c.settle_at.new.waiting.items w.state st facts refl facts.world
    (settled-err g.D.Driver.least g.D.Driver.drive g.D.Driver.opening w.plan w.topology w.limits w.seats.items w.waiting.items w.state facts law c.args.c can c.settle_at.new.waiting.items st (record { now = refl; driver = refl; issued = refl; next = refl; verdict = refl }) refl refl e.made (e.lists ∙ facts.kept.count ∙ sym e.count) (omega arith)
    (record { entries_left = omega arith; numbers_left = omega arith; sents_left = omega arith }) e.others e.rest it.err it.same)

pub invariant_of-self-in_err-reserve : goal.invariant_of-self-in_err-reserve
invariant_of-self-in_err-reserve g c =
    let w = c.self.inside in
    let facts = c.self.invariant in
    let driver = g.met.D.Driver g.world.𝓛 g.world.𝓜 g.world.𝓡 ((λ s x. x), (λ x. x), (λ x. x), λ x. x) in
    let driving : IsDriver g.D.Driver.drive g.D.Driver.needs g.D.Driver.least = record { lawful = driver.lawful; lasting = λ d seats now. (driver.lasting d seats now).0 } in
    let begun = g.D.Driver.opening w.state.driver in
    let setting = setting_of w.plan w.topology w.limits.seed w.limits.cycles w.limits.limit begun in
    let means = c.meanings_are_lawful.ensures w.plan in
    let lawful = c.settings_are_lawful.ensures.enough w.plan w.topology w.limits.seed w.limits.cycles w.limits.limit begun facts.fits facts.cycles facts.enough in
    let law = laws (meaning_of w.plan) g.D.Driver.drive setting g.D.Driver.needs g.D.Driver.least driving means (c.meanings_are_framed.ensures w.plan) lawful in
    let can = rw (← c.self.view_is) at c.requires in
    let st : State _ = record { now = w.state.now; places = c.settle_at.new.places; driver = w.state.driver; issued = w.state.issued; next = w.state.next; verdict = w.state.verdict; book = c.reserve.new.self } in
    let e = c.settle_at.ensures in
    let it = c.in_ok-settle_at.ensures in
    let b = c.reserve.ensures in
    next-data g.D.Driver.least g.D.Driver.drive g.D.Driver.opening w.plan w.topology w.limits w.seats.items w.waiting.items c.settle_at.new.waiting.items w.state st facts refl facts.world
    (settled-ok g.D.Driver.least g.D.Driver.drive g.D.Driver.opening w.plan w.topology w.limits w.seats.items w.waiting.items w.state facts law c.args.c can c.settle_at.new.waiting.items st (record { now = refl; driver = refl; issued = refl; next = refl; verdict = refl }) b.history b.journal e.made (e.lists ∙ facts.kept.count ∙ sym e.count) b.no_less
    b.no_fewer e.others e.rest it.ok it.none)

pub take_out-kept-requires : goal.take_out-kept-requires
take_out-kept-requires g c =
    let w = c.self.inside in
    let facts = c.self.invariant in
    let driver = g.met.D.Driver g.world.𝓛 g.world.𝓜 g.world.𝓡 ((λ s x. x), (λ x. x), (λ x. x), λ x. x) in
    let driving : IsDriver g.D.Driver.drive g.D.Driver.needs g.D.Driver.least = record { lawful = driver.lawful; lasting = λ d seats now. (driver.lasting d seats now).0 } in
    let begun = g.D.Driver.opening w.state.driver in
    let setting = setting_of w.plan w.topology w.limits.seed w.limits.cycles w.limits.limit begun in
    let means = c.meanings_are_lawful.ensures w.plan in
    let lawful = c.settings_are_lawful.ensures.enough w.plan w.topology w.limits.seed w.limits.cycles w.limits.limit begun facts.fits facts.cycles facts.enough in
    let law = laws (meaning_of w.plan) g.D.Driver.drive setting g.D.Driver.needs g.D.Driver.least driving means (c.meanings_are_framed.ensures w.plan) lawful in
    home-after g.D.Driver.least g.D.Driver.drive g.D.Driver.opening w.plan w.topology w.limits w.seats.items w.waiting.items w.state facts law c.args.c (rw (← c.self.view_is) at c.requires) c.settle_at.new.places.items c.settle_at.ensures.made c.settle_at.ensures.count

pub machine_of-requires-clause-few : goal.machine_of-requires-clause-few
machine_of-requires-clause-few g c =
    let i = c.self.inside in
    let facts = c.self.invariant in
    let few = few-counts i.plan i.topology facts.fits in
    rw c.as_slice.ensures (omega (arith, few))

pub machine_of-requires-clause-all : goal.machine_of-requires-clause-all
machine_of-requires-clause-all g c =
    let i = c.self.inside in
    let facts = c.self.invariant in
    let few = few-machines i.plan i.topology facts.fits in
    rw c.as_slice.ensures (omega (arith, few))

pub invariant_of-self-2 : goal.invariant_of-self-2
invariant_of-self-2 g c =
    let w = c.self.inside in
    let facts = c.self.invariant in
    let driver = g.met.D.Driver g.world.𝓛 g.world.𝓜 g.world.𝓡 ((λ s x. x), (λ x. x), (λ x. x), λ x. x) in
    let driving : IsDriver g.D.Driver.drive g.D.Driver.needs g.D.Driver.least = record { lawful = driver.lawful; lasting = λ d seats now. (driver.lasting d seats now).0 } in
    let begun = g.D.Driver.opening w.state.driver in
    let setting = setting_of w.plan w.topology w.limits.seed w.limits.cycles w.limits.limit begun in
    let means = c.meanings_are_lawful.ensures w.plan in
    let lawful = c.settings_are_lawful.ensures.enough w.plan w.topology w.limits.seed w.limits.cycles w.limits.limit begun facts.fits facts.cycles facts.enough in
    let law = laws (meaning_of w.plan) g.D.Driver.drive setting g.D.Driver.needs g.D.Driver.least driving means (c.meanings_are_framed.ensures w.plan) lawful in
    let can = rw (← c.self.view_is) at c.requires in
    let mid : State _ = record { now = w.state.now; places = c.settle_at.new.places; driver = w.state.driver; issued = w.state.issued; next = w.state.next; verdict = w.state.verdict; book = c.reserve.new.self } in
    let new : State _ = record { now = w.state.now; places = c.take_out-kept.new.places; driver = w.state.driver; issued = w.state.issued; next = w.state.next; verdict = w.state.verdict; book = c.note.new.self } in
    let lists = c.settle_at.new.waiting.items in
    let e = c.settle_at.ensures in
    let it = c.in_ok-settle_at.ensures in
    let b = c.reserve.ensures in
    let kept = settled-ok g.D.Driver.least g.D.Driver.drive g.D.Driver.opening w.plan w.topology w.limits w.seats.items w.waiting.items w.state facts law c.args.c can lists mid (record { now = refl; driver = refl; issued = refl; next = refl; verdict = refl }) b.history b.journal e.made (e.lists ∙ facts.kept.count ∙ sym e.count) b.no_less
    b.no_fewer e.others e.rest it.ok it.none in
    let P = meaning_of w.plan in
    let taken = c.take_out-kept.ensures in
    let empty = it.none in
    let free = free-there g.D.Driver.least g.D.Driver.drive g.D.Driver.opening w.plan w.topology w.limits w.seats.items w.waiting.items w.state facts law c.args.c can in
    let open_run = running g.D.Driver.least g.D.Driver.drive g.D.Driver.opening w.plan w.topology w.limits w.seats.items w.waiting.items w.state facts law c.args.c can in
    let same : SameCycle mid new = record { now = refl; driver = refl; issued = refl; next = refl; verdict = refl } in
    let writes : Writes mid new (event.Take c.args.worker c.args.c) None = record { history = c.note.ensures.history; journal = c.note.ensures.journal ∙ sym (append-nil mid.book.journal) } in
    let room : length mid.places.items ≤ new.book.event_room = omega (arith, c.in_ok-reserve.ensures.ok, c.note.ensures.room, c.len-ends.ensures) in
    let few = c.in_ok-reserve.ensures.entry in
    let entry_room : HasRoomFor (length mid.places.items) 0 0 new.book.entry_room =
    rw c.note.ensures.entry_room (record { entries_fit = omega (arith, few.entries_fit, c.len-ends.ensures); numbers_fit = omega arith; sents_fit = omega arith }) in
    next-data g.D.Driver.least g.D.Driver.drive g.D.Driver.opening w.plan w.topology w.limits w.seats.items w.waiting.items lists w.state new facts refl _
    (take-kept P g.D.Driver.drive setting law facts.world lists mid kept open_run c.args.worker c.args.c c.take_out-kept.result new taken empty free same writes room entry_room)

pub returns-clause-holds : goal.returns-clause-holds
returns-clause-holds g c =
    let w = c.self.inside in
    let facts = c.self.invariant in
    let driver = g.met.D.Driver g.world.𝓛 g.world.𝓜 g.world.𝓡 ((λ s x. x), (λ x. x), (λ x. x), λ x. x) in
    let driving : IsDriver g.D.Driver.drive g.D.Driver.needs g.D.Driver.least = record { lawful = driver.lawful; lasting = λ d seats now. (driver.lasting d seats now).0 } in
    let begun = g.D.Driver.opening w.state.driver in
    let setting = setting_of w.plan w.topology w.limits.seed w.limits.cycles w.limits.limit begun in
    let means = c.meanings_are_lawful.ensures w.plan in
    let lawful = c.settings_are_lawful.ensures.enough w.plan w.topology w.limits.seed w.limits.cycles w.limits.limit begun facts.fits facts.cycles facts.enough in
    let law = laws (meaning_of w.plan) g.D.Driver.drive setting g.D.Driver.needs g.D.Driver.least driving means (c.meanings_are_framed.ensures w.plan) lawful in
    let can = rw (← c.self.view_is) at c.requires in
    let mid : State _ = record { now = w.state.now; places = c.settle_at.new.places; driver = w.state.driver; issued = w.state.issued; next = w.state.next; verdict = w.state.verdict; book = c.reserve.new.self } in
    let new : State _ = record { now = w.state.now; places = c.take_out-kept.new.places; driver = w.state.driver; issued = w.state.issued; next = w.state.next; verdict = w.state.verdict; book = c.note.new.self } in
    let lists = c.settle_at.new.waiting.items in
    let e = c.settle_at.ensures in
    let it = c.in_ok-settle_at.ensures in
    let b = c.reserve.ensures in
    let kept = settled-ok g.D.Driver.least g.D.Driver.drive g.D.Driver.opening w.plan w.topology w.limits w.seats.items w.waiting.items w.state facts law c.args.c can lists mid (record { now = refl; driver = refl; issued = refl; next = refl; verdict = refl }) b.history b.journal e.made (e.lists ∙ facts.kept.count ∙ sym e.count) b.no_less
    b.no_fewer e.others e.rest it.ok it.none in
    let P = meaning_of w.plan in
    let taken = c.take_out-kept.ensures in
    let empty = it.none in
    let free = free-there g.D.Driver.least g.D.Driver.drive g.D.Driver.opening w.plan w.topology w.limits w.seats.items w.waiting.items w.state facts law c.args.c can in
    let open_run = running g.D.Driver.least g.D.Driver.drive g.D.Driver.opening w.plan w.topology w.limits w.seats.items w.waiting.items w.state facts law c.args.c can in
    let same : SameCycle mid new = record { now = refl; driver = refl; issued = refl; next = refl; verdict = refl } in
    let writes : Writes mid new (event.Take c.args.worker c.args.c) None = record { history = c.note.ensures.history; journal = c.note.ensures.journal ∙ sym (append-nil mid.book.journal) } in
    let room : length mid.places.items ≤ new.book.event_room = omega (arith, c.in_ok-reserve.ensures.ok, c.note.ensures.room, c.len-ends.ensures) in
    let few = c.in_ok-reserve.ensures.entry in
    let entry_room : HasRoomFor (length mid.places.items) 0 0 new.book.entry_room =
    rw c.note.ensures.entry_room (record { entries_fit = omega (arith, few.entries_fit, c.len-ends.ensures); numbers_fit = omega arith; sents_fit = omega arith }) in
    let then = take-kept P g.D.Driver.drive setting law facts.world lists mid kept open_run c.args.worker c.args.c c.take_out-kept.result new taken empty free same writes room entry_room in
    let holds = take-holds P g.D.Driver.drive setting law facts.world lists mid kept open_run c.args.worker c.args.c c.take_out-kept.result new taken empty free same writes room entry_room in
    let made = take-made P g.D.Driver.drive setting law facts.world lists mid kept open_run c.args.worker c.args.c c.take_out-kept.result new taken empty free same writes room entry_room in
    holds-by g.D.Driver.least g.D.Driver.drive g.D.Driver.opening w.plan w.topology w.limits w.seats.items new _ then.run c.args.worker
    (record {
      controller = c.args.c;
      machine = c.machine_of.result;
      cycle = w.state.now;
      seed = w.limits.seed;
      limit = w.limits.limit;
      fired = c.fired.result;
      stalled = false;
      store = c.take_out-kept.result.store;
      routes = c.take_out-kept.result.routes;
    })
    (held-now P g.D.Driver.drive setting c.args.worker c.args.c (ctl_of c.take_out-kept.result.store) mid.book.history new.book.history _ (event.Take c.args.worker c.args.c) writes.history holds)
    (sym kept.now) made (rw c.as_slice.ensures at c.machine_of.ensures) refl refl c.fired.ensures
    (home-mark c.settle_at.new.places.items c.args.c c.take_out-kept.result taken.finished taken.was (slice_get w.state.places.items c.args.c) (waiting_at w.waiting.items c.args.c) it.ok)
