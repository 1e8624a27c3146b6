use Rattle.std.proofs.Common.{◌≡◌, ◌∙◌, None, refl, sym, arith}
use Rattle.run_journal.specs.declared.event.Event.TheVariants as event
use Rattle.protocol_runs.proofs.Driver.{IsDriver}
use Rattle.protocol_meaning.specs.Prelude.{meaning_of, setting_of}
use Rattle.world_state.specs.declared.state.State.{State}
use Rattle.ruby_world.specs.Prelude.{view_of}
use Rattle.ruby_world.proofs.Keeping.{laws}
use Rattle.std.proofs.lemmas.List.{append-nil}
use Rattle.run_journal.specs.Prelude.{KeepsRoom}
use Rattle.world_state.specs.Prelude.{SameCycle, Writes}
use Rattle.ruby_world.specs.Prelude.{ctl_in, kept_in}
use Rattle.ruby_world.proofs.ReadOff.{in-world}
use Rattle.ruby_world.proofs.Stays.{next-data}
use Rattle.ruby_world.proofs.Steps.{held-within, release-kept, room-back}
use Rattle.ruby_world.proofs.world.World.release.Goals as goal

pub put_back-requires : goal.put_back-requires
put_back-requires g c =
    let w = c.self.inside in
    let facts = c.self.invariant in
    let driver = g.met.D.Driver g.world.𝓛 g.world.𝓜 g.world.𝓡 ((λ s x. x), (λ x. x), (λ x. x), λ x. x) in
    let driving : IsDriver g.D.Driver.drive g.D.Driver.needs g.D.Driver.least = record { lawful = driver.lawful; lasting = λ d seats now. (driver.lasting d seats now).0 } in
    let begun = g.D.Driver.opening w.state.driver in
    let setting = setting_of w.plan w.topology w.limits.seed w.limits.cycles w.limits.limit begun in
    let means = c.meanings_are_lawful.ensures w.plan in
    let lawful = c.settings_are_lawful.ensures.enough w.plan w.topology w.limits.seed w.limits.cycles w.limits.limit begun facts.fits facts.cycles facts.enough in
    let law = laws (meaning_of w.plan) g.D.Driver.drive setting g.D.Driver.needs g.D.Driver.least driving means (c.meanings_are_framed.ensures w.plan) lawful in
    let holds = rw (← c.self.view_is) at c.requires in
    let h = c.args.held in
    let x = ctl_in h in
    let P = meaning_of w.plan in
    let here = holds.holding facts.world facts.kept.run in
    let open_run = sym facts.kept.verdict ∙ here.held.goes_on in
    held-within P g.D.Driver.drive setting law facts.world w.waiting.items w.state facts.kept open_run c.args.worker h.controller x here.held

pub note-requires : goal.note-requires
note-requires g c =
    let w = c.self.inside in
    let facts = c.self.invariant in
    let driver = g.met.D.Driver g.world.𝓛 g.world.𝓜 g.world.𝓡 ((λ s x. x), (λ x. x), (λ x. x), λ x. x) in
    let driving : IsDriver g.D.Driver.drive g.D.Driver.needs g.D.Driver.least = record { lawful = driver.lawful; lasting = λ d seats now. (driver.lasting d seats now).0 } in
    let begun = g.D.Driver.opening w.state.driver in
    let setting = setting_of w.plan w.topology w.limits.seed w.limits.cycles w.limits.limit begun in
    let means = c.meanings_are_lawful.ensures w.plan in
    let lawful = c.settings_are_lawful.ensures.enough w.plan w.topology w.limits.seed w.limits.cycles w.limits.limit begun facts.fits facts.cycles facts.enough in
    let law = laws (meaning_of w.plan) g.D.Driver.drive setting g.D.Driver.needs g.D.Driver.least driving means (c.meanings_are_framed.ensures w.plan) lawful in
    let holds = rw (← c.self.view_is) at c.requires in
    let h = c.args.held in
    let x = ctl_in h in
    let P = meaning_of w.plan in
    let here = holds.holding facts.world facts.kept.run in
    let open_run = sym facts.kept.verdict ∙ here.held.goes_on in
    room-back P g.D.Driver.drive setting law facts.world w.waiting.items w.state facts.kept open_run c.args.worker h.controller x here.held

pub invariant_of-self : goal.invariant_of-self
invariant_of-self g c =
    let w = c.self.inside in
    let facts = c.self.invariant in
    let driver = g.met.D.Driver g.world.𝓛 g.world.𝓜 g.world.𝓡 ((λ s x. x), (λ x. x), (λ x. x), λ x. x) in
    let driving : IsDriver g.D.Driver.drive g.D.Driver.needs g.D.Driver.least = record { lawful = driver.lawful; lasting = λ d seats now. (driver.lasting d seats now).0 } in
    let begun = g.D.Driver.opening w.state.driver in
    let setting = setting_of w.plan w.topology w.limits.seed w.limits.cycles w.limits.limit begun in
    let means = c.meanings_are_lawful.ensures w.plan in
    let lawful = c.settings_are_lawful.ensures.enough w.plan w.topology w.limits.seed w.limits.cycles w.limits.limit begun facts.fits facts.cycles facts.enough in
    let law = laws (meaning_of w.plan) g.D.Driver.drive setting g.D.Driver.needs g.D.Driver.least driving means (c.meanings_are_framed.ensures w.plan) lawful in
    let holds = rw (← c.self.view_is) at c.requires in
    let h = c.args.held in
    let x = ctl_in h in
    let P = meaning_of w.plan in
    let here = holds.holding facts.world facts.kept.run in
    let open_run = sym facts.kept.verdict ∙ here.held.goes_on in
    let st : State _ = record { now = w.state.now; places = c.put_back.new.places; driver = w.state.driver; issued = w.state.issued; next = w.state.next; verdict = w.state.verdict; book = c.note.new.self } in
    let same : SameCycle w.state st = record { now = refl; driver = refl; issued = refl; next = refl; verdict = refl } in
    let writes : Writes w.state st (event.Release c.args.worker h.controller) None = record { history = c.note.ensures.history; journal = c.note.ensures.journal ∙ sym (append-nil w.state.book.journal) } in
    let back = rw c.into_kept.ensures at c.put_back.ensures in
    let keeps : KeepsRoom 0 0 0 w.state.book.entry_room st.book.entry_room = rw c.note.ensures.entry_room (record { entries_left = omega arith; numbers_left = omega arith; sents_left = omega arith }) in
    next-data g.D.Driver.least g.D.Driver.drive g.D.Driver.opening w.plan w.topology w.limits w.seats.items w.waiting.items w.waiting.items w.state st facts refl _
    (release-kept P g.D.Driver.drive setting law facts.world w.waiting.items w.state facts.kept open_run c.args.worker h.controller x here.held (kept_in h) st back refl holds.made same writes c.note.ensures.room keeps)

pub returns-clause-goes_on : goal.returns-clause-goes_on
returns-clause-goes_on g c =
    let w = c.self.inside in
    let facts = c.self.invariant in
    let driver = g.met.D.Driver g.world.𝓛 g.world.𝓜 g.world.𝓡 ((λ s x. x), (λ x. x), (λ x. x), λ x. x) in
    let driving : IsDriver g.D.Driver.drive g.D.Driver.needs g.D.Driver.least = record { lawful = driver.lawful; lasting = λ d seats now. (driver.lasting d seats now).0 } in
    let begun = g.D.Driver.opening w.state.driver in
    let setting = setting_of w.plan w.topology w.limits.seed w.limits.cycles w.limits.limit begun in
    let means = c.meanings_are_lawful.ensures w.plan in
    let lawful = c.settings_are_lawful.ensures.enough w.plan w.topology w.limits.seed w.limits.cycles w.limits.limit begun facts.fits facts.cycles facts.enough in
    let law = laws (meaning_of w.plan) g.D.Driver.drive setting g.D.Driver.needs g.D.Driver.least driving means (c.meanings_are_framed.ensures w.plan) lawful in
    let holds = rw (← c.self.view_is) at c.requires in
    let h = c.args.held in
    let x = ctl_in h in
    let P = meaning_of w.plan in
    let here = holds.holding facts.world facts.kept.run in
    let open_run = sym facts.kept.verdict ∙ here.held.goes_on in
    let st : State _ = record { now = w.state.now; places = c.put_back.new.places; driver = w.state.driver; issued = w.state.issued; next = w.state.next; verdict = w.state.verdict; book = c.note.new.self } in
    let same : SameCycle w.state st = record { now = refl; driver = refl; issued = refl; next = refl; verdict = refl } in
    let writes : Writes w.state st (event.Release c.args.worker h.controller) None = record { history = c.note.ensures.history; journal = c.note.ensures.journal ∙ sym (append-nil w.state.book.journal) } in
    let back = rw c.into_kept.ensures at c.put_back.ensures in
    let keeps : KeepsRoom 0 0 0 w.state.book.entry_room st.book.entry_room = rw c.note.ensures.entry_room (record { entries_left = omega arith; numbers_left = omega arith; sents_left = omega arith }) in
    let kept = release-kept P g.D.Driver.drive setting law facts.world w.waiting.items w.state facts.kept open_run c.args.worker h.controller x here.held (kept_in h) st back refl holds.made same writes c.note.ensures.room keeps in
    in-world g.D.Driver.drive (view_of g.D.Driver.opening w.plan w.topology w.limits st) _ kept.run (λ u. u.verdict ≡ None) here.held.goes_on
