use Rattle.std.proofs.Common.{◌≡◌, ◌++◌, [], ◌∷◌, ◌∙◌, ℕ, None, Some, refl, sym, ap, subst, arith}
use Rattle.run_journal.specs.declared.event.Event.TheVariants as event
use Rattle.ctl_store.specs.Prelude.{ctl_of}
use Rattle.protocol_runs.specs.Prelude.{rules}
use Rattle.protocol_runs.proofs.Driver.{IsDriver}
use Rattle.protocol_meaning.specs.Prelude.{meaning_of, setting_of}
use Rattle.world_state.specs.declared.state.State.{State}
use Rattle.ruby_world.specs.Prelude.{view_of}
use Rattle.ruby_world.proofs.Keeping.{laws}
use Rattle.world_state.specs.Prelude.{IsEndedAt, SameCycle, Writes}
use Rattle.ruby_world.specs.Prelude.{ctl_in, kept_in}
use Rattle.ruby_world.proofs.ReadOff.{in-world}
use Rattle.ruby_world.proofs.Stays.{made-stays, next-data}
use Rattle.run_journal.specs.declared.entry.Entry.TheVariants as entry
use Rattle.protocol_runs.specs.Prelude.{Ends}
use Rattle.world_state.specs.declared.place.Kept.{Kept}
use Rattle.world_state.specs.Prelude.{ended}
use Rattle.ruby_world.proofs.Steps.{entry-back, finish-kept, held-within, room-back}
use Rattle.ruby_world.proofs.world.World.finish.Goals as goal

pub end_store-requires-clause-now : goal.end_store-requires-clause-now
end_store-requires-clause-now g c =
    let w = c.self.inside in
    let facts = c.self.invariant in
    let driver = g.met.D.Driver g.world.𝓛 g.world.𝓜 g.world.𝓡 ((λ s x. x), (λ x. x), (λ x. x), λ x. x) in
    let driving : IsDriver g.D.Driver.drive g.D.Driver.needs g.D.Driver.least = record { lawful = driver.lawful; lasting = λ d seats now. (driver.lasting d seats now).0 } in
    let begun = g.D.Driver.opening w.state.driver in
    let setting = setting_of w.plan w.topology w.limits.seed w.limits.cycles w.limits.limit begun in
    let means = c.meanings_are_lawful.ensures w.plan in
    let lawful = c.settings_are_lawful.ensures.enough w.plan w.topology w.limits.seed w.limits.cycles w.limits.limit begun facts.fits facts.cycles facts.enough in
    let law = laws (meaning_of w.plan) g.D.Driver.drive setting g.D.Driver.needs g.D.Driver.least driving means (c.meanings_are_framed.ensures w.plan) lawful in
    let holds = rw (← c.self.view_is) at c.requires.holds in
    let h = c.args.held in
    let x = ctl_in h in
    let P = meaning_of w.plan in
    let here = holds.holding facts.world facts.kept.run in
    let open_run = sym facts.kept.verdict ∙ here.held.goes_on in
    omega (arith, here.held.come.fits.bound, facts.cycles, facts.kept.now)

pub end_at-requires : goal.end_at-requires
end_at-requires g c =
    let w = c.self.inside in
    let facts = c.self.invariant in
    let driver = g.met.D.Driver g.world.𝓛 g.world.𝓜 g.world.𝓡 ((λ s x. x), (λ x. x), (λ x. x), λ x. x) in
    let driving : IsDriver g.D.Driver.drive g.D.Driver.needs g.D.Driver.least = record { lawful = driver.lawful; lasting = λ d seats now. (driver.lasting d seats now).0 } in
    let begun = g.D.Driver.opening w.state.driver in
    let setting = setting_of w.plan w.topology w.limits.seed w.limits.cycles w.limits.limit begun in
    let means = c.meanings_are_lawful.ensures w.plan in
    let lawful = c.settings_are_lawful.ensures.enough w.plan w.topology w.limits.seed w.limits.cycles w.limits.limit begun facts.fits facts.cycles facts.enough in
    let law = laws (meaning_of w.plan) g.D.Driver.drive setting g.D.Driver.needs g.D.Driver.least driving means (c.meanings_are_framed.ensures w.plan) lawful in
    let holds = rw (← c.self.view_is) at c.requires.holds in
    let h = c.args.held in
    let x = ctl_in h in
    let P = meaning_of w.plan in
    let here = holds.holding facts.world facts.kept.run in
    let open_run = sym facts.kept.verdict ∙ here.held.goes_on in
    held-within P g.D.Driver.drive setting law facts.world w.waiting.items w.state facts.kept open_run c.args.worker h.controller x here.held

pub write_end-requires-clause-event : goal.write_end-requires-clause-event
write_end-requires-clause-event g c =
    let w = c.self.inside in
    let facts = c.self.invariant in
    let driver = g.met.D.Driver g.world.𝓛 g.world.𝓜 g.world.𝓡 ((λ s x. x), (λ x. x), (λ x. x), λ x. x) in
    let driving : IsDriver g.D.Driver.drive g.D.Driver.needs g.D.Driver.least = record { lawful = driver.lawful; lasting = λ d seats now. (driver.lasting d seats now).0 } in
    let begun = g.D.Driver.opening w.state.driver in
    let setting = setting_of w.plan w.topology w.limits.seed w.limits.cycles w.limits.limit begun in
    let means = c.meanings_are_lawful.ensures w.plan in
    let lawful = c.settings_are_lawful.ensures.enough w.plan w.topology w.limits.seed w.limits.cycles w.limits.limit begun facts.fits facts.cycles facts.enough in
    let law = laws (meaning_of w.plan) g.D.Driver.drive setting g.D.Driver.needs g.D.Driver.least driving means (c.meanings_are_framed.ensures w.plan) lawful in
    let holds = rw (← c.self.view_is) at c.requires.holds in
    let h = c.args.held in
    let x = ctl_in h in
    let P = meaning_of w.plan in
    let here = holds.holding facts.world facts.kept.run in
    let open_run = sym facts.kept.verdict ∙ here.held.goes_on in
    room-back P g.D.Driver.drive setting law facts.world w.waiting.items w.state facts.kept open_run c.args.worker h.controller x here.held

pub write_end-requires-clause-entry : goal.write_end-requires-clause-entry
write_end-requires-clause-entry g c =
    let w = c.self.inside in
    let facts = c.self.invariant in
    let driver = g.met.D.Driver g.world.𝓛 g.world.𝓜 g.world.𝓡 ((λ s x. x), (λ x. x), (λ x. x), λ x. x) in
    let driving : IsDriver g.D.Driver.drive g.D.Driver.needs g.D.Driver.least = record { lawful = driver.lawful; lasting = λ d seats now. (driver.lasting d seats now).0 } in
    let begun = g.D.Driver.opening w.state.driver in
    let setting = setting_of w.plan w.topology w.limits.seed w.limits.cycles w.limits.limit begun in
    let means = c.meanings_are_lawful.ensures w.plan in
    let lawful = c.settings_are_lawful.ensures.enough w.plan w.topology w.limits.seed w.limits.cycles w.limits.limit begun facts.fits facts.cycles facts.enough in
    let law = laws (meaning_of w.plan) g.D.Driver.drive setting g.D.Driver.needs g.D.Driver.least driving means (c.meanings_are_framed.ensures w.plan) lawful in
    let holds = rw (← c.self.view_is) at c.requires.holds in
    let h = c.args.held in
    let x = ctl_in h in
    let P = meaning_of w.plan in
    let here = holds.holding facts.world facts.kept.run in
    let open_run = sym facts.kept.verdict ∙ here.held.goes_on in
    entry-back P g.D.Driver.drive setting law facts.world w.waiting.items w.state facts.kept open_run c.args.worker h.controller x here.held

pub invariant_of-self : goal.invariant_of-self
invariant_of-self g c =
    let w = c.self.inside in
    let facts = c.self.invariant in
    let driver = g.met.D.Driver g.world.𝓛 g.world.𝓜 g.world.𝓡 ((λ s x. x), (λ x. x), (λ x. x), λ x. x) in
    let driving : IsDriver g.D.Driver.drive g.D.Driver.needs g.D.Driver.least = record { lawful = driver.lawful; lasting = λ d seats now. (driver.lasting d seats now).0 } in
    let begun = g.D.Driver.opening w.state.driver in
    let setting = setting_of w.plan w.topology w.limits.seed w.limits.cycles w.limits.limit begun in
    let means = c.meanings_are_lawful.ensures w.plan in
    let lawful = c.settings_are_lawful.ensures.enough w.plan w.topology w.limits.seed w.limits.cycles w.limits.limit begun facts.fits facts.cycles facts.enough in
    let law = laws (meaning_of w.plan) g.D.Driver.drive setting g.D.Driver.needs g.D.Driver.least driving means (c.meanings_are_framed.ensures w.plan) lawful in
    let holds = rw (← c.self.view_is) at c.requires.holds in
    let h = c.args.held in
    let x = ctl_in h in
    let P = meaning_of w.plan in
    let here = holds.holding facts.world facts.kept.run in
    let open_run = sym facts.kept.verdict ∙ here.held.goes_on in
    let is_end = rw (← c.self.view_is) at c.requires.ended in
    let st : State _ = record { now = w.state.now; places = c.end_at.new.places; driver = w.state.driver; issued = w.state.issued; next = w.state.next; verdict = w.state.verdict; book = c.write_end.new.self } in
    let same : SameCycle w.state st = record { now = refl; driver = refl; issued = refl; next = refl; verdict = refl } in
    let writes : Writes w.state st (event.Done c.args.worker h.controller) (Some (entry.Ended facts.world.now h.controller c.args.end)) = record {
      history = c.write_end.ensures.history;
      journal = c.write_end.ensures.journal ∙ ap (λ (n : ℕ). w.state.book.journal ++ entry.Ended n h.controller c.args.end ∷ []) (sym facts.kept.now);
    } in
    let after = ended h.stalled h.cycle x c.args.end in
    let home : Kept = kept_in h in
    let given : Kept = record { store = c.end_store.new.store; routes = h.routes } in
    let ended_ctl : ctl_of given.store ≡ after =
    rw c.into_kept-kept.ensures at c.end_store.ensures.ctl ∙ ap (λ (n : ℕ). ended h.stalled n x c.args.end) (sym facts.kept.now ∙ sym here.cycle) in
    let back : IsEndedAt h.controller home after w.state.places.items st.places.items = record {
      given = given;
      ctl_is = ended_ctl;
      made = made-stays h.routes h.store given.store (rw c.into_kept-kept.ensures at c.end_store.ensures.store);
      is = rw c.into_kept-kept.ensures at c.end_at.ensures;
    } in
    let ends = subst (λ (n : ℕ). Ends (rules P g.D.Driver.drive setting) h.controller n x after c.args.end) here.cycle is_end in
    next-data g.D.Driver.least g.D.Driver.drive g.D.Driver.opening w.plan w.topology w.limits w.seats.items w.waiting.items w.waiting.items w.state st facts refl _
    (finish-kept P g.D.Driver.drive setting law facts.world w.waiting.items w.state facts.kept open_run c.args.worker h.controller x here.held home after c.args.end ends st back holds.made same writes c.write_end.ensures.room c.write_end.ensures.entry_room)

pub returns-clause-journal : goal.returns-clause-journal
returns-clause-journal g c =
    let w = c.self.inside in
    let facts = c.self.invariant in
    let driver = g.met.D.Driver g.world.𝓛 g.world.𝓜 g.world.𝓡 ((λ s x. x), (λ x. x), (λ x. x), λ x. x) in
    let driving : IsDriver g.D.Driver.drive g.D.Driver.needs g.D.Driver.least = record { lawful = driver.lawful; lasting = λ d seats now. (driver.lasting d seats now).0 } in
    let begun = g.D.Driver.opening w.state.driver in
    let setting = setting_of w.plan w.topology w.limits.seed w.limits.cycles w.limits.limit begun in
    let means = c.meanings_are_lawful.ensures w.plan in
    let lawful = c.settings_are_lawful.ensures.enough w.plan w.topology w.limits.seed w.limits.cycles w.limits.limit begun facts.fits facts.cycles facts.enough in
    let law = laws (meaning_of w.plan) g.D.Driver.drive setting g.D.Driver.needs g.D.Driver.least driving means (c.meanings_are_framed.ensures w.plan) lawful in
    let holds = rw (← c.self.view_is) at c.requires.holds in
    let h = c.args.held in
    let x = ctl_in h in
    let P = meaning_of w.plan in
    let here = holds.holding facts.world facts.kept.run in
    let j = c.write_end.ensures.journal ∙ ap (λ (n : ℕ). w.state.book.journal ++ entry.Ended n h.controller c.args.end ∷ []) (sym facts.kept.now ∙ sym here.cycle) in
    rw (← c.self.view_is) j

pub returns-clause-goes_on : goal.returns-clause-goes_on
returns-clause-goes_on g c =
    let w = c.self.inside in
    let facts = c.self.invariant in
    let driver = g.met.D.Driver g.world.𝓛 g.world.𝓜 g.world.𝓡 ((λ s x. x), (λ x. x), (λ x. x), λ x. x) in
    let driving : IsDriver g.D.Driver.drive g.D.Driver.needs g.D.Driver.least = record { lawful = driver.lawful; lasting = λ d seats now. (driver.lasting d seats now).0 } in
    let begun = g.D.Driver.opening w.state.driver in
    let setting = setting_of w.plan w.topology w.limits.seed w.limits.cycles w.limits.limit begun in
    let means = c.meanings_are_lawful.ensures w.plan in
    let lawful = c.settings_are_lawful.ensures.enough w.plan w.topology w.limits.seed w.limits.cycles w.limits.limit begun facts.fits facts.cycles facts.enough in
    let law = laws (meaning_of w.plan) g.D.Driver.drive setting g.D.Driver.needs g.D.Driver.least driving means (c.meanings_are_framed.ensures w.plan) lawful in
    let holds = rw (← c.self.view_is) at c.requires.holds in
    let h = c.args.held in
    let x = ctl_in h in
    let P = meaning_of w.plan in
    let here = holds.holding facts.world facts.kept.run in
    let open_run = sym facts.kept.verdict ∙ here.held.goes_on in
    let is_end = rw (← c.self.view_is) at c.requires.ended in
    let st : State _ = record { now = w.state.now; places = c.end_at.new.places; driver = w.state.driver; issued = w.state.issued; next = w.state.next; verdict = w.state.verdict; book = c.write_end.new.self } in
    let same : SameCycle w.state st = record { now = refl; driver = refl; issued = refl; next = refl; verdict = refl } in
    let writes : Writes w.state st (event.Done c.args.worker h.controller) (Some (entry.Ended facts.world.now h.controller c.args.end)) = record {
      history = c.write_end.ensures.history;
      journal = c.write_end.ensures.journal ∙ ap (λ (n : ℕ). w.state.book.journal ++ entry.Ended n h.controller c.args.end ∷ []) (sym facts.kept.now);
    } in
    let after = ended h.stalled h.cycle x c.args.end in
    let home : Kept = kept_in h in
    let given : Kept = record { store = c.end_store.new.store; routes = h.routes } in
    let ended_ctl : ctl_of given.store ≡ after =
    rw c.into_kept-kept.ensures at c.end_store.ensures.ctl ∙ ap (λ (n : ℕ). ended h.stalled n x c.args.end) (sym facts.kept.now ∙ sym here.cycle) in
    let back : IsEndedAt h.controller home after w.state.places.items st.places.items = record {
      given = given;
      ctl_is = ended_ctl;
      made = made-stays h.routes h.store given.store (rw c.into_kept-kept.ensures at c.end_store.ensures.store);
      is = rw c.into_kept-kept.ensures at c.end_at.ensures;
    } in
    let ends = subst (λ (n : ℕ). Ends (rules P g.D.Driver.drive setting) h.controller n x after c.args.end) here.cycle is_end in
    let kept = finish-kept P g.D.Driver.drive setting law facts.world w.waiting.items w.state facts.kept open_run c.args.worker h.controller x here.held home after c.args.end ends st back holds.made same writes c.write_end.ensures.room c.write_end.ensures.entry_room in
    in-world g.D.Driver.drive (view_of g.D.Driver.opening w.plan w.topology w.limits st) _ kept.run (λ u. u.verdict ≡ None) here.held.goes_on
