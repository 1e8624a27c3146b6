use Rattle.std.proofs.Common.{◌≡◌, ◌≤◌, ◌++◌, [], ◌∷◌, ◌∙◌, ℕ, List, Some, length, refl, sym, ap, subst, slice_get, arith}
use Rattle.run_journal.specs.declared.event.Event.{Event}
use Rattle.run_journal.specs.declared.event.Event.TheVariants as event
use Rattle.run_journal.specs.declared.entry.Entry.{Entry}
use Rattle.ctl_face.specs.declared.parcel.Parcel.{Parcel}
use Rattle.ctl_face.specs.Prelude.{Ctl}
use Rattle.ctl_store.specs.Prelude.{ctl_of}
use Rattle.protocol_runs.specs.Prelude.{rules}
use Rattle.protocol_runs.proofs.Driver.{IsDriver}
use Rattle.protocol_meaning.specs.Prelude.{meaning_of, setting_of}
use Rattle.world_state.specs.declared.state.State.{State}
use Rattle.world_state.specs.Prelude.{waiting_at}
use Rattle.ruby_world.specs.Prelude.{view_of}
use Rattle.ruby_world.proofs.Keeping.{laws}
use Rattle.run_journal.specs.Prelude.{HasRoomFor, fired_of}
use Rattle.run_journal.specs.declared.entry.FireNote.{FireNote}
use Rattle.world_state.specs.Prelude.{IsMadeFor, Made, SameCycle, Writes, made_for}
use Rattle.ruby_world.specs.declared.world.Held.{Held}
use Rattle.ruby_world.specs.Prelude.{Holds, ctl_in, kept_in}
use Rattle.ruby_world.proofs.Stays.{holds-by, holds-same, made-stays, next-data, same-view}
use Rattle.ruby_world.proofs.Taking.{ctl-now, held-now}
use Rattle.run_journal.specs.declared.entry.Entry.TheVariants as entry
use Rattle.ruby_value.specs.declared.message.Delivery.{Delivery}
use Rattle.ruby_value.specs.declared.message.MsgNo.{MsgNo}
use Rattle.ruby_value.specs.declared.message.Sent.{Sent}
use Rattle.ctl_face.specs.Prelude.{with_one_fired}
use Rattle.ctl_store.specs.Prelude.{IsSameStore, note_of, outcome_acts, outcome_ctl}
use Rattle.protocol_runs.specs.Prelude.{Fired, acts_told, fired_entry, messages_for}
use Rattle.ruby_world.specs.Prelude.{IsSameHeld, WorldView}
use Rattle.ruby_world.proofs.Facts.{few-controllers}
use Rattle.ruby_world.proofs.Keeping.{at-same}
use Rattle.ruby_world.proofs.Steps.{fire-few, fire-kept, fire-law, receivers-there, same-kept}
use Rattle.ruby_world.proofs.world.World.fire.Goals as goal

pub room_to_fire-requires-clause-few : goal.room_to_fire-requires-clause-few
room_to_fire-requires-clause-few g c =
    let w = c.self.inside in
    let facts = c.self.invariant in
    let driver = g.met.D.Driver g.world.𝓛 g.world.𝓜 g.world.𝓡 ((λ s x. x), (λ x. x), (λ x. x), λ x. x) in
    let driving : IsDriver g.D.Driver.drive g.D.Driver.needs g.D.Driver.least = record { lawful = driver.lawful; lasting = λ d seats now. (driver.lasting d seats now).0 } in
    let begun = g.D.Driver.opening w.state.driver in
    let setting = setting_of w.plan w.topology w.limits.seed w.limits.cycles w.limits.limit begun in
    let means = c.meanings_are_lawful.ensures w.plan in
    let lawful = c.settings_are_lawful.ensures.enough w.plan w.topology w.limits.seed w.limits.cycles w.limits.limit begun facts.fits facts.cycles facts.enough in
    let law = laws (meaning_of w.plan) g.D.Driver.drive setting g.D.Driver.needs g.D.Driver.least driving means (c.meanings_are_framed.ensures w.plan) lawful in
    let few = few-controllers g.D.Driver.least g.D.Driver.drive g.D.Driver.opening w.plan w.topology w.limits w.seats.items w.waiting.items w.state facts law in
    omega (arith, few, c.len-controllers.ensures)

pub room_to_fire-requires-clause-there : goal.room_to_fire-requires-clause-there
room_to_fire-requires-clause-there g c =
    let w = c.self.inside in
    let facts = c.self.invariant in
    let driver = g.met.D.Driver g.world.𝓛 g.world.𝓜 g.world.𝓡 ((λ s x. x), (λ x. x), (λ x. x), λ x. x) in
    let driving : IsDriver g.D.Driver.drive g.D.Driver.needs g.D.Driver.least = record { lawful = driver.lawful; lasting = λ d seats now. (driver.lasting d seats now).0 } in
    let begun = g.D.Driver.opening w.state.driver in
    let setting = setting_of w.plan w.topology w.limits.seed w.limits.cycles w.limits.limit begun in
    let means = c.meanings_are_lawful.ensures w.plan in
    let lawful = c.settings_are_lawful.ensures.enough w.plan w.topology w.limits.seed w.limits.cycles w.limits.limit begun facts.fits facts.cycles facts.enough in
    let law = laws (meaning_of w.plan) g.D.Driver.drive setting g.D.Driver.needs g.D.Driver.least driving means (c.meanings_are_framed.ensures w.plan) lawful in
    let holds = rw (← c.self.view_is) at c.requires.holds in
    let is_fired = rw (← c.self.view_is) at c.requires.fired in
    let h = c.args.held.now in
    let x = ctl_in h in
    let P = meaning_of w.plan in
    let here = holds.holding facts.world facts.kept.run in
    let open_run = sym facts.kept.verdict ∙ here.held.goes_on in
    let note = note_of c.args.o in
    let told = acts_told (outcome_acts c.args.o) in
    let copies = (outcome_acts c.args.o).posted in
    let after = outcome_ctl c.args.o x in
    let scanned = subst (λ (n : ℕ). ((rules P g.D.Driver.drive setting).scan h.controller x n).outcome ≡ Fired note told copies after) here.cycle is_fired.scanned in
    receivers-there P g.D.Driver.drive setting law facts.world w.waiting.items w.state facts.kept open_run c.args.worker h.controller x here.held note told copies after scanned

pub invariant_of-self : goal.invariant_of-self
invariant_of-self g c =
    let w = c.self.inside in
    let facts = c.self.invariant in
    let driver = g.met.D.Driver g.world.𝓛 g.world.𝓜 g.world.𝓡 ((λ s x. x), (λ x. x), (λ x. x), λ x. x) in
    let driving : IsDriver g.D.Driver.drive g.D.Driver.needs g.D.Driver.least = record { lawful = driver.lawful; lasting = λ d seats now. (driver.lasting d seats now).0 } in
    let begun = g.D.Driver.opening w.state.driver in
    let setting = setting_of w.plan w.topology w.limits.seed w.limits.cycles w.limits.limit begun in
    let means = c.meanings_are_lawful.ensures w.plan in
    let lawful = c.settings_are_lawful.ensures.enough w.plan w.topology w.limits.seed w.limits.cycles w.limits.limit begun facts.fits facts.cycles facts.enough in
    let law = laws (meaning_of w.plan) g.D.Driver.drive setting g.D.Driver.needs g.D.Driver.least driving means (c.meanings_are_framed.ensures w.plan) lawful in
    let st : State _ = record { now = w.state.now; places = w.state.places; driver = w.state.driver; issued = w.state.issued; next = w.state.next; verdict = w.state.verdict; book = c.room_to_fire.new.book } in
    let e = c.room_to_fire.ensures in
    next-data g.D.Driver.least g.D.Driver.drive g.D.Driver.opening w.plan w.topology w.limits w.seats.items w.waiting.items c.room_to_fire.new.waiting.items w.state st facts refl facts.world
    (same-kept (meaning_of w.plan) g.D.Driver.drive setting law facts.world w.waiting.items w.state facts.kept c.room_to_fire.new.waiting.items st (record { now = refl; driver = refl; issued = refl; next = refl; verdict = refl }) e.history e.journal refl
    (e.count ∙ facts.kept.count) e.no_less e.no_fewer
    (λ k.
    at-same (meaning_of w.plan) g.D.Driver.drive setting k facts.world.now (waiting_at w.waiting.items k) (waiting_at c.room_to_fire.new.waiting.items k) (slice_get w.state.places.items k)
    (slice_get w.state.places.items k) (slice_get facts.world.places k) (slice_get facts.world.places k) (e.same k) refl refl (facts.kept.at k))
    (λ k worker place there is. e.same k ∙ facts.kept.since k worker place there is)
    (λ some k. e.same k ∙ facts.kept.settled some k))

pub returns-in-Err-clause-holds : goal.returns-in-Err-clause-holds
returns-in-Err-clause-holds g c =
    let w = c.self.inside in
    let facts = c.self.invariant in
    let driver = g.met.D.Driver g.world.𝓛 g.world.𝓜 g.world.𝓡 ((λ s x. x), (λ x. x), (λ x. x), λ x. x) in
    let driving : IsDriver g.D.Driver.drive g.D.Driver.needs g.D.Driver.least = record { lawful = driver.lawful; lasting = λ d seats now. (driver.lasting d seats now).0 } in
    let begun = g.D.Driver.opening w.state.driver in
    let setting = setting_of w.plan w.topology w.limits.seed w.limits.cycles w.limits.limit begun in
    let means = c.meanings_are_lawful.ensures w.plan in
    let lawful = c.settings_are_lawful.ensures.enough w.plan w.topology w.limits.seed w.limits.cycles w.limits.limit begun facts.fits facts.cycles facts.enough in
    let law = laws (meaning_of w.plan) g.D.Driver.drive setting g.D.Driver.needs g.D.Driver.least driving means (c.meanings_are_framed.ensures w.plan) lawful in
    let holds = rw (← c.self.view_is) at c.requires.holds in
    let h = c.args.held.now in
    let e = c.room_to_fire.ensures in
    let st : State _ = record { now = w.state.now; places = w.state.places; driver = w.state.driver; issued = w.state.issued; next = w.state.next; verdict = w.state.verdict; book = c.room_to_fire.new.book } in
    let then : Held = record {
      controller = h.controller;
      machine = h.machine;
      cycle = h.cycle;
      seed = h.seed;
      limit = h.limit;
      fired = h.fired;
      stalled = h.stalled;
      store = c.room_to_fire.new.store;
      routes = h.routes;
    } in
    let same_held : IsSameHeld h then = record {
      controller = refl;
      machine = refl;
      cycle = refl;
      seed = refl;
      limit = refl;
      fired = refl;
      stalled = refl;
      ctl = e.ctl;
      store = e.store;
      mark = e.mark;
      routes = refl;
    } in
    subst (λ (v : WorldView _). Holds g.D.Driver.drive v c.args.worker then)
    (sym (same-view g.D.Driver.least g.D.Driver.drive g.D.Driver.opening w.plan w.topology w.limits w.seats.items w.state st refl e.history e.journal))
    (holds-same g.D.Driver.drive (view_of g.D.Driver.opening w.plan w.topology w.limits w.state) c.args.worker h then same_held holds)

pub apply-posted-requires-clause-few : goal.apply-posted-requires-clause-few
apply-posted-requires-clause-few g c =
    let w = c.self.inside in
    let facts = c.self.invariant in
    let driver = g.met.D.Driver g.world.𝓛 g.world.𝓜 g.world.𝓡 ((λ s x. x), (λ x. x), (λ x. x), λ x. x) in
    let driving : IsDriver g.D.Driver.drive g.D.Driver.needs g.D.Driver.least = record { lawful = driver.lawful; lasting = λ d seats now. (driver.lasting d seats now).0 } in
    let begun = g.D.Driver.opening w.state.driver in
    let setting = setting_of w.plan w.topology w.limits.seed w.limits.cycles w.limits.limit begun in
    let means = c.meanings_are_lawful.ensures w.plan in
    let lawful = c.settings_are_lawful.ensures.enough w.plan w.topology w.limits.seed w.limits.cycles w.limits.limit begun facts.fits facts.cycles facts.enough in
    let law = laws (meaning_of w.plan) g.D.Driver.drive setting g.D.Driver.needs g.D.Driver.least driving means (c.meanings_are_framed.ensures w.plan) lawful in
    let holds = rw (← c.self.view_is) at c.requires.holds in
    let is_fired = rw (← c.self.view_is) at c.requires.fired in
    let h = c.args.held.now in
    let x = ctl_in h in
    let P = meaning_of w.plan in
    let here = holds.holding facts.world facts.kept.run in
    let open_run = sym facts.kept.verdict ∙ here.held.goes_on in
    let note = note_of c.args.o in
    let told = acts_told (outcome_acts c.args.o) in
    let copies = (outcome_acts c.args.o).posted in
    let after = outcome_ctl c.args.o x in
    let scanned = subst (λ (n : ℕ). ((rules P g.D.Driver.drive setting).scan h.controller x n).outcome ≡ Fired note told copies after) here.cycle is_fired.scanned in
    let few = fire-few P g.D.Driver.drive setting law facts.world w.waiting.items w.state facts.kept open_run c.args.worker h.controller x here.held note told copies after scanned in
    let same_ctl = ap (λ (y : Ctl). y.fired) c.room_to_fire.ensures.ctl in
    omega (arith, few, same_ctl, holds.limit)

pub invariant_of-self-2 : goal.invariant_of-self-2
invariant_of-self-2 g c =
    let w = c.self.inside in
    let facts = c.self.invariant in
    let driver = g.met.D.Driver g.world.𝓛 g.world.𝓜 g.world.𝓡 ((λ s x. x), (λ x. x), (λ x. x), λ x. x) in
    let driving : IsDriver g.D.Driver.drive g.D.Driver.needs g.D.Driver.least = record { lawful = driver.lawful; lasting = λ d seats now. (driver.lasting d seats now).0 } in
    let begun = g.D.Driver.opening w.state.driver in
    let setting = setting_of w.plan w.topology w.limits.seed w.limits.cycles w.limits.limit begun in
    let means = c.meanings_are_lawful.ensures w.plan in
    let lawful = c.settings_are_lawful.ensures.enough w.plan w.topology w.limits.seed w.limits.cycles w.limits.limit begun facts.fits facts.cycles facts.enough in
    let law = laws (meaning_of w.plan) g.D.Driver.drive setting g.D.Driver.needs g.D.Driver.least driving means (c.meanings_are_framed.ensures w.plan) lawful in
    let holds = rw (← c.self.view_is) at c.requires.holds in
    let is_fired = rw (← c.self.view_is) at c.requires.fired in
    let h = c.args.held.now in
    let x = ctl_in h in
    let P = meaning_of w.plan in
    let here = holds.holding facts.world facts.kept.run in
    let open_run = sym facts.kept.verdict ∙ here.held.goes_on in
    let note = note_of c.args.o in
    let told = acts_told (outcome_acts c.args.o) in
    let copies = (outcome_acts c.args.o).posted in
    let after = outcome_ctl c.args.o x in
    let scanned = subst (λ (n : ℕ). ((rules P g.D.Driver.drive setting).scan h.controller x n).outcome ≡ Fired note told copies after) here.cycle is_fired.scanned in
    let e = c.room_to_fire.ensures in
    let ok = c.in_default.ensures in
    let new : State _ = record { now = w.state.now; places = w.state.places; driver = w.state.driver; issued = w.state.issued; next = w.state.next; verdict = w.state.verdict; book = c.write_fire.new.self } in
    let rest = c.post.new.waiting.items in
    let same : SameCycle w.state new = record { now = refl; driver = refl; issued = refl; next = refl; verdict = refl } in
    let list = c.lists_of.ensures in
    let F : (a b d f : List MsgNo) → List Sent → Entry = λ a b d f s. entry.Fired w.state.now h.controller note a s b d f in
    let told_so =
    ap (λ (n : FireNote). fired_of w.state.now h.controller n c.lists_of.result) c.note.ensures
    ∙ ap (λ (l : List MsgNo). F l c.lists_of.result.stalled.now c.lists_of.result.woken.now c.lists_of.result.recycled.now c.lists_of.result.sent.now) list.consumed
    ∙ ap (λ (l : List Sent). F told.consumed c.lists_of.result.stalled.now c.lists_of.result.woken.now c.lists_of.result.recycled.now l) list.sent
    ∙ ap (λ (l : List MsgNo). F told.consumed l c.lists_of.result.woken.now c.lists_of.result.recycled.now told.sent) list.stalled
    ∙ ap (λ (l : List MsgNo). F told.consumed told.stalled l c.lists_of.result.recycled.now told.sent) list.woken
    ∙ ap (λ (l : List MsgNo). F told.consumed told.stalled told.woken l told.sent) list.recycled
    ∙ ap (λ (n : ℕ). fired_entry n h.controller note told) (sym facts.kept.now) in
    let writes : Writes w.state new (event.Fire c.args.worker h.controller) (Some (fired_entry facts.world.now h.controller note told)) = record {
      history = c.write_fire.ensures.history ∙ ap (λ (l : List Event). l ++ event.Fire c.args.worker h.controller ∷ []) e.history;
      journal = c.write_fire.ensures.journal ∙ ap (λ (x : Entry). c.room_to_fire.new.book.journal ++ x ∷ []) told_so ∙ ap (λ (l : List Entry). l ++ fired_entry facts.world.now h.controller note told ∷ []) e.journal;
    } in
    let more : (d : ℕ) → waiting_at rest d ≡ waiting_at w.waiting.items d ++ messages_for d copies =
    λ d.
    c.post.ensures.after d ∙ ap (λ (ps : List Parcel). ps ++ messages_for d c.apply-posted.result) (e.same d)
    ∙ ap (λ (ds : List (Delivery Parcel)). waiting_at w.waiting.items d ++ messages_for d ds) c.apply-posted.ensures.posted in
    let room : length w.state.places.items ≤ new.book.event_room = omega (arith, ok.events, c.write_fire.ensures.room, c.len-controllers.ensures) in
    let left = c.write_fire.ensures.entry_room in
    let entry_room : HasRoomFor (length w.state.places.items) 0 0 new.book.entry_room =
    record { entries_fit = omega (arith, ok.entry.entries_fit, left.entries_left, c.len-controllers.ensures); numbers_fit = omega arith; sents_fit = omega arith } in
    next-data g.D.Driver.least g.D.Driver.drive g.D.Driver.opening w.plan w.topology w.limits w.seats.items w.waiting.items rest w.state new facts refl _
    (fire-kept P g.D.Driver.drive setting law facts.world w.waiting.items w.state facts.kept open_run c.args.worker h.controller x here.held note told copies after scanned rest new more (c.post.ensures.count ∙ e.count) refl same writes room entry_room)

pub returns-clause-journal : goal.returns-clause-journal
returns-clause-journal g c =
    let w = c.self.inside in
    let facts = c.self.invariant in
    let driver = g.met.D.Driver g.world.𝓛 g.world.𝓜 g.world.𝓡 ((λ s x. x), (λ x. x), (λ x. x), λ x. x) in
    let driving : IsDriver g.D.Driver.drive g.D.Driver.needs g.D.Driver.least = record { lawful = driver.lawful; lasting = λ d seats now. (driver.lasting d seats now).0 } in
    let begun = g.D.Driver.opening w.state.driver in
    let setting = setting_of w.plan w.topology w.limits.seed w.limits.cycles w.limits.limit begun in
    let means = c.meanings_are_lawful.ensures w.plan in
    let lawful = c.settings_are_lawful.ensures.enough w.plan w.topology w.limits.seed w.limits.cycles w.limits.limit begun facts.fits facts.cycles facts.enough in
    let law = laws (meaning_of w.plan) g.D.Driver.drive setting g.D.Driver.needs g.D.Driver.least driving means (c.meanings_are_framed.ensures w.plan) lawful in
    let holds = rw (← c.self.view_is) at c.requires.holds in
    let is_fired = rw (← c.self.view_is) at c.requires.fired in
    let h = c.args.held.now in
    let x = ctl_in h in
    let P = meaning_of w.plan in
    let here = holds.holding facts.world facts.kept.run in
    let open_run = sym facts.kept.verdict ∙ here.held.goes_on in
    let note = note_of c.args.o in
    let told = acts_told (outcome_acts c.args.o) in
    let copies = (outcome_acts c.args.o).posted in
    let after = outcome_ctl c.args.o x in
    let scanned = subst (λ (n : ℕ). ((rules P g.D.Driver.drive setting).scan h.controller x n).outcome ≡ Fired note told copies after) here.cycle is_fired.scanned in
    let e = c.room_to_fire.ensures in
    let ok = c.in_default.ensures in
    let new : State _ = record { now = w.state.now; places = w.state.places; driver = w.state.driver; issued = w.state.issued; next = w.state.next; verdict = w.state.verdict; book = c.write_fire.new.self } in
    let rest = c.post.new.waiting.items in
    let same : SameCycle w.state new = record { now = refl; driver = refl; issued = refl; next = refl; verdict = refl } in
    let list = c.lists_of.ensures in
    let F : (a b d f : List MsgNo) → List Sent → Entry = λ a b d f s. entry.Fired w.state.now h.controller note a s b d f in
    let told_so =
    ap (λ (n : FireNote). fired_of w.state.now h.controller n c.lists_of.result) c.note.ensures
    ∙ ap (λ (l : List MsgNo). F l c.lists_of.result.stalled.now c.lists_of.result.woken.now c.lists_of.result.recycled.now c.lists_of.result.sent.now) list.consumed
    ∙ ap (λ (l : List Sent). F told.consumed c.lists_of.result.stalled.now c.lists_of.result.woken.now c.lists_of.result.recycled.now l) list.sent
    ∙ ap (λ (l : List MsgNo). F told.consumed l c.lists_of.result.woken.now c.lists_of.result.recycled.now told.sent) list.stalled
    ∙ ap (λ (l : List MsgNo). F told.consumed told.stalled l c.lists_of.result.recycled.now told.sent) list.woken
    ∙ ap (λ (l : List MsgNo). F told.consumed told.stalled told.woken l told.sent) list.recycled
    ∙ ap (λ (n : ℕ). fired_entry n h.controller note told) (sym facts.kept.now) in
    let writes : Writes w.state new (event.Fire c.args.worker h.controller) (Some (fired_entry facts.world.now h.controller note told)) = record {
      history = c.write_fire.ensures.history ∙ ap (λ (l : List Event). l ++ event.Fire c.args.worker h.controller ∷ []) e.history;
      journal = c.write_fire.ensures.journal ∙ ap (λ (x : Entry). c.room_to_fire.new.book.journal ++ x ∷ []) told_so ∙ ap (λ (l : List Entry). l ++ fired_entry facts.world.now h.controller note told ∷ []) e.journal;
    } in
    rw (← c.self.view_is) (writes.journal ∙ ap (λ (n : ℕ). w.state.book.journal ++ fired_entry n h.controller note told ∷ []) (sym here.cycle))

pub returns-clause-ctl : goal.returns-clause-ctl
returns-clause-ctl g c = c.apply-posted.ensures.after ∙ ap (λ (y : Ctl). with_one_fired (outcome_ctl c.args.o y)) c.room_to_fire.ensures.ctl

pub returns-clause-holds : goal.returns-clause-holds
returns-clause-holds g c =
    let w = c.self.inside in
    let facts = c.self.invariant in
    let driver = g.met.D.Driver g.world.𝓛 g.world.𝓜 g.world.𝓡 ((λ s x. x), (λ x. x), (λ x. x), λ x. x) in
    let driving : IsDriver g.D.Driver.drive g.D.Driver.needs g.D.Driver.least = record { lawful = driver.lawful; lasting = λ d seats now. (driver.lasting d seats now).0 } in
    let begun = g.D.Driver.opening w.state.driver in
    let setting = setting_of w.plan w.topology w.limits.seed w.limits.cycles w.limits.limit begun in
    let means = c.meanings_are_lawful.ensures w.plan in
    let lawful = c.settings_are_lawful.ensures.enough w.plan w.topology w.limits.seed w.limits.cycles w.limits.limit begun facts.fits facts.cycles facts.enough in
    let law = laws (meaning_of w.plan) g.D.Driver.drive setting g.D.Driver.needs g.D.Driver.least driving means (c.meanings_are_framed.ensures w.plan) lawful in
    let holds = rw (← c.self.view_is) at c.requires.holds in
    let is_fired = rw (← c.self.view_is) at c.requires.fired in
    let h = c.args.held.now in
    let x = ctl_in h in
    let P = meaning_of w.plan in
    let here = holds.holding facts.world facts.kept.run in
    let open_run = sym facts.kept.verdict ∙ here.held.goes_on in
    let note = note_of c.args.o in
    let told = acts_told (outcome_acts c.args.o) in
    let copies = (outcome_acts c.args.o).posted in
    let after = outcome_ctl c.args.o x in
    let scanned = subst (λ (n : ℕ). ((rules P g.D.Driver.drive setting).scan h.controller x n).outcome ≡ Fired note told copies after) here.cycle is_fired.scanned in
    let e = c.room_to_fire.ensures in
    let ok = c.in_default.ensures in
    let new : State _ = record { now = w.state.now; places = w.state.places; driver = w.state.driver; issued = w.state.issued; next = w.state.next; verdict = w.state.verdict; book = c.write_fire.new.self } in
    let rest = c.post.new.waiting.items in
    let same : SameCycle w.state new = record { now = refl; driver = refl; issued = refl; next = refl; verdict = refl } in
    let list = c.lists_of.ensures in
    let F : (a b d f : List MsgNo) → List Sent → Entry = λ a b d f s. entry.Fired w.state.now h.controller note a s b d f in
    let told_so =
    ap (λ (n : FireNote). fired_of w.state.now h.controller n c.lists_of.result) c.note.ensures
    ∙ ap (λ (l : List MsgNo). F l c.lists_of.result.stalled.now c.lists_of.result.woken.now c.lists_of.result.recycled.now c.lists_of.result.sent.now) list.consumed
    ∙ ap (λ (l : List Sent). F told.consumed c.lists_of.result.stalled.now c.lists_of.result.woken.now c.lists_of.result.recycled.now l) list.sent
    ∙ ap (λ (l : List MsgNo). F told.consumed l c.lists_of.result.woken.now c.lists_of.result.recycled.now told.sent) list.stalled
    ∙ ap (λ (l : List MsgNo). F told.consumed told.stalled l c.lists_of.result.recycled.now told.sent) list.woken
    ∙ ap (λ (l : List MsgNo). F told.consumed told.stalled told.woken l told.sent) list.recycled
    ∙ ap (λ (n : ℕ). fired_entry n h.controller note told) (sym facts.kept.now) in
    let writes : Writes w.state new (event.Fire c.args.worker h.controller) (Some (fired_entry facts.world.now h.controller note told)) = record {
      history = c.write_fire.ensures.history ∙ ap (λ (l : List Event). l ++ event.Fire c.args.worker h.controller ∷ []) e.history;
      journal = c.write_fire.ensures.journal ∙ ap (λ (x : Entry). c.room_to_fire.new.book.journal ++ x ∷ []) told_so ∙ ap (λ (l : List Entry). l ++ fired_entry facts.world.now h.controller note told ∷ []) e.journal;
    } in
    let more : (d : ℕ) → waiting_at rest d ≡ waiting_at w.waiting.items d ++ messages_for d copies =
    λ d.
    c.post.ensures.after d ∙ ap (λ (ps : List Parcel). ps ++ messages_for d c.apply-posted.result) (e.same d)
    ∙ ap (λ (ds : List (Delivery Parcel)). waiting_at w.waiting.items d ++ messages_for d ds) c.apply-posted.ensures.posted in
    let room : length w.state.places.items ≤ new.book.event_room = omega (arith, ok.events, c.write_fire.ensures.room, c.len-controllers.ensures) in
    let left = c.write_fire.ensures.entry_room in
    let entry_room : HasRoomFor (length w.state.places.items) 0 0 new.book.entry_room =
    record { entries_fit = omega (arith, ok.entry.entries_fit, left.entries_left, c.len-controllers.ensures); numbers_fit = omega arith; sents_fit = omega arith } in
    let kept = fire-kept P g.D.Driver.drive setting law facts.world w.waiting.items w.state facts.kept open_run c.args.worker h.controller x here.held note told copies after scanned rest new more (c.post.ensures.count ∙ e.count) refl same writes room entry_room in
    let by_law = fire-law P g.D.Driver.drive setting law facts.world w.waiting.items w.state facts.kept open_run c.args.worker h.controller x here.held note told copies after scanned in
    let then : Held = record {
      controller = h.controller;
      machine = h.machine;
      cycle = h.cycle;
      seed = h.seed;
      limit = h.limit;
      fired = c.fired-held.result;
      stalled = h.stalled;
      store = c.apply-posted.new.self;
      routes = h.routes;
    } in
    let ctl : ctl_of c.apply-posted.new.self ≡ with_one_fired after =
    c.apply-posted.ensures.after ∙ ap (λ (y : Ctl). with_one_fired (outcome_ctl c.args.o y)) e.ctl in
    let store_same : IsSameStore h.store c.apply-posted.new.self = record {
      machine = c.apply-posted.ensures.store.machine ∙ e.store.machine;
      me = c.apply-posted.ensures.store.me ∙ e.store.me;
    } in
    let made : IsMadeFor setting h.controller (made_for (kept_in then)) =
    subst (λ (m : Made). IsMadeFor setting h.controller m) (sym (made-stays h.routes h.store c.apply-posted.new.self store_same)) holds.made in
    holds-by g.D.Driver.least g.D.Driver.drive g.D.Driver.opening w.plan w.topology w.limits w.seats.items new _ kept.run c.args.worker then
    (held-now P g.D.Driver.drive setting c.args.worker h.controller (ctl_in then) w.state.book.history new.book.history _ (event.Fire c.args.worker h.controller) writes.history
    (ctl-now P g.D.Driver.drive setting c.args.worker h.controller (with_one_fired after) (ctl_in then) ctl (w.state.book.history ++ event.Fire c.args.worker h.controller ∷ []) _ by_law.1))
    here.cycle made holds.machine holds.seed holds.limit c.fired-held.ensures c.apply-posted.ensures.room

pub returns-clause-few : goal.returns-clause-few
returns-clause-few g c =
    let w = c.self.inside in
    let facts = c.self.invariant in
    let driver = g.met.D.Driver g.world.𝓛 g.world.𝓜 g.world.𝓡 ((λ s x. x), (λ x. x), (λ x. x), λ x. x) in
    let driving : IsDriver g.D.Driver.drive g.D.Driver.needs g.D.Driver.least = record { lawful = driver.lawful; lasting = λ d seats now. (driver.lasting d seats now).0 } in
    let begun = g.D.Driver.opening w.state.driver in
    let setting = setting_of w.plan w.topology w.limits.seed w.limits.cycles w.limits.limit begun in
    let means = c.meanings_are_lawful.ensures w.plan in
    let lawful = c.settings_are_lawful.ensures.enough w.plan w.topology w.limits.seed w.limits.cycles w.limits.limit begun facts.fits facts.cycles facts.enough in
    let law = laws (meaning_of w.plan) g.D.Driver.drive setting g.D.Driver.needs g.D.Driver.least driving means (c.meanings_are_framed.ensures w.plan) lawful in
    let holds = rw (← c.self.view_is) at c.requires.holds in
    let is_fired = rw (← c.self.view_is) at c.requires.fired in
    let h = c.args.held.now in
    let x = ctl_in h in
    let P = meaning_of w.plan in
    let here = holds.holding facts.world facts.kept.run in
    let open_run = sym facts.kept.verdict ∙ here.held.goes_on in
    let note = note_of c.args.o in
    let told = acts_told (outcome_acts c.args.o) in
    let copies = (outcome_acts c.args.o).posted in
    let after = outcome_ctl c.args.o x in
    let scanned = subst (λ (n : ℕ). ((rules P g.D.Driver.drive setting).scan h.controller x n).outcome ≡ Fired note told copies after) here.cycle is_fired.scanned in
    let few = fire-few P g.D.Driver.drive setting law facts.world w.waiting.items w.state facts.kept open_run c.args.worker h.controller x here.held note told copies after scanned in
    let ctl = ap (λ (y : Ctl). y.fired) c.apply-posted.ensures.after in
    let before = ap (λ (y : Ctl). y.fired) c.room_to_fire.ensures.ctl in
    omega (arith, few, ctl, before, holds.limit, holds.fired, c.fired-held.ensures)
