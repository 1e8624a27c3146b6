use denote.Param.Send.{sendable}
use Rattle.network_book.proofs.BookCrosses.{shared_book-send}
use Rattle.std.proofs.Common.{ℕ, arith, Ok, OnOk, Result, refl, subst, sym}
use Rattle.run_journal.specs.declared.event.Event.TheVariants.{Release}
use Rattle.ruby_world.specs.Prelude.{HasAdded, Holds}
use Rattle.network_book.specs.Numbers.{IsSmall}
use Rattle.network_book.proofs.Visiting.{IsLawfulView, holds-found, other-controller}
use Rattle.network_book.proofs.Posts.{entered-by, held-small, post-adds, post-keeps, post-small, post-visited}
use Rattle.network_book.proofs.net.Net.release.Goals as goal

pub number-worker-requires-send-V : goal.number-worker-requires-send-V
number-worker-requires-send-V g c κs within = let d = c.type_bounds.send-D in search (sendable, shared_book-send) depth 10

pub enter-requires-send-V : goal.enter-requires-send-V
enter-requires-send-V g c κs within = let d = c.type_bounds.send-D in search (sendable, shared_book-send) depth 10

pub leave-requires-send-V : goal.leave-requires-send-V
leave-requires-send-V g c κs within = let d = c.type_bounds.send-D in search (sendable, shared_book-send) depth 10

pub release-requires-after_bounds : goal.release-requires-after_bounds
release-requires-after_bounds g c κs within = let least = g.D.Driver.least in
    let drive = g.D.Driver.drive in
    let pass = c.args.pass.now in
    let v = c.into_world-world.result in
    let law = c.law.ensures in
    let lawful : IsLawfulView least drive v = record { fits = law.fits; cycles = law.cycles; enough = law.enough; world = law.run.0; is = law.run.1 } in
    let entered = entered-by least drive pass c.enter.new.pass c.enter.result v c.into_world-world.ensures.world c.enter.ensures.pass c.enter.ensures.plan c.enter.ensures.history
    c.into_world-world.ensures.small lawful in
    let same = c.number-worker.ensures.value in
    subst (λ (n : ℕ). Holds drive v n c.args.held) (sym same)
    (holds-found least drive c.passes_hand_over.ensures pass c.enter.new.pass v entered c.args.held c.requires.holds)

pub invariant_of-leave : goal.invariant_of-leave
invariant_of-leave g c =
    let least = g.D.Driver.least in
    let drive = g.D.Driver.drive in
    let pass = c.args.pass.now in
    let v = c.into_world-world.result in
    let law = c.law.ensures in
    let lawful : IsLawfulView least drive v = record { fits = law.fits; cycles = law.cycles; enough = law.enough; world = law.run.0; is = law.run.1 } in
    let entered = entered-by least drive pass c.enter.new.pass c.enter.result v c.into_world-world.ensures.world c.enter.ensures.pass c.enter.ensures.plan c.enter.ensures.history
    c.into_world-world.ensures.small lawful in
    let same = c.number-worker.ensures.value in
    let law-2 = c.law-2.ensures in
    let after = c.release.new.self in
    let later : IsLawfulView least drive after = record { fits = law-2.fits; cycles = law-2.cycles; enough = law-2.enough; world = law-2.run.0; is = law-2.run.1 } in
    let e = Release pass.number c.args.held.controller in
    let held : Holds drive v pass.number c.args.held = holds-found least drive c.passes_hand_over.ensures pass c.enter.new.pass v entered c.args.held c.requires.holds in
    let small : IsSmall e = record { worker = let few = c.number-worker.ensures.few in omega (arith, few, same); controller = held-small least drive c.controllers_are_few.ensures v lawful pass.number c.args.held held } in
    let r : Result (Unit {0}) (Unit {0}) = Ok tt in
    let added : OnOk r (HasAdded v e after) = subst (λ (n : ℕ). OnOk r (HasAdded v (Release n c.args.held.controller) after)) same c.release.ensures.added in
    post-small least drive c.passes_hand_over.ensures pass c.enter.new.pass v after entered r e added tt refl small later

pub leave-requires-clause-history : goal.leave-requires-clause-history
leave-requires-clause-history g c κs within =
    let least = g.D.Driver.least in
    let drive = g.D.Driver.drive in
    let pass = c.args.pass.now in
    let v = c.into_world-world.result in
    let law = c.law.ensures in
    let lawful : IsLawfulView least drive v = record { fits = law.fits; cycles = law.cycles; enough = law.enough; world = law.run.0; is = law.run.1 } in
    let entered = entered-by least drive pass c.enter.new.pass c.enter.result v c.into_world-world.ensures.world c.enter.ensures.pass c.enter.ensures.plan c.enter.ensures.history
    c.into_world-world.ensures.small lawful in
    let same = c.number-worker.ensures.value in
    let law-2 = c.law-2.ensures in
    let after = c.release.new.self in
    let later : IsLawfulView least drive after = record { fits = law-2.fits; cycles = law-2.cycles; enough = law-2.enough; world = law-2.run.0; is = law-2.run.1 } in
    let e = Release pass.number c.args.held.controller in
    let held : Holds drive v pass.number c.args.held = holds-found least drive c.passes_hand_over.ensures pass c.enter.new.pass v entered c.args.held c.requires.holds in
    let small : IsSmall e = record { worker = let few = c.number-worker.ensures.few in omega (arith, few, same); controller = held-small least drive c.controllers_are_few.ensures v lawful pass.number c.args.held held } in
    let r : Result (Unit {0}) (Unit {0}) = Ok tt in
    let added : OnOk r (HasAdded v e after) = subst (λ (n : ℕ). OnOk r (HasAdded v (Release n c.args.held.controller) after)) same c.release.ensures.added in
    post-adds least drive c.passes_hand_over.ensures pass c.enter.new.pass v after entered r e added tt refl small later

pub returns-clause-visited : goal.returns-clause-visited
returns-clause-visited g c =
    let least = g.D.Driver.least in
    let drive = g.D.Driver.drive in
    let pass = c.args.pass.now in
    let v = c.into_world-world.result in
    let law = c.law.ensures in
    let lawful : IsLawfulView least drive v = record { fits = law.fits; cycles = law.cycles; enough = law.enough; world = law.run.0; is = law.run.1 } in
    let entered = entered-by least drive pass c.enter.new.pass c.enter.result v c.into_world-world.ensures.world c.enter.ensures.pass c.enter.ensures.plan c.enter.ensures.history
    c.into_world-world.ensures.small lawful in
    let same = c.number-worker.ensures.value in
    let law-2 = c.law-2.ensures in
    let after = c.release.new.self in
    let later : IsLawfulView least drive after = record { fits = law-2.fits; cycles = law-2.cycles; enough = law-2.enough; world = law-2.run.0; is = law-2.run.1 } in
    let e = Release pass.number c.args.held.controller in
    let held : Holds drive v pass.number c.args.held = holds-found least drive c.passes_hand_over.ensures pass c.enter.new.pass v entered c.args.held c.requires.holds in
    let small : IsSmall e = record { worker = let few = c.number-worker.ensures.few in omega (arith, few, same); controller = held-small least drive c.controllers_are_few.ensures v lawful pass.number c.args.held held } in
    let r : Result (Unit {0}) (Unit {0}) = Ok tt in
    let added : OnOk r (HasAdded v e after) = subst (λ (n : ℕ). OnOk r (HasAdded v (Release n c.args.held.controller) after)) same c.release.ensures.added in
    post-visited least drive c.passes_hand_over.ensures pass c.enter.new.pass v after entered r e added tt refl small later c.leave.new.pass c.leave.ensures.pass

pub returns-clause-keeps : goal.returns-clause-keeps
returns-clause-keeps g c =
    let least = g.D.Driver.least in
    let drive = g.D.Driver.drive in
    let pass = c.args.pass.now in
    let v = c.into_world-world.result in
    let law = c.law.ensures in
    let lawful : IsLawfulView least drive v = record { fits = law.fits; cycles = law.cycles; enough = law.enough; world = law.run.0; is = law.run.1 } in
    let entered = entered-by least drive pass c.enter.new.pass c.enter.result v c.into_world-world.ensures.world c.enter.ensures.pass c.enter.ensures.plan c.enter.ensures.history
    c.into_world-world.ensures.small lawful in
    let same = c.number-worker.ensures.value in
    let law-2 = c.law-2.ensures in
    let after = c.release.new.self in
    let later : IsLawfulView least drive after = record { fits = law-2.fits; cycles = law-2.cycles; enough = law-2.enough; world = law-2.run.0; is = law-2.run.1 } in
    let e = Release pass.number c.args.held.controller in
    let held : Holds drive v pass.number c.args.held = holds-found least drive c.passes_hand_over.ensures pass c.enter.new.pass v entered c.args.held c.requires.holds in
    let small : IsSmall e = record { worker = let few = c.number-worker.ensures.few in omega (arith, few, same); controller = held-small least drive c.controllers_are_few.ensures v lawful pass.number c.args.held held } in
    let r : Result (Unit {0}) (Unit {0}) = Ok tt in
    let added : OnOk r (HasAdded v e after) = subst (λ (n : ℕ). OnOk r (HasAdded v (Release n c.args.held.controller) after)) same c.release.ensures.added in
    λ h other. post-keeps least drive c.passes_hand_over.ensures pass c.enter.new.pass v after entered r e added tt refl small later c.leave.new.pass c.leave.ensures.pass h
    (other-controller pass.number pass.number c.args.held.controller h.controller (λ is. other (sym is)))
