use denote.Param.Send.{sendable}
use Rattle.network_book.proofs.BookCrosses.{shared_book-send}
use Rattle.std.proofs.Common.{ℕ, ◌<◌, IfOk, subst}
use Rattle.network_book.specs.Taking.{IsTakenIn}
use Rattle.network_book.proofs.Visiting.{IsLawfulView}
use Rattle.network_book.proofs.Posts.{entered-by}
use Rattle.network_book.proofs.Takes.{take-adds, take-keeps, take-nothing, take-small, take-taken}
use Rattle.network_book.proofs.net.Net.take.Goals as goal

pub number-worker-requires-send-V : goal.number-worker-requires-send-V
number-worker-requires-send-V g c κs within = let d = c.type_bounds.send-D in search (sendable, shared_book-send) depth 10

pub enter-requires-send-V : goal.enter-requires-send-V
enter-requires-send-V g c κs within = let d = c.type_bounds.send-D in search (sendable, shared_book-send) depth 10

pub leave-requires-send-V : goal.leave-requires-send-V
leave-requires-send-V g c κs within = let d = c.type_bounds.send-D in search (sendable, shared_book-send) depth 10

pub invariant_of-leave : goal.invariant_of-leave
invariant_of-leave g c =
    let least = g.D.Driver.least in
    let drive = g.D.Driver.drive in
    let pass = c.args.pass.now in
    let v = c.into_world-world.result in
    let law = c.law.ensures in
    let lawful : IsLawfulView least drive v = record { fits = law.fits; cycles = law.cycles; enough = law.enough; world = law.run.0; is = law.run.1 } in
    let entered = entered-by least drive pass c.enter.new.pass c.enter.result v c.into_world-world.ensures.world c.enter.ensures.pass c.enter.ensures.plan c.enter.ensures.history
    c.into_world-world.ensures.small lawful in
    let same = c.number-worker.ensures.value in
    let law-2 = c.law-2.ensures in
    let after = c.take_next-taken.new.world in
    let r = c.take_next-taken.result in
    let later : IsLawfulView least drive after = record { fits = law-2.fits; cycles = law-2.cycles; enough = law-2.enough; world = law-2.run.0; is = law-2.run.1 } in
    let ok : IfOk r (IsTakenIn drive pass.number v after) = subst (λ (n : ℕ). IfOk r (IsTakenIn drive n v after)) same c.take_next-taken.ensures.ok in
    let few = subst (λ (n : ℕ). n < 64) same c.number-worker.ensures.few in
    take-small least drive c.passes_hand_over.ensures c.controllers_are_few.ensures pass c.enter.new.pass v after entered r ok c.take_next-taken.ensures.err few later

pub leave-requires-clause-history : goal.leave-requires-clause-history
leave-requires-clause-history g c κs within =
    let least = g.D.Driver.least in
    let drive = g.D.Driver.drive in
    let pass = c.args.pass.now in
    let v = c.into_world-world.result in
    let law = c.law.ensures in
    let lawful : IsLawfulView least drive v = record { fits = law.fits; cycles = law.cycles; enough = law.enough; world = law.run.0; is = law.run.1 } in
    let entered = entered-by least drive pass c.enter.new.pass c.enter.result v c.into_world-world.ensures.world c.enter.ensures.pass c.enter.ensures.plan c.enter.ensures.history
    c.into_world-world.ensures.small lawful in
    let same = c.number-worker.ensures.value in
    let law-2 = c.law-2.ensures in
    let after = c.take_next-taken.new.world in
    let r = c.take_next-taken.result in
    let later : IsLawfulView least drive after = record { fits = law-2.fits; cycles = law-2.cycles; enough = law-2.enough; world = law-2.run.0; is = law-2.run.1 } in
    let ok : IfOk r (IsTakenIn drive pass.number v after) = subst (λ (n : ℕ). IfOk r (IsTakenIn drive n v after)) same c.take_next-taken.ensures.ok in
    let few = subst (λ (n : ℕ). n < 64) same c.number-worker.ensures.few in
    take-adds least drive c.passes_hand_over.ensures c.controllers_are_few.ensures pass c.enter.new.pass v after entered r ok c.take_next-taken.ensures.err few later

pub returns-clause-taken : goal.returns-clause-taken
returns-clause-taken g c =
    let least = g.D.Driver.least in
    let drive = g.D.Driver.drive in
    let pass = c.args.pass.now in
    let v = c.into_world-world.result in
    let law = c.law.ensures in
    let lawful : IsLawfulView least drive v = record { fits = law.fits; cycles = law.cycles; enough = law.enough; world = law.run.0; is = law.run.1 } in
    let entered = entered-by least drive pass c.enter.new.pass c.enter.result v c.into_world-world.ensures.world c.enter.ensures.pass c.enter.ensures.plan c.enter.ensures.history
    c.into_world-world.ensures.small lawful in
    let same = c.number-worker.ensures.value in
    let law-2 = c.law-2.ensures in
    let after = c.take_next-taken.new.world in
    let r = c.take_next-taken.result in
    let later : IsLawfulView least drive after = record { fits = law-2.fits; cycles = law-2.cycles; enough = law-2.enough; world = law-2.run.0; is = law-2.run.1 } in
    let ok : IfOk r (IsTakenIn drive pass.number v after) = subst (λ (n : ℕ). IfOk r (IsTakenIn drive n v after)) same c.take_next-taken.ensures.ok in
    let few = subst (λ (n : ℕ). n < 64) same c.number-worker.ensures.few in
    take-taken least drive c.passes_hand_over.ensures c.controllers_are_few.ensures pass c.enter.new.pass v after entered r ok c.take_next-taken.ensures.err few later c.leave.new.pass c.leave.ensures.pass

pub returns-clause-keeps : goal.returns-clause-keeps
returns-clause-keeps g c =
    let least = g.D.Driver.least in
    let drive = g.D.Driver.drive in
    let pass = c.args.pass.now in
    let v = c.into_world-world.result in
    let law = c.law.ensures in
    let lawful : IsLawfulView least drive v = record { fits = law.fits; cycles = law.cycles; enough = law.enough; world = law.run.0; is = law.run.1 } in
    let entered = entered-by least drive pass c.enter.new.pass c.enter.result v c.into_world-world.ensures.world c.enter.ensures.pass c.enter.ensures.plan c.enter.ensures.history
    c.into_world-world.ensures.small lawful in
    let same = c.number-worker.ensures.value in
    let law-2 = c.law-2.ensures in
    let after = c.take_next-taken.new.world in
    let r = c.take_next-taken.result in
    let later : IsLawfulView least drive after = record { fits = law-2.fits; cycles = law-2.cycles; enough = law-2.enough; world = law-2.run.0; is = law-2.run.1 } in
    let ok : IfOk r (IsTakenIn drive pass.number v after) = subst (λ (n : ℕ). IfOk r (IsTakenIn drive n v after)) same c.take_next-taken.ensures.ok in
    let few = subst (λ (n : ℕ). n < 64) same c.number-worker.ensures.few in
    take-keeps least drive c.passes_hand_over.ensures c.controllers_are_few.ensures pass c.enter.new.pass v after entered r ok c.take_next-taken.ensures.err few later c.leave.new.pass c.leave.ensures.pass

pub returns-clause-err : goal.returns-clause-err
returns-clause-err g c =
    let least = g.D.Driver.least in
    let drive = g.D.Driver.drive in
    let pass = c.args.pass.now in
    let v = c.into_world-world.result in
    let law = c.law.ensures in
    let lawful : IsLawfulView least drive v = record { fits = law.fits; cycles = law.cycles; enough = law.enough; world = law.run.0; is = law.run.1 } in
    let entered = entered-by least drive pass c.enter.new.pass c.enter.result v c.into_world-world.ensures.world c.enter.ensures.pass c.enter.ensures.plan c.enter.ensures.history
    c.into_world-world.ensures.small lawful in
    let same = c.number-worker.ensures.value in
    let law-2 = c.law-2.ensures in
    let after = c.take_next-taken.new.world in
    let r = c.take_next-taken.result in
    let later : IsLawfulView least drive after = record { fits = law-2.fits; cycles = law-2.cycles; enough = law-2.enough; world = law-2.run.0; is = law-2.run.1 } in
    let ok : IfOk r (IsTakenIn drive pass.number v after) = subst (λ (n : ℕ). IfOk r (IsTakenIn drive n v after)) same c.take_next-taken.ensures.ok in
    let few = subst (λ (n : ℕ). n < 64) same c.number-worker.ensures.few in
    take-nothing least drive c.passes_hand_over.ensures c.controllers_are_few.ensures pass c.enter.new.pass v after entered r ok c.take_next-taken.ensures.err few later c.leave.new.pass c.leave.ensures.pass
