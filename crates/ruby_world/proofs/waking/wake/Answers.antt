use Rattle.std.proofs.Common.{ℕ, refl, subst, sym}
use Rattle.ruby_world.specs.Prelude.{InWorld, IsOnlyHeld}
use Rattle.std.proofs.lemmas.Result.{on_ok_weaker}
use Rattle.run_journal.specs.declared.event.Event.TheVariants.{Take}
use Rattle.ruby_world.proofs.Views.{alone-one, alone-then, event-stays, next-alone, next-taken, stays-finishes, take-only}
use Rattle.ruby_world.proofs.waking.wake.Goals as goal

pub take-requires-after_bounds : goal.take-requires-after_bounds
take-requires-after_bounds g c κs within = λ w is. next-taken g.D.Driver.drive c.args.world.now c.args.c w (c.requires.next w is)

pub returns-clause-alone : goal.returns-clause-alone
returns-clause-alone g c =
    let run = c.law.ensures.run in
    on_ok_weaker c.wake_held.result
    (λ alone.
    alone-then g.D.Driver.drive c.args.world.now c.take.new.self c.wake_held.new.world
    (alone-one g.D.Driver.drive c.args.world.now c.take.new.self (Take 0 c.args.c) run.0 c.in_ok-held.ensures.added run.1
    (next-alone g.D.Driver.drive c.args.world.now c.args.c run.0 (c.requires.next run.0 run.1)))
    alone)
    c.wake_held.ensures.alone

pub returns-clause-finishes : goal.returns-clause-finishes
returns-clause-finishes g c =
    let mid = c.law-2.ensures.run in
    on_ok_weaker c.wake_held.result
    (λ finishes.
    stays-finishes g.D.Driver.drive c.args.world.now c.take.new.self c.wake_held.new.world mid.0 mid.1
    (event-stays g.D.Driver.drive c.args.world.now c.take.new.self (Take 0 c.args.c) c.in_ok-held.ensures.added refl) finishes)
    c.wake_held.ensures.finishes

pub wake_held-requires-clause-only : goal.wake_held-requires-clause-only
wake_held-requires-clause-only g c κs within =
    let run = c.law.ensures.run in
    let next = c.requires.next run.0 run.1 in
    subst (λ (n : ℕ). InWorld g.D.Driver.drive c.take.new.self (IsOnlyHeld n)) (sym c.in_ok-held.ensures.controller)
    (take-only g.D.Driver.drive c.args.world.now c.take.new.self c.args.c run.0 next.between.nobody run.1 c.in_ok-held.ensures.added)
