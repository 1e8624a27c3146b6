use Rattle.std.proofs.Common.{◌+◌, ◌*◌, ◌<◌, Some, length, slice_get, sym, subst, ap, ◌∙◌, rules, arith}
use Rattle.built_in_acts.specs.Prelude.{argument}
use Rattle.code_meaning.specs.Prelude.{argument_count}
use Rattle.action_vm.specs.Prelude.{IsCallOn, end_of, own}
use Rattle.action_vm.proofs.RunSteps.{call_ends, call_is, call_stops, callee, comes_to, ends_with, fails, goes_to, left_itself, needs, no_call, same_end, walk_begins}
use Rattle.action_vm.proofs.running.+running.Goals as goal

pub run-enter-requires : goal.run-enter-requires
run-enter-requires g t c =
    let on : IsCallOn c.args.p.now (Some c.index-c.result.now) c.args.frame.now.stack (g.T.Local.view c.args.local.now) = subst (λ o. IsCallOn c.args.p.now o c.args.frame.now.stack (g.T.Local.view c.args.local.now)) c.index-c.ensures c.requires.call in
    omega (arith, on.1, c.len.ensures)

pub run-walk-init : goal.run-walk-init
run-walk-init g t c =
    let b = walk_begins c.args.p.now c.requires.fits c.args.body c.index-c.result.now c.index-c.ensures c.args.frame.now c.enter.new.self (record { inner = c.new.result; made = c.new-2.result }) (g.T.Local.view c.args.local.now) c.len.result c.as_slice.result.now
    c.requires.call c.len.ensures c.as_slice.ensures c.in_ok-mark.ensures.begun c.new.ensures c.new-2.ensures in
    (c.index-c.ensures, b.0, b.1, c.in_ok-mark.ensures.mark, b.2)

pub run-returns-in-Err-clause-does : goal.run-returns-in-Err-clause-does
run-returns-in-Err-clause-does g t c =
    fails c.args.p.now c.requires.fits c.args.body c.index-c.result.now c.walk.invariant.0 c.walk.at (own c.walk.frame c.walk.messages) (g.T.Local.view c.walk.local) c.walk.invariant.1 (g.met.T.Local.lawful c.walk.local) _ (λ e. end_of e c.step.new.frame.stack) c.in-Err.trouble (g.T.Local.view c.step.new.local) _ _ c.in-Err.ensures.does c.walk.invariant.2

pub run-walk-smaller : goal.run-walk-smaller
run-walk-smaller g t c =
    let m = goes_to c.args.p.now c.requires.fits c.args.body c.index-c.result.now c.walk.invariant.0 c.walk.at (own c.walk.frame c.walk.messages) (g.T.Local.view c.walk.local) c.walk.invariant.1 (g.met.T.Local.lawful c.walk.local) c.in-Ok.next c.in-Ok-place_after.to (own c.step.new.frame c.step.new.messages) (g.T.Local.view c.step.new.local) c.in-Ok.ensures.does c.in-Ok.ensures.places c.in-Ok-place_after.ensures in
    let forward : c.walk.at < c.in-Ok-place_after.to = m.1 in
    let is = c.walk.invariant.1 in
    let within : c.walk.at < length c.index-c.result.now.instructions = is.within in
    omega arith

pub run-walk-preserved : goal.run-walk-preserved
run-walk-preserved g t c =
    let m = goes_to c.args.p.now c.requires.fits c.args.body c.index-c.result.now c.walk.invariant.0 c.walk.at (own c.walk.frame c.walk.messages) (g.T.Local.view c.walk.local) c.walk.invariant.1 (g.met.T.Local.lawful c.walk.local) c.in-Ok.next c.in-Ok-place_after.to (own c.step.new.frame c.step.new.messages) (g.T.Local.view c.step.new.local) c.in-Ok.ensures.does c.in-Ok.ensures.places c.in-Ok-place_after.ensures in
    (c.walk.invariant.0, m.0, sym m.2 ∙ c.walk.invariant.2, c.walk.invariant.3, c.in-Ok.ensures.under ∙ c.walk.invariant.4)

pub step-run-requires : goal.step-run-requires
step-run-requires g t c κs within =
    let d = callee c.args.p.now c.requires.fits c.args.body c.args.c.now c.requires.body c.args.at c.in-Call.n (own c.args.frame.now c.args.messages.now) (g.T.Local.view c.args.local.now) c.requires.at (c.index-i.ensures ∙ ap Some c.in-Call.is) in
    let lower : c.in-Call.n < c.args.body = d.lower in
    let less : 2 * c.in-Call.n + 1 < 2 * c.args.body = omega (arith, lower) in
    (search rules, (search rules, (c.requires.fits, call_is c.args.p.now c.requires.fits c.args.body c.args.c.now c.requires.body c.args.at c.in-Call.n (own c.args.frame.now c.args.messages.now) (g.T.Local.view c.args.local.now) c.requires.at (c.index-i.ensures ∙ ap Some c.in-Call.is))))

pub step-returns-in_err-end-clause-does : goal.step-returns-in_err-end-clause-does
step-returns-in_err-end-clause-does g t c =
    call_stops c.args.p.now c.requires.fits c.args.body c.args.c.now c.requires.body c.args.at c.in-Call.n (own c.args.frame.now c.args.messages.now) (g.T.Local.view c.args.local.now) c.requires.at (c.index-i.ensures ∙ ap Some c.in-Call.is) _ _ c.in_err-end.field-0.0 _ _ c.in_err-end.ensures.does c.from_residual.ensures.1

pub step-returns-in-Call-clause-does : goal.step-returns-in-Call-clause-does
step-returns-in-Call-clause-does g t c =
    rw c.called.ensures
    (call_ends c.args.p.now c.requires.fits c.args.body c.args.c.now c.requires.body c.args.at c.in-Call.n c.args.frame.now c.run.new.frame c.args.messages.now (g.T.Local.view c.args.local.now) c.requires.at (c.index-i.ensures ∙ ap Some c.in-Call.is) c.in_ok-end.end _ c.in_ok-end.ensures.does c.in_ok-end.ensures.frame)

pub step-turn-requires : goal.step-turn-requires
step-turn-requires g t c = record {
  call = no_call c.index-i.result.now c.in_default.not-Call;
  needs = needs c.args.p.now c.requires.fits c.args.body c.args.c.now c.requires.body c.args.at (own c.args.frame.now c.args.messages.now) (g.T.Local.view c.args.local.now) c.requires.at c.index-i.result.now c.index-i.ensures (g.met.T.Local.lawful c.args.local.now);
  places = c.requires.at.places;
}

pub run-returns-in-Err-place_after-clause-does : goal.run-returns-in-Err-place_after-clause-does
run-returns-in-Err-place_after-clause-does g t c =
    rw c.in_ok-finish-in-Err-place_after.ensures.end
    (ends_with c.args.p.now c.requires.fits c.args.body c.index-c.result.now c.walk.invariant.0 c.walk.at (own c.walk.frame c.walk.messages) (g.T.Local.view c.walk.local) c.walk.invariant.1 (g.met.T.Local.lawful c.walk.local) (λ e. end_of e c.finish.new.frame.stack) c.in-Err-place_after.end c.step.new.frame.stack (g.T.Local.view c.step.new.local) _ _
    (comes_to c.args.p.now c.requires.fits c.args.body c.index-c.result.now c.walk.invariant.0 c.walk.at (own c.walk.frame c.walk.messages) (g.T.Local.view c.walk.local) c.walk.invariant.1 (g.met.T.Local.lawful c.walk.local) c.in-Ok.next c.in-Err-place_after.end (own c.step.new.frame c.step.new.messages) (g.T.Local.view c.step.new.local) c.in-Ok.ensures.does c.in-Err-place_after.ensures)
    c.walk.invariant.2
    (same_end c.in-Err-place_after.end c.step.new.frame.stack (argument_count (slice_get c.args.p.now.bodies c.args.body)) c.args.frame.now c.finish.new.frame (c.in_ok-finish-in-Err-place_after.ensures.frame c.args.frame.now (argument_count (slice_get c.args.p.now.bodies c.args.body)) c.walk.invariant.3 (c.in-Ok.ensures.under ∙ c.walk.invariant.4))))

pub run-returns-in-Err-place_after-clause-frame : goal.run-returns-in-Err-place_after-clause-frame
run-returns-in-Err-place_after-clause-frame g t c =
    rw c.in_ok-finish-in-Err-place_after.ensures.end
    (left_itself c.in-Err-place_after.end (argument c.step.new.frame.stack 0) (argument_count (slice_get c.args.p.now.bodies c.args.body)) c.args.frame.now c.finish.new.frame (c.in_ok-finish-in-Err-place_after.ensures.frame c.args.frame.now (argument_count (slice_get c.args.p.now.bodies c.args.body)) c.walk.invariant.3 (c.in-Ok.ensures.under ∙ c.walk.invariant.4)))
