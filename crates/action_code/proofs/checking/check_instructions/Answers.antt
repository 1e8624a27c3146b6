-- What is broken from here on is what is broken from the start; a fault at this place is the first.
use Rattle.std.proofs.Common.{◌<◌, length, sym, ◌∙◌, arith}
use Rattle.action_code.proofs.Steps.{answers_through, from_here, from_next}
use Rattle.action_code.proofs.checking.check_instructions.Goals as goal

pub returns-in-Err : goal.returns-in-Err
returns-in-Err c =
    let lt : c.loop-at.at < length c.args.c.now.instructions = omega (arith, c.loop-at-test.true, c.len-count.ensures) in
    answers_through (Unit {0}) (Unit {0}) _ _ c.in-Err.fault
    (λ x e. sym c.loop-at.invariant.2 ∙ from_here c.args.p.now c.args.body c.args.c.now c.loop-at.at x lt e) c.in-Err.ensures.judged

pub loop-at-preserved : goal.loop-at-preserved
loop-at-preserved c =
    let lt : c.loop-at.at < length c.args.c.now.instructions = omega (arith, c.loop-at-test.true, c.len-count.ensures) in (
      c.check_at.ensures.count ∙ c.loop-at.invariant.0,
      c.in-Ok.ensures.holds,
      sym (from_next c.args.p.now c.args.body c.args.c.now c.loop-at.at lt c.in-Ok.ensures.judged) ∙ c.loop-at.invariant.2,
    )
