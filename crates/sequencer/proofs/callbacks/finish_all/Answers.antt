use Rattle.std.proofs.Common.{◌≤◌, add-one, length, sym, ◌∙◌, arith}
use Rattle.sequencer.proofs.CallbackLog.{fit-here, fit-rest, after-rest, after-end}
use Rattle.sequencer.proofs.callbacks.finish_all.Goals as goal

pub finish-requires : goal.finish-requires
finish-requires c = fit-here c.args.answers.now c.loop-a.a-index _ c.loop-a.sequencer.kept (omega arith) c.loop-a.invariant.fit

pub loop-a-preserved : goal.loop-a-preserved
loop-a-preserved c = record {
  fit = rw (add-one, c.finish.ensures.after) (fit-rest c.args.answers.now c.loop-a.a-index _ c.loop-a.sequencer.kept (omega arith) c.loop-a.invariant.fit);
  after = rw (add-one, c.finish.ensures.after) (after-rest c.args.answers.now c.loop-a.a-index _ c.loop-a.sequencer.kept (omega arith) ∙ c.loop-a.invariant.after);
  room = omega (arith, c.finish.ensures.room, c.loop-a.invariant.room);
}

pub returns-clause-after : goal.returns-clause-after
returns-clause-after c =
    let end : length c.args.answers.now ≤ c.loop-a.a-index = omega arith in
    sym (after-end c.args.answers.now c.loop-a.a-index c.loop-a.sequencer.kept end) ∙ c.loop-a.invariant.after
