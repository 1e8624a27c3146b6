use Rattle.std.proofs.Common.{◌≡◌, ◌≤◌, drop}
use Rattle.sequencer.specs.Prelude.{FitCallbacks, after_callbacks}
use Rattle.sequencer.proofs.callbacks.finish_all.Given as goal

abbrev pub invariant-loop-a : goal.invariant-loop-a
invariant-loop-a l = record {
  fit : FitCallbacks (drop l.a-index l.answers) l.sequencer.kept;
  after : after_callbacks (drop l.a-index l.answers) l.sequencer.kept ≡ after_callbacks l.answers l.initial.sequencer.kept;
  room : l.initial.sequencer.room ≤ l.sequencer.room;
}
