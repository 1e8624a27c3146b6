use Rattle.std.proofs.Common.{◌-◌, ◌≤◌, Bool, length, drop}
use Rattle.ruby_outside.specs.Prelude.{IsPut}
use Rattle.ruby_outside.proofs.sink.put.Given as goal

abbrev pub invariant-loop-done : goal.invariant-loop-done
invariant-loop-done g l = record {
  within : l.done ≤ length l.piece;
  step : (whole : Bool) (after : _) → IsPut g.S.Sink.writes l.sink (drop l.done l.piece) whole after → IsPut g.S.Sink.writes l.initial.sink l.piece whole after;
}

abbrev pub decreases-loop-done : goal.decreases-loop-done
decreases-loop-done g l = length l.piece - l.done
