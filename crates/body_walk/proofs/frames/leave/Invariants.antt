use Rattle.std.proofs.Common.{◌≡◌, length}
use Rattle.body_meaning.specs.Prelude.{outermost}
use Rattle.body_walk.proofs.frames.leave.Given as goal

abbrev pub invariant-loop-frame : goal.invariant-loop-frame
invariant-loop-frame l = record {
  names : outermost l.n l.frame.names ≡ outermost l.n l.initial.frame.names;
  about : l.frame.about ≡ l.initial.frame.about;
}

abbrev pub decreases-loop-frame : goal.decreases-loop-frame
decreases-loop-frame l = length l.frame.names
