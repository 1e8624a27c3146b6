use Rattle.std.proofs.Common.{IsUtf8}
use Rattle.slicc_files.specs.Prelude.{AreSound, steps_left}
use Rattle.slicc_files.proofs.Stepping.{ReachedBy}
use Rattle.slicc_files.proofs.gathering.follow.Given as goal

abbrev pub invariant-loop-next : goal.invariant-loop-next
invariant-loop-next g l = record {
  reached : ReachedBy g.L.Library.reads l.folder l.fn.state l.fn.library l.state l.library;
  text : IsUtf8 l.folder;
  sound : AreSound l.state;
}

abbrev pub decreases-loop-next : goal.decreases-loop-next
decreases-loop-next g l = steps_left l.state
