use Rattle.body_meaning.specs.Prelude.{scan}
use Rattle.body_meaning.proofs.Scans.{full_leaves, idle_leaves, scan_leaves, stopped_leaves}
use Rattle.body_meaning.proofs.laws.scans_that_fire_nothing_change_nothing.Goals as goal

pub returns : goal.returns
returns c = record {
  stopped = λ s limit fired v at. stopped_leaves v (scan s limit fired v) at (scan_leaves s limit fired v);
  full = λ s limit fired v. full_leaves v (scan s limit fired v) (scan_leaves s limit fired v);
  idle = λ s limit fired v. idle_leaves v (scan s limit fired v) (scan_leaves s limit fired v);
}
