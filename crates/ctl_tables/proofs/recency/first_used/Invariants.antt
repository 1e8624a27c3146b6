use Rattle.std.proofs.Common.{◌≡◌, Some, drop}
use Rattle.ctl_face.specs.Prelude.{CacheTable}
use Rattle.ctl_tables.specs.Prelude.{frame_of, first_used}
use Rattle.ctl_tables.proofs.recency.first_used.Given as goal

abbrev pub invariant-loop-i : goal.invariant-loop-i
invariant-loop-i l = first_used (Some (frame_of (CacheTable l.cache))) l.table l.line (drop l.i l.log) ≡ first_used (Some (frame_of (CacheTable l.cache))) l.table l.line l.log
