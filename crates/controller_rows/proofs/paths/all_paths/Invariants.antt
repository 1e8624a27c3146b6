use Rattle.std.proofs.Common.{◌≡◌, map}
use Rattle.std.specs.List.{range_with_len}
use Rattle.controller_rows.specs.Prelude.{paths_from}
use Rattle.controller_rows.proofs.paths.all_paths.Given as goal

abbrev pub invariant-loop-sender : goal.invariant-loop-sender
invariant-loop-sender l = l.all ≡ map (paths_from l.network l.count) (range_with_len 0 l.sender)
