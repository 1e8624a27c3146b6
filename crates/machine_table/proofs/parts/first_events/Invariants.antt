use Rattle.std.proofs.Common.{◌≡◌, find, flat_map, length}
use Rattle.slicc_plan.specs.Prelude.{named_declarations, is_events}
use Rattle.machine_table.proofs.parts.first_events.Given as goal

abbrev pub invariant-loop-rest : goal.invariant-loop-rest
invariant-loop-rest l = find is_events (flat_map named_declarations l.fn.ds) ≡ find is_events (flat_map named_declarations l.rest)

abbrev pub decreases-loop-rest : goal.decreases-loop-rest
decreases-loop-rest l = length l.rest
