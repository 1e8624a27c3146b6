use Rattle.std.proofs.Common.{◌≡◌, flat_map, map, take}
use Rattle.slicc_plan.specs.Prelude.{transition_in}
use Rattle.machine_table.specs.Prelude.{written_with}
use Rattle.machine_table.proofs.written.written_by_parts.Given as goal

abbrev pub invariant-loop-d : goal.invariant-loop-d
invariant-loop-d l = l.ws ≡ map (written_with l.parts) (flat_map transition_in (take l.d-index l.declarations))
