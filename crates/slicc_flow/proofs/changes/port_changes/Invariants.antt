use Rattle.std.proofs.Common.{◌≡◌, flat_map, take}
use Rattle.slicc_plan.specs.Prelude.{first_after, changes_at}
use Rattle.slicc_flow.proofs.changes.port_changes.Given as goal

abbrev pub invariant-loop-b : goal.invariant-loop-b
invariant-loop-b l =
    l.first ≡ first_after l.initial.first (flat_map (changes_at l.machine) (take l.b-index l.ports))
