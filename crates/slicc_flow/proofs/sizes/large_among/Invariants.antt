use Rattle.std.proofs.Common.{◌≡◌, flat_map, take}
use Rattle.slicc_plan.specs.Prelude.{large_at, first_after}
use Rattle.slicc_flow.proofs.sizes.large_among.Given as goal

abbrev pub invariant-loop-b : goal.invariant-loop-b
invariant-loop-b l =
    l.first ≡ first_after l.initial.first (flat_map (large_at l.machine l.functions) (take l.b-index l.bodies))
