use Rattle.std.proofs.Common.{◌≡◌, drop, find}
use Rattle.std.specs.List.{flat_map}
use Rattle.slicc_plan.specs.Prelude.{named_declarations, is_states}
use Rattle.call_types.proofs.wanted.states_among.Given as goal

abbrev pub invariant-loop-d : goal.invariant-loop-d
invariant-loop-d l =
    find is_states (flat_map named_declarations l.declarations) ≡ find is_states (flat_map named_declarations (drop l.d-index l.declarations))
