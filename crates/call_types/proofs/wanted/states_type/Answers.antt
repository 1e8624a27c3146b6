use Rattle.std.proofs.Common.{None, Some, ap, ◌∙◌, find}
use Rattle.std.specs.List.{flat_map}
use Rattle.slicc_plan.specs.Prelude.{states, named_declarations, is_states}
use Rattle.call_types.proofs.OwnTypes.{states_known}
use Rattle.call_types.proofs.wanted.states_type.Goals as goal

pub returns-in-None : goal.returns-in-None
returns-in-None c =
    states_known c.args.m.now None (c.in-None.ensures ∙ ap (λ ds. find is_states (flat_map named_declarations ds)) c.deref.ensures)

pub returns-in-Some : goal.returns-in-Some
returns-in-Some c =
    states_known c.args.m.now (Some (states c.in-Some.s.now)) (c.in-Some.ensures ∙ ap (λ ds. find is_states (flat_map named_declarations ds)) c.deref.ensures)
