use Rattle.std.proofs.Common.{None, Some, ap, ◌∙◌, find}
use Rattle.std.specs.List.{flat_map}
use Rattle.slicc_plan.specs.Declarations.{enumeration}
use Rattle.slicc_plan.specs.Prelude.{named_declarations, is_events}
use Rattle.call_types.proofs.OwnTypes.{events_known}
use Rattle.call_types.proofs.wanted.events_type.Goals as goal

pub returns-in-None : goal.returns-in-None
returns-in-None c =
    events_known c.args.m.now None (c.in-None.ensures ∙ ap (λ ds. find is_events (flat_map named_declarations ds)) c.deref.ensures)

pub returns-in-Some : goal.returns-in-Some
returns-in-Some c =
    events_known c.args.m.now (Some (enumeration c.in-Some.e.now)) (c.in-Some.ensures ∙ ap (λ ds. find is_events (flat_map named_declarations ds)) c.deref.ensures)
