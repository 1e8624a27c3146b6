use Rattle.std.proofs.Common.{◌-◌}
use Rattle.body_code.specs.Statements.{event_chosen}
use Rattle.emit_statements.proofs.TriggerSteps.{EventsLead}
use Rattle.emit_statements.proofs.triggers.event_chosen.Given as goal

abbrev pub invariant-loop-k : goal.invariant-loop-k
invariant-loop-k l = EventsLead l.events l.slot (l.count - l.k) l.k l.code (event_chosen l.events l.slot (l.count - 1) 1) l.initial.code
