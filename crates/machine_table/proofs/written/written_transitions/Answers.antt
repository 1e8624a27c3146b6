use Rattle.std.proofs.Common.{◌∙◌}
use Rattle.machine_table.proofs.NumbersOfNames.{written_same}
use Rattle.machine_table.proofs.written.written_transitions.Goals as goal

pub returns-clause-written : goal.returns-clause-written
returns-clause-written c =
    c.in_ok-ws.ensures
    ∙ written_same c.in_ok-parts.parts c.args.m.now c.in_ok-parts.ensures.states c.in_ok-parts.ensures.events c.in_ok-parts.ensures.actions
