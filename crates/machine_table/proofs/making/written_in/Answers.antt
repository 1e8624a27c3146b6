use Rattle.std.proofs.Common.{◌∙◌}
use Rattle.machine_table.proofs.AmongParts.{among_as}
use Rattle.machine_table.proofs.making.written_in.Goals as goal

pub shared_of-requires-clause-among : goal.shared_of-requires-clause-among
shared_of-requires-clause-among c =
    among_as c.args.m.now c.deref.result.now c.state_count.result c.event_count.result (c.deref.ensures ∙ c.in_ok-ws.ensures.written) c.state_count.ensures c.event_count.ensures
