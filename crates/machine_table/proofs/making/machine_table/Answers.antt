use Rattle.std.proofs.Common.{◌∙◌}
use Rattle.machine_table.proofs.AmongParts.{among_as}
use Rattle.machine_table.proofs.making.machine_table.Goals as goal

pub table_of-requires-clause-among : goal.table_of-requires-clause-among
table_of-requires-clause-among c =
    among_as c.args.m.now c.deref.result.now c.state_count.result c.event_count.result (c.deref.ensures ∙ c.in_ok-ws.ensures.written) c.state_count.ensures c.event_count.ensures
