use Rattle.std.proofs.Common.{ap, get_or}
use Rattle.ctl_tables.specs.declared.stored.StoredTable.{StoredTable}
use Rattle.ctl_tables.proofs.Replaying.{made_at, room_after}
use Rattle.ctl_tables.proofs.tables.change_one.Goals as goal

pub returns-then-at-tables-clause-after : goal.returns-then-at-tables-clause-after
returns-then-at-tables-clause-after c =
    made_at c.args.tables.now (record { table = c.args.table; line = c.args.line; edit = c.args.edit }) c.from-at.result (get_or c.args.tables.now c.from-at.result c.index-tables-at.result) c.edit.new.self c.from-at.ensures c.if-at-tables.true
    (ap (λ (x : StoredTable). get_or c.args.tables.now c.from-at.result x) c.index-tables-at.is) c.edit.ensures.after

pub returns-then-at-tables-clause-room : goal.returns-then-at-tables-clause-room
returns-then-at-tables-clause-room c =
    λ n all. room_after c.args.tables.now c.from-at.result n (get_or c.args.tables.now c.from-at.result c.index-tables-at.result) c.edit.new.self c.if-at-tables.true
    (ap (λ (x : StoredTable). get_or c.args.tables.now c.from-at.result x) c.index-tables-at.is) (c.edit.ensures.room n) all
