use Rattle.ctl_tables.specs.declared.change.Edit.TheVariants as edit
use Rattle.ctl_tables.specs.Prelude.{log_of, tables_now, tables_of, set_in}
use Rattle.ctl_tables.proofs.Doing.{does_by_log, fill_done, replays_by_log, write_done}
use Rattle.ctl_tables.proofs.held.Tables.set.Goals as goal

pub returns-in-Kept-clause-does : goal.returns-in-Kept-clause-does
returns-in-Kept-clause-does c =
    does_by_log c.log.result (log_of c.args.changes.now) (log_of c.log.new.self) (tables_of c.args.self.now) (record { table = c.args.r.now.table; line = c.args.r.now.line; edit = edit.Write c.args.field c.args.v })
    (set_in (tables_now c.args.self.now c.args.changes.now) c.args.r.now c.args.field c.args.v)
    (write_done (tables_now c.args.self.now c.args.changes.now) c.args.r.now.table c.args.r.now.line c.args.field c.args.v c.in-Kept.ensures c.requires.within)
    c.log.ensures.ok c.log.ensures.err c.log.ensures.memory

pub returns-in-Kept-clause-replays : goal.returns-in-Kept-clause-replays
returns-in-Kept-clause-replays c =
    replays_by_log c.log.result (log_of c.args.changes.now) (log_of c.log.new.self) (tables_of c.args.self.now) (record { table = c.args.r.now.table; line = c.args.r.now.line; edit = edit.Write c.args.field c.args.v })
    (write_done (tables_now c.args.self.now c.args.changes.now) c.args.r.now.table c.args.r.now.line c.args.field c.args.v c.in-Kept.ensures c.requires.within).can
    c.requires.replays c.log.ensures.ok c.log.ensures.err

pub returns-in-Ok-clause-does : goal.returns-in-Ok-clause-does
returns-in-Ok-clause-does c =
    does_by_log c.log-in-Ok.result (log_of c.args.changes.now) (log_of c.log-in-Ok.new.self) (tables_of c.args.self.now) (record { table = c.args.r.now.table; line = c.args.r.now.line; edit = edit.Fill c.in-Ok.whole })
    (set_in (tables_now c.args.self.now c.args.changes.now) c.args.r.now c.args.field c.args.v)
    (fill_done (tables_now c.args.self.now c.args.changes.now) c.args.r.now.table c.args.r.now.line c.args.field c.args.v c.in-Unwritten.fields.now c.in-Ok.whole c.in-Ok.ensures c.in-Unwritten.ensures)
    c.log-in-Ok.ensures.ok c.log-in-Ok.ensures.err c.log-in-Ok.ensures.memory

pub returns-in-Ok-clause-replays : goal.returns-in-Ok-clause-replays
returns-in-Ok-clause-replays c =
    replays_by_log c.log-in-Ok.result (log_of c.args.changes.now) (log_of c.log-in-Ok.new.self) (tables_of c.args.self.now) (record { table = c.args.r.now.table; line = c.args.r.now.line; edit = edit.Fill c.in-Ok.whole })
    (fill_done (tables_now c.args.self.now c.args.changes.now) c.args.r.now.table c.args.r.now.line c.args.field c.args.v c.in-Unwritten.fields.now c.in-Ok.whole c.in-Ok.ensures c.in-Unwritten.ensures).can
    c.requires.replays c.log-in-Ok.ensures.ok c.log-in-Ok.ensures.err
