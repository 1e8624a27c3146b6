use Rattle.ctl_tables.specs.Prelude.{log_of, tables_of}
use Rattle.ctl_tables.proofs.Replaying.{nothing_made, nothing_replays}
use Rattle.ctl_tables.proofs.held.Tables.begin.Goals as goal

pub returns-clause-replays : goal.returns-clause-replays
returns-clause-replays c = nothing_replays (log_of c.clear.new.self) (tables_of c.args.self.now) c.clear.ensures.tables

pub returns-clause-tables : goal.returns-clause-tables
returns-clause-tables c = nothing_made (log_of c.clear.new.self) (tables_of c.args.self.now) c.clear.ensures.tables
