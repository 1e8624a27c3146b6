use Rattle.std.proofs.Common.{rules, true}
use Rattle.run_journal.specs.Prelude.{entry_of}
use Rattle.slicc_plan.specs.Prelude.{symbols_of}
use Rattle.trace_print.specs.Prelude.{entry_lines, all_put}
use Rattle.trace_print.proofs.Listing.{one_line}
use Rattle.trace_print.proofs.Written.{lines_written}
use Rattle.trace_print.proofs.entries.write_entry.Goals as goal

pub returns-in-Fired-clause-pieces : goal.returns-in-Fired-clause-pieces
returns-in-Fired-clause-pieces g c = search (rules, one_line g.S.Sink.writes)

pub returns-in-Fired-clause-written : goal.returns-in-Fired-clause-written
returns-in-Fired-clause-written g c =
    lines_written g.S.Sink.written g.S.Sink.faults g.S.Sink.writes g.met.S.Sink.lawful c.args.sink.now (entry_lines (symbols_of c.args.plan.now) c.args.names.now (entry_of c.args.e)) c.write_fired.result c.write_fired.new.sink (returns-in-Fired-clause-pieces g c)

pub returns-in-Ended-clause-written : goal.returns-in-Ended-clause-written
returns-in-Ended-clause-written g c =
    lines_written g.S.Sink.written g.S.Sink.faults g.S.Sink.writes g.met.S.Sink.lawful c.args.sink.now (entry_lines (symbols_of c.args.plan.now) c.args.names.now (entry_of c.args.e)) c.write_end.result c.write_end.new.sink (search rules)

pub returns-in-Turned-clause-pieces : goal.returns-in-Turned-clause-pieces
returns-in-Turned-clause-pieces g c = rw c.in-Turned.is (all_put c.args.sink.now)

pub returns-in-Turned-clause-written : goal.returns-in-Turned-clause-written
returns-in-Turned-clause-written g c =
    lines_written g.S.Sink.written g.S.Sink.faults g.S.Sink.writes g.met.S.Sink.lawful c.args.sink.now (entry_lines (symbols_of c.args.plan.now) c.args.names.now (entry_of c.args.e)) true c.args.sink.now (returns-in-Turned-clause-pieces g c)
