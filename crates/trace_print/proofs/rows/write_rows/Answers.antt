use Rattle.std.proofs.Common.{rules}
use Rattle.slicc_plan.specs.Prelude.{symbols_of}
use Rattle.trace_print.specs.Prelude.{row_lines}
use Rattle.trace_print.proofs.Written.{lines_written}
use Rattle.trace_print.proofs.rows.write_rows.Goals as goal

pub returns-clause-written : goal.returns-clause-written
returns-clause-written g c =
    lines_written g.S.Sink.written g.S.Sink.faults g.S.Sink.writes g.met.S.Sink.lawful c.args.sink.now (row_lines (symbols_of c.args.plan.now) c.args.machine c.args.rows.now) c.write_each.result c.write_each.new.sink (search rules)
