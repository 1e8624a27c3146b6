use Rattle.std.proofs.Common.{rules}
use Rattle.trace_print.specs.Prelude.{code_lines}
use Rattle.trace_print.proofs.Written.{lines_written}
use Rattle.trace_print.proofs.code.write_code.Goals as goal

pub returns-clause-written : goal.returns-clause-written
returns-clause-written g c =
    lines_written g.S.Sink.written g.S.Sink.faults g.S.Sink.writes g.met.S.Sink.lawful c.args.sink.now (code_lines c.args.code.now) c.write_bodies.result c.write_bodies.new.sink (search rules)
