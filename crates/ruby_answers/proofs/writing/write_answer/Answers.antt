use Rattle.trace_print.proofs.Written.{lines_written}
use Rattle.ruby_answers.specs.Prelude.{lines_of}
use Rattle.ruby_answers.proofs.writing.write_answer.Goals as goal

pub returns-clause-written : goal.returns-clause-written
returns-clause-written g c =
    lines_written g.S.Sink.written g.S.Sink.faults g.S.Sink.writes g.met.S.Sink.lawful c.args.sink.now (lines_of c.args.answer.now) c.write_lines.result c.write_lines.new.sink c.write_lines.ensures
