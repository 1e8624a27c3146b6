use Rattle.ruby_cli.proofs.AskedOptions.{not_read}
use Rattle.ruby_cli.proofs.program.answer_words.Goals as goal

pub returns-in-Err-NoMemory-clause-answered : goal.returns-in-Err-NoMemory-clause-answered
returns-in-Err-NoMemory-clause-answered g c =
    not_read g.L.Library.reads g.S.Sink.writes c.args.library.now c.args.sink.now _ c.out_of_memory.result c.out_of_memory.ensures
