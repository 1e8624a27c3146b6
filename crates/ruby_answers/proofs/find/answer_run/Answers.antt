use Rattle.std.proofs.Common.{rules}
use Rattle.ruby_answers.proofs.Answering.{read_right, topology_more}
use Rattle.ruby_answers.proofs.find.answer_run.Goals as goal

pub returns-clause-found : goal.returns-clause-found
returns-clause-found g c =
    topology_more g.L.Library.reads c.args.options c.args.library.now c.read-got.new.self c.unwrap-name.result.now c.read-got.result _ c.requires.command
    (search rules) c.read-got.ensures (read_right c.args.options c.args.plan c.read-got.result c.answer_got.result c.answer_got.ensures.right)
